use Rattle.std.proofs.Common.{sym, subst}
use Rattle.file_store.proofs.Names.{seal_with, TakesSeal, LeavesOthers, StoreState, placed_in, state_from}
use Rattle.file_store.proofs.PutLemmas.{err-files}
use Rattle.file_store.proofs.SealLemmas.{put-sealed}
use Rattle.file_store.proofs.file_store.FileStore.seal_entry.Goals as goal

pub returns-clause-leaves : goal.returns-clause-leaves
returns-clause-leaves g c =
    let number = c.args.number in
    let inside : StoreState = state_from c.self.inside.kept.ledger.files c.self.inside.kept.journal in
    let new : StoreState = state_from c.put_change.new.kept.ledger.files c.put_change.new.kept.journal in
    let takes = subst (λ (s : StoreState). TakesSeal (placed_in s) number c.args.header.len) (sym c.self.view_is) c.requires.takes in
    subst (λ (s : StoreState). LeavesOthers g.D.Disk s new c.put_change.new.disk number) c.self.view_is
    (put-sealed g.D.Disk c.put_change.result inside c.park.new.self.files new c.put_change.new.disk number (seal_with c.args.moment c.args.header.sum c.args.header.len) c.put_change.ensures.stands_on takes.passes
    c.park.ensures c.put_change.ensures.makes (err-files c.put_change.result c.park.new.self c.put_change.new.kept.ledger c.put_change.ensures.err)).0

pub returns-clause-sealed : goal.returns-clause-sealed
returns-clause-sealed g c =
    let number = c.args.number in
    let inside : StoreState = state_from c.self.inside.kept.ledger.files c.self.inside.kept.journal in
    let new : StoreState = state_from c.put_change.new.kept.ledger.files c.put_change.new.kept.journal in
    let takes = subst (λ (s : StoreState). TakesSeal (placed_in s) number c.args.header.len) (sym c.self.view_is) c.requires.takes in
    (put-sealed g.D.Disk c.put_change.result inside c.park.new.self.files new c.put_change.new.disk number (seal_with c.args.moment c.args.header.sum c.args.header.len) c.put_change.ensures.stands_on takes.passes
    c.park.ensures c.put_change.ensures.makes (err-files c.put_change.result c.park.new.self c.put_change.new.kept.ledger c.put_change.ensures.err)).1
