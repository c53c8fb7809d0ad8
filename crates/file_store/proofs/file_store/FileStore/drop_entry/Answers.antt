use Rattle.std.proofs.Common.{subst}
use Rattle.file_store.proofs.Names.{LeavesOthers, StoreState, state_from}
use Rattle.file_store.proofs.PutLemmas.{err-files}
use Rattle.file_store.proofs.SealLemmas.{put-dropped}
use Rattle.file_store.proofs.file_store.FileStore.drop_entry.Goals as goal

pub returns-clause-leaves : goal.returns-clause-leaves
returns-clause-leaves g c =
    let number = c.args.number in
    let inside : StoreState = state_from c.self.inside.kept.ledger.files c.self.inside.kept.journal in
    let new : StoreState = state_from c.put_change.new.kept.ledger.files c.put_change.new.kept.journal in
    subst (λ (s : StoreState). LeavesOthers g.D.Disk s new c.put_change.new.disk number) c.self.view_is
    (put-dropped g.D.Disk c.put_change.result inside new c.put_change.new.disk number c.put_change.ensures.stands_on c.put_change.ensures.makes
    (err-files c.put_change.result c.self.inside.kept.ledger c.put_change.new.kept.ledger c.put_change.ensures.err)).0

pub returns-clause-gone : goal.returns-clause-gone
returns-clause-gone g c =
    let number = c.args.number in
    let inside : StoreState = state_from c.self.inside.kept.ledger.files c.self.inside.kept.journal in
    let new : StoreState = state_from c.put_change.new.kept.ledger.files c.put_change.new.kept.journal in
    (put-dropped g.D.Disk c.put_change.result inside new c.put_change.new.disk number c.put_change.ensures.stands_on c.put_change.ensures.makes
    (err-files c.put_change.result c.self.inside.kept.ledger c.put_change.new.kept.ledger c.put_change.ensures.err)).1
