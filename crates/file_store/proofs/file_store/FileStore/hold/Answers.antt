use Rattle.std.proofs.Common.{◌≡◌, [], ◌∷◌, IsErr, sym, ◌∙◌, ap, subst}
use Rattle.file_store.specs.declared.change.EntriesChange.TheVariants as change
use Rattle.file_store.proofs.Names.{EntriesState, IsLowest, octets_or_none, store_of, grow, MayMake, DoesTo, IsReady, StoreState, rest_in, state_from, FillsBlock}
use Rattle.file_store.proofs.PutLemmas.{err-files, fills-lacks, fills-may, hold-does}
use Rattle.file_store.proofs.file_store.FileStore.hold.Goals as goal

pub lowest_free-block-requires : goal.lowest_free-block-requires
lowest_free-block-requires g c =
    let inside : StoreState = state_from c.self.inside.kept.ledger.files c.self.inside.kept.journal in
    let fills = subst (λ (s : StoreState). FillsBlock s c.args.number c.args.count) (sym c.self.view_is) c.requires.fills in
    (c.args.number, fills-lacks inside c.args.number c.args.count fills)

pub put_change-requires-clause-may : goal.put_change-requires-clause-may
put_change-requires-clause-may g c =
    let D = g.D.Disk in
    let inside : StoreState = state_from c.self.inside.kept.ledger.files c.self.inside.kept.journal in
    let fills = subst (λ (s : StoreState). FillsBlock s c.args.number c.args.count) (sym c.self.view_is) c.requires.fills in
    let ready = subst (λ (s : StoreState). IsReady D s c.args.disk.now) (sym c.self.view_is) c.requires.ready in
    let ledger : EntriesState = c.self.inside.kept.ledger in
    subst (λ (l : EntriesState). MayMake (change.Hold c.args.number c.lowest_free-block.result c.args.count) l) (sym c.lowest_free-block.ensures.same)
    (fills-may inside c.args.number c.args.count fills c.lowest_free-block.result ledger.least ledger.first ready.stands_on.holds.reached c.lowest_free-block.ensures.lowest)

pub returns-clause-does : goal.returns-clause-does
returns-clause-does g c =
    let D = g.D.Disk in
    let number = c.args.number in
    let count = c.args.count in
    let journal = c.self.inside.kept.journal in
    let mid : StoreState = state_from c.lowest_free-block.new.self.files journal in
    let new : StoreState = state_from c.put_change.new.kept.ledger.files c.put_change.new.kept.journal in
    let same : mid ≡ c.args.self.now = ap (λ (l : EntriesState). state_from l.files journal) c.lowest_free-block.ensures.same ∙ c.self.view_is in
    let ready = subst (λ (s : StoreState). IsReady D s c.args.disk.now) (sym same) c.requires.ready in
    let fills = subst (λ (s : StoreState). FillsBlock s number count) (sym same) c.requires.fills in
    let lowest = subst (λ (l : EntriesState). IsLowest (store_of l.files) c.lowest_free-block.result) (sym c.lowest_free-block.ensures.same) c.lowest_free-block.ensures.lowest in
    subst (λ (s : StoreState). DoesTo D (IsErr c.put_change.result) s new c.args.disk.now c.put_change.new.disk (grow number (octets_or_none (rest_in s number)) ∷ []) number) same
    (hold-does D c.put_change.result mid new c.args.disk.now c.put_change.new.disk number count c.lowest_free-block.result fills ready.stands_on.holds.reached lowest
    c.put_change.ensures.does c.put_change.ensures.stands_on c.put_change.ensures.makes (err-files c.put_change.result c.lowest_free-block.new.self c.put_change.new.kept.ledger c.put_change.ensures.err))
