use Rattle.std.proofs.Common.{ap, ◌∙◌}
use Rattle.file_store_blocks.proofs.Names.{EntriesState, PlacedFile}
use Rattle.file_store_blocks.proofs.ChangeLemmas.{rest_becomes, rest_kept}
use Rattle.file_store_blocks.proofs.entries.Entries.park.Goals as goal

pub invariant_of-self : goal.invariant_of-self
invariant_of-self c =
    let view = ap (λ (s : EntriesState). s.files) c.self.view_is in (
      rest_kept c.self.inside.table.runs c.self.inside.files.items c.self.inside.next c.self.inside.table.limit c.self.invariant.0 _ view c.args.number _ c.place_of.result c.in-Some.is c.place_of.ensures.some c.index_mut.result.now c.index_mut.ensures.value
          c.park.new.self (ap (λ (f : PlacedFile). f.entry) c.park.ensures),
      c.self.invariant.1,
      c.self.invariant.2,
    )

pub returns-in-Some : goal.returns-in-Some
returns-in-Some c =
    let view = ap (λ (s : EntriesState). s.files) c.self.view_is in
    let becomes = rest_becomes c.self.inside.table.runs c.self.inside.files.items c.self.inside.next c.self.inside.table.limit c.self.invariant.0 _ view c.args.number _ c.place_of.result c.in-Some.is c.place_of.ensures.some c.index_mut.result.now c.index_mut.ensures.value
    c.park.new.self (ap (λ (f : PlacedFile). f.entry) c.park.ensures) in
    record { store_is = becomes.store_is; here = becomes.here ∙ ap (λ (f : PlacedFile). f.rest) c.park.ensures; others = becomes.others }
