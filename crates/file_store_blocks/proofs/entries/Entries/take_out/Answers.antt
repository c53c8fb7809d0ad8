use Rattle.std.proofs.Common.{ap, ◌∙◌, arith}
use Rattle.file_store_blocks.proofs.Names.{EntriesState, PlacedFile}
use Rattle.file_store_blocks.proofs.ChangeLemmas.{has_place, in_range, never_some, no_entry, rest_becomes, rest_kept}
use Rattle.file_store_blocks.proofs.entries.Entries.take_out.Goals as goal

pub unwrap-place-requires : goal.unwrap-place-requires
unwrap-place-requires c =
    has_place c.args.self.now.files.files c.args.number c.place_of.result c.place_of.ensures.none
    (λ none. never_some _ (no_entry c.args.self.now.files c.args.number none) c.requires.there)

pub index_mut-requires : goal.index_mut-requires
index_mut-requires c =
    let view = ap (λ (s : EntriesState). s.files) c.self.view_is in
    let inside = in_range c.self.inside.table.runs c.self.inside.files.items c.self.inside.next c.self.inside.table.limit c.self.invariant.0 _ view c.args.number _ c.place_of.result c.unwrap-place.ensures c.place_of.ensures.some in
    omega (arith, inside, c.self.inside.files.ok.0)

pub invariant_of-self : goal.invariant_of-self
invariant_of-self c =
    let view = ap (λ (s : EntriesState). s.files) c.self.view_is in (
      rest_kept c.self.inside.table.runs c.self.inside.files.items c.self.inside.next c.self.inside.table.limit c.self.invariant.0 _ view c.args.number _ c.place_of.result c.unwrap-place.ensures c.place_of.ensures.some c.index_mut.result.now c.index_mut.ensures.value
          c.take_out.new.self (ap (λ (f : PlacedFile). f.entry) c.take_out.ensures),
      c.self.invariant.1,
      c.self.invariant.2,
    )

pub returns : goal.returns
returns c =
    let view = ap (λ (s : EntriesState). s.files) c.self.view_is in
    let becomes = rest_becomes c.self.inside.table.runs c.self.inside.files.items c.self.inside.next c.self.inside.table.limit c.self.invariant.0 _ view c.args.number _ c.place_of.result c.unwrap-place.ensures c.place_of.ensures.some c.index_mut.result.now c.index_mut.ensures.value
    c.take_out.new.self (ap (λ (f : PlacedFile). f.entry) c.take_out.ensures) in
    record { store_is = becomes.store_is; here = becomes.here ∙ ap (λ (f : PlacedFile). f.rest) c.take_out.ensures; others = becomes.others }
