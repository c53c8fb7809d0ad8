use Rattle.std.proofs.Common.{List, ℕ, ◌≡◌, ◌≤◌, ◌+◌, ◌++◌, Option, length, ap, sym, ◌∙◌, subst}
use Rattle.file_store_blocks.proofs.Names.{option_map, IsSome, EntriesState, PlacedFile, octets_or_none, rest_of}
use Rattle.file_store_blocks.proofs.ChangeLemmas.{rest_becomes, rest_kept, rest_now}
use Rattle.file_store_blocks.proofs.entries.Entries.bring.Goals as goal
use Rattle.file_store_blocks.proofs.entries.Entries.bring.Goals.{After-index_mut}

-- what waits of the upload
rest : (c : After-index_mut) → rest_of c.args.self.now.files c.args.number ≡ c.index_mut.result.now.rest
rest c =
    let view = ap (λ (s : EntriesState). s.files) c.self.view_is in
    rest_now c.self.inside.table.runs c.self.inside.files.items c.self.inside.next c.self.inside.table.limit c.self.invariant.0 _ view c.args.number _ c.place_of.result c.unwrap-place.ensures c.place_of.ensures.some c.index_mut.result.now c.index_mut.ensures.value

pub bring-requires-clause-out : goal.bring-requires-clause-out
bring-requires-clause-out c = subst (λ (o : Option (List ℕ)). IsSome o) (rest c) c.requires.out

pub bring-requires-clause-room : goal.bring-requires-clause-room
bring-requires-clause-room c =
    subst (λ (o : Option (List ℕ)). length (octets_or_none o) + length c.args.bytes.now ≤ 512) (rest c) c.requires.room

pub invariant_of-self : goal.invariant_of-self
invariant_of-self c =
    let view = ap (λ (s : EntriesState). s.files) c.self.view_is in (
      rest_kept c.self.inside.table.runs c.self.inside.files.items c.self.inside.next c.self.inside.table.limit c.self.invariant.0 _ view c.args.number _ c.place_of.result c.unwrap-place.ensures c.place_of.ensures.some c.index_mut.result.now c.index_mut.ensures.value
          c.bring.new.self (ap (λ (f : PlacedFile). f.entry) c.bring.ensures),
      c.self.invariant.1,
      c.self.invariant.2,
    )

pub returns : goal.returns
returns c =
    let view = ap (λ (s : EntriesState). s.files) c.self.view_is in
    let becomes = rest_becomes c.self.inside.table.runs c.self.inside.files.items c.self.inside.next c.self.inside.table.limit c.self.invariant.0 _ view c.args.number _ c.place_of.result c.unwrap-place.ensures c.place_of.ensures.some c.index_mut.result.now c.index_mut.ensures.value
    c.bring.new.self (ap (λ (f : PlacedFile). f.entry) c.bring.ensures) in
    record {
      store_is = becomes.store_is;
      here = becomes.here ∙ ap (λ (f : PlacedFile). f.rest) c.bring.ensures ∙ ap (option_map (λ (r : List ℕ). r ++ c.args.bytes.now)) (sym (rest (goal.at.returns c).After-index_mut));
      others = becomes.others;
    }
