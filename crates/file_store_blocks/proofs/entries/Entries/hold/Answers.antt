use Rattle.std.proofs.Common.{◌≡◌, [], List, ℕ, Option, Some, length, ap, sym, ◌∙◌, subst, arith}
use Rattle.file_store_blocks.proofs.Names.{IsSome, EntriesState, rest_of, Table, octets_or_none}
use Rattle.file_store_blocks.proofs.ChangeLemmas.{block_free, has_place, held_fits, hold_becomes, hold_kept, in_range, never_some, no_rest, rest_now, run_room, waits_some}
use Rattle.file_store_blocks.proofs.entries.Entries.hold.Goals as goal
use Rattle.file_store_blocks.proofs.entries.Entries.hold.Goals.{After-index_mut}

pub unwrap-place-requires : goal.unwrap-place-requires
unwrap-place-requires c =
    has_place c.args.self.now.files.files c.args.number c.place_of.result c.place_of.ensures.none
    (λ none. never_some _ (no_rest c.args.self.now.files c.args.number none) (waits_some c.args.self.now.files c.args.number c.args.count c.requires.waits))

pub index_mut-requires : goal.index_mut-requires
index_mut-requires c =
    let view = ap (λ (s : EntriesState). s.files) c.self.view_is in
    let inside = in_range c.self.inside.table.runs c.self.inside.files.items c.self.inside.next c.self.inside.table.limit c.self.invariant.0 _ view c.args.number _ c.place_of.result c.unwrap-place.ensures c.place_of.ensures.some in
    omega (arith, inside, c.self.inside.files.ok.0)

-- what waits of the upload
rest : (c : After-index_mut) → rest_of c.args.self.now.files c.args.number ≡ c.index_mut.result.now.rest
rest c =
    let view = ap (λ (s : EntriesState). s.files) c.self.view_is in
    rest_now c.self.inside.table.runs c.self.inside.files.items c.self.inside.next c.self.inside.table.limit c.self.invariant.0 _ view c.args.number _ c.place_of.result c.unwrap-place.ensures c.place_of.ensures.some c.index_mut.result.now c.index_mut.ensures.value

pub hold-requires-clause-out : goal.hold-requires-clause-out
hold-requires-clause-out c =
    subst (λ (o : Option (List ℕ)). IsSome o) (rest c) (waits_some c.args.self.now.files c.args.number c.args.count c.requires.waits)

pub hold-requires-clause-all : goal.hold-requires-clause-all
hold-requires-clause-all c =
    ap (λ (o : Option (List ℕ)). length (octets_or_none o)) (sym (rest c) ∙ c.requires.waits.1) ∙ c.requires.waits.2

pub hold-requires-clause-fits : goal.hold-requires-clause-fits
hold-requires-clause-fits c =
    let view = ap (λ (s : EntriesState). s.files) c.self.view_is in
    held_fits c.self.inside.table.runs c.self.inside.files.items c.self.inside.next c.self.inside.table.limit c.self.invariant.0 _ view c.args.number _ c.place_of.result c.unwrap-place.ensures c.place_of.ensures.some c.index_mut.result.now c.index_mut.ensures.value
    c.args.block c.args.count c.requires.allowed

pub take-requires-clause-room : goal.take-requires-clause-room
take-requires-clause-room c =
    let view = ap (λ (s : EntriesState). s.files) c.self.view_is in
    let room = run_room c.self.inside.table.runs c.self.inside.files.items c.self.inside.next c.self.inside.table.limit c.self.invariant.0 _ view c.args.number _ c.place_of.result c.unwrap-place.ensures c.place_of.ensures.some c.index_mut.result.now c.index_mut.ensures.value
    c.args.block c.args.count c.requires.allowed in
    record { there = room.0; room = room.1 }

pub take-requires-clause-free : goal.take-requires-clause-free
take-requires-clause-free c =
    let view = ap (λ (s : EntriesState). s.files) c.self.view_is in
    let free = block_free c.self.inside.table.runs c.self.inside.files.items c.self.inside.next c.self.inside.table.limit c.self.invariant.0 _ view c.args.number _ c.place_of.result c.unwrap-place.ensures c.place_of.ensures.some c.index_mut.result.now c.index_mut.ensures.value
    c.args.block c.args.count c.requires.allowed in
    record { below = free.0; free = free.1 }

pub invariant_of-self : goal.invariant_of-self
invariant_of-self c =
    let view = ap (λ (s : EntriesState). s.files) c.self.view_is in (
      hold_kept c.self.inside.table.runs c.self.inside.files.items c.self.inside.next c.self.inside.table.limit c.self.invariant.0 _ view c.args.number _ c.place_of.result c.unwrap-place.ensures c.place_of.ensures.some c.index_mut.result.now c.index_mut.ensures.value
          c.args.block c.args.count c.requires.allowed c.take.new.self.runs c.take.new.self.limit c.hold.new.self (Some [])
          (ap (λ (t : Table). t.runs) c.take.ensures) (ap (λ (t : Table). t.limit) c.take.ensures) c.hold.ensures,
      c.self.invariant.1,
      ap (λ (t : Table). t.most) c.take.ensures ∙ c.self.invariant.2,
    )

pub returns : goal.returns
returns c =
    let view = ap (λ (s : EntriesState). s.files) c.self.view_is in
    hold_becomes c.self.inside.table.runs c.self.inside.files.items c.self.inside.next c.self.inside.table.limit c.self.invariant.0 _ view c.args.number _ c.place_of.result c.unwrap-place.ensures c.place_of.ensures.some c.index_mut.result.now c.index_mut.ensures.value
    c.args.block c.args.count c.requires.allowed c.take.new.self.runs c.take.new.self.limit c.hold.new.self (Some [])
    (ap (λ (t : Table). t.runs) c.take.ensures) (ap (λ (t : Table). t.limit) c.take.ensures) c.hold.ensures
