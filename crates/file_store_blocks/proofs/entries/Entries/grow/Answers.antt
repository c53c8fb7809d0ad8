use Rattle.std.proofs.Common.{ap, sym, ◌∙◌, arith}
use Rattle.file_store_blocks.proofs.Names.{EntriesState, Table}
use Rattle.file_store_blocks.proofs.ChangeLemmas.{block_free, has_place, held_fits, hold_becomes, hold_kept, in_range, never_found, rest_now, run_room}
use Rattle.file_store_blocks.proofs.entries.Entries.grow.Goals as goal

pub unwrap-place-requires : goal.unwrap-place-requires
unwrap-place-requires c =
    has_place c.args.self.now.files.files c.args.number c.place_of.result c.place_of.ensures.none
    (λ none. never_found c.args.self.now.files c.args.number none c.requires.allowed.passes)

pub index_mut-requires : goal.index_mut-requires
index_mut-requires c =
    let view = ap (λ (s : EntriesState). s.files) c.self.view_is in
    let inside = in_range c.self.inside.table.runs c.self.inside.files.items c.self.inside.next c.self.inside.table.limit c.self.invariant.0 _ view c.args.number _ c.place_of.result c.unwrap-place.ensures c.place_of.ensures.some in
    omega (arith, inside, c.self.inside.files.ok.0)

pub grow-requires-clause-in_ : goal.grow-requires-clause-in_
grow-requires-clause-in_ c =
    let view = ap (λ (s : EntriesState). s.files) c.self.view_is in
    sym (rest_now c.self.inside.table.runs c.self.inside.files.items c.self.inside.next c.self.inside.table.limit c.self.invariant.0 _ view c.args.number _ c.place_of.result c.unwrap-place.ensures c.place_of.ensures.some c.index_mut.result.now c.index_mut.ensures.value) ∙ c.requires.in_

pub grow-requires-clause-fits : goal.grow-requires-clause-fits
grow-requires-clause-fits c =
    let view = ap (λ (s : EntriesState). s.files) c.self.view_is in
    held_fits c.self.inside.table.runs c.self.inside.files.items c.self.inside.next c.self.inside.table.limit c.self.invariant.0 _ view c.args.number _ c.place_of.result c.unwrap-place.ensures c.place_of.ensures.some c.index_mut.result.now c.index_mut.ensures.value
    c.args.block c.args.used c.requires.allowed

pub take-requires-clause-room : goal.take-requires-clause-room
take-requires-clause-room c =
    let view = ap (λ (s : EntriesState). s.files) c.self.view_is in
    let room = run_room c.self.inside.table.runs c.self.inside.files.items c.self.inside.next c.self.inside.table.limit c.self.invariant.0 _ view c.args.number _ c.place_of.result c.unwrap-place.ensures c.place_of.ensures.some c.index_mut.result.now c.index_mut.ensures.value
    c.args.block c.args.used c.requires.allowed in
    record { there = room.0; room = room.1 }

pub take-requires-clause-free : goal.take-requires-clause-free
take-requires-clause-free c =
    let view = ap (λ (s : EntriesState). s.files) c.self.view_is in
    let free = block_free c.self.inside.table.runs c.self.inside.files.items c.self.inside.next c.self.inside.table.limit c.self.invariant.0 _ view c.args.number _ c.place_of.result c.unwrap-place.ensures c.place_of.ensures.some c.index_mut.result.now c.index_mut.ensures.value
    c.args.block c.args.used c.requires.allowed in
    record { below = free.0; free = free.1 }

pub invariant_of-self : goal.invariant_of-self
invariant_of-self c =
    let view = ap (λ (s : EntriesState). s.files) c.self.view_is in (
      hold_kept c.self.inside.table.runs c.self.inside.files.items c.self.inside.next c.self.inside.table.limit c.self.invariant.0 _ view c.args.number _ c.place_of.result c.unwrap-place.ensures c.place_of.ensures.some c.index_mut.result.now c.index_mut.ensures.value
          c.args.block c.args.used c.requires.allowed c.take.new.self.runs c.take.new.self.limit c.grow.new.self c.index_mut.result.now.rest
          (ap (λ (t : Table). t.runs) c.take.ensures) (ap (λ (t : Table). t.limit) c.take.ensures) c.grow.ensures,
      c.self.invariant.1,
      ap (λ (t : Table). t.most) c.take.ensures ∙ c.self.invariant.2,
    )

pub returns-clause-becomes : goal.returns-clause-becomes
returns-clause-becomes c =
    let view = ap (λ (s : EntriesState). s.files) c.self.view_is in
    let rest = rest_now c.self.inside.table.runs c.self.inside.files.items c.self.inside.next c.self.inside.table.limit c.self.invariant.0 _ view c.args.number _ c.place_of.result c.unwrap-place.ensures c.place_of.ensures.some c.index_mut.result.now c.index_mut.ensures.value in
    let becomes = hold_becomes c.self.inside.table.runs c.self.inside.files.items c.self.inside.next c.self.inside.table.limit c.self.invariant.0 _ view c.args.number _ c.place_of.result c.unwrap-place.ensures c.place_of.ensures.some c.index_mut.result.now c.index_mut.ensures.value
    c.args.block c.args.used c.requires.allowed c.take.new.self.runs c.take.new.self.limit c.grow.new.self c.index_mut.result.now.rest
    (ap (λ (t : Table). t.runs) c.take.ensures) (ap (λ (t : Table). t.limit) c.take.ensures) c.grow.ensures in
    record { store_is = becomes.store_is; here = becomes.here ∙ sym rest ∙ c.requires.in_; others = becomes.others }
