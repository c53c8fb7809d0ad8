use Rattle.std.proofs.Common.{ap, sym, ◌∙◌, arith}
use Rattle.file_store_blocks.proofs.Names.{seal_with, EntriesState}
use Rattle.file_store_blocks.proofs.ChangeLemmas.{has_place, in_range, never_found, rest_now, seal_becomes, seal_kept}
use Rattle.file_store_blocks.proofs.entries.Entries.seal.Goals as goal

pub unwrap-place-requires : goal.unwrap-place-requires
unwrap-place-requires c =
    has_place c.args.self.now.files.files c.args.number c.place_of.result c.place_of.ensures.none
    (λ none. never_found c.args.self.now.files c.args.number none c.requires.takes.passes)

pub index_mut-requires : goal.index_mut-requires
index_mut-requires c =
    let view = ap (λ (s : EntriesState). s.files) c.self.view_is in
    let inside = in_range c.self.inside.table.runs c.self.inside.files.items c.self.inside.next c.self.inside.table.limit c.self.invariant.0 _ view c.args.number _ c.place_of.result c.unwrap-place.ensures c.place_of.ensures.some in
    omega (arith, inside, c.self.inside.files.ok.0)

pub invariant_of-self : goal.invariant_of-self
invariant_of-self c =
    let view = ap (λ (s : EntriesState). s.files) c.self.view_is in (
      seal_kept c.self.inside.table.runs c.self.inside.files.items c.self.inside.next c.self.inside.table.limit c.self.invariant.0 _ view c.args.number _ c.place_of.result c.unwrap-place.ensures c.place_of.ensures.some c.index_mut.result.now c.index_mut.ensures.value
          (seal_with c.args.moment c.args.sum c.args.header_len) c.requires.takes c.seal.new.self c.index_mut.result.now.rest c.seal.ensures,
      c.self.invariant.1,
      c.self.invariant.2,
    )

pub returns-clause-becomes : goal.returns-clause-becomes
returns-clause-becomes c =
    let view = ap (λ (s : EntriesState). s.files) c.self.view_is in
    let rest = rest_now c.self.inside.table.runs c.self.inside.files.items c.self.inside.next c.self.inside.table.limit c.self.invariant.0 _ view c.args.number _ c.place_of.result c.unwrap-place.ensures c.place_of.ensures.some c.index_mut.result.now c.index_mut.ensures.value in
    let becomes = seal_becomes c.self.inside.table.runs c.self.inside.files.items c.self.inside.next c.self.inside.table.limit c.self.invariant.0 _ view c.args.number _ c.place_of.result c.unwrap-place.ensures c.place_of.ensures.some c.index_mut.result.now c.index_mut.ensures.value
    (seal_with c.args.moment c.args.sum c.args.header_len) c.requires.takes c.seal.new.self c.index_mut.result.now.rest c.seal.ensures in
    record { store_is = becomes.store_is; here = becomes.here ∙ sym rest ∙ c.requires.in_; others = becomes.others }
