use Rattle.std.proofs.Common.{ap, sym, subst, arith}
use Rattle.file_store_blocks.proofs.Names.{EntriesState, store_of, ReadsSealed}
use Rattle.file_store_blocks.proofs.ChangeLemmas.{has_place, in_range, mark_there, sealed_found, sealed_here, sealed_reads}
use Rattle.file_store_blocks.proofs.entries.Entries.sealed_file.Goals as goal

pub unwrap-place-requires : goal.unwrap-place-requires
unwrap-place-requires c =
    has_place c.args.self.now.files.files c.args.number c.place_of.result c.place_of.ensures.none
    (λ none. sealed_found c.args.self.now.files c.args.number none c.requires)

pub index-file-requires : goal.index-file-requires
index-file-requires c =
    let view = ap (λ (s : EntriesState). s.files) c.self.view_is in
    let inside = in_range c.self.inside.table.runs c.self.inside.files.items c.self.inside.next c.self.inside.table.limit c.self.invariant.0 _ view c.args.number _ c.place_of.result c.unwrap-place.ensures c.place_of.ensures.some in
    omega (arith, inside, c.self.inside.files.ok.0)

pub unwrap-mark-requires : goal.unwrap-mark-requires
unwrap-mark-requires c =
    let view = ap (λ (s : EntriesState). s.files) c.self.view_is in
    mark_there c.mark.result c.requires.mark
    (sealed_here c.self.inside.table.runs c.self.inside.files.items c.self.inside.next c.self.inside.table.limit c.self.invariant.0 _ view c.args.number _ c.place_of.result c.unwrap-place.ensures c.place_of.ensures.some c.index-file.result.now c.index-file.ensures
    c.requires c.mark.result c.mark.ensures)

pub returns : goal.returns
returns c table has =
    let view = ap (λ (s : EntriesState). s.files) c.self.view_is in
    subst (ReadsSealed table (store_of c.args.self.now.files) c.args.number) (sym c.sealed_in.ensures)
    (sealed_reads c.self.inside.table.runs c.self.inside.files.items c.self.inside.next c.self.inside.table.limit c.self.invariant.0 _ view c.args.number _ c.place_of.result c.unwrap-place.ensures c.place_of.ensures.some c.index-file.result.now c.index-file.ensures
    c.mark.result c.unwrap-mark.result c.unwrap-mark.ensures c.mark.ensures table has)
