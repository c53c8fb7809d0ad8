use Rattle.std.proofs.Common.{Some, ap, sym, ◌∙◌}
use Rattle.file_store_blocks.proofs.Names.{option_map, EntriesState, placed_info}
use Rattle.file_store_blocks.proofs.ChangeLemmas.{entry_now, no_entry, no_place}
use Rattle.file_store_blocks.proofs.entries.Entries.info.Goals as goal

pub returns-in-Some-clause-info : goal.returns-in-Some-clause-info
returns-in-Some-clause-info c =
    let view = ap (λ (s : EntriesState). s.files) c.self.view_is in
    ap Some c.info.ensures
    ∙ ap (option_map placed_info)
    (sym (entry_now c.self.inside.table.runs c.self.inside.files.items c.self.inside.next c.self.inside.table.limit c.self.invariant.0 _ view c.args.number c.in-Some.place c.place_of.result c.in-Some.is c.place_of.ensures.some c.index.result.now c.index.ensures))

pub returns-in-None-clause-info : goal.returns-in-None-clause-info
returns-in-None-clause-info c =
    ap (option_map placed_info)
    (sym (no_entry c.args.self.now.files c.args.number (no_place c.args.self.now.files.files c.args.number c.place_of.result c.in-None.is c.place_of.ensures.none)))
