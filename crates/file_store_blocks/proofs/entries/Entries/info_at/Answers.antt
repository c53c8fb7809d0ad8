use Rattle.std.proofs.Common.{ap, sym, ◌∙◌, arith, Some}
use Rattle.file_store_blocks.proofs.Names.{option_map, EntriesState, placed_info}
use Rattle.file_store_blocks.proofs.AnewLemmas.{file_at}
use Rattle.file_store_blocks.proofs.entries.Entries.info_at.Goals as goal

pub returns-clause-info : goal.returns-clause-info
returns-clause-info c =
    let view = ap (λ (s : EntriesState). s.files) c.self.view_is in
    ap Some c.info.ensures
    ∙ ap (option_map placed_info) (sym (file_at c.self.inside.table.runs c.self.inside.files.items c.self.inside.next c.self.inside.table.limit c.self.invariant.0 _ view c.args.at c.index.result.now c.index.ensures (omega (arith, c.self.inside.files.ok.0))))
