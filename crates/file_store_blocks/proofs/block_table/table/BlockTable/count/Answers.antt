use Rattle.std.proofs.Common.{◌≡◌, ◌∙◌, ◌<◌, length, ap, subst, sym}
use Rattle.file_store_blocks.proofs.block_table.Names.{Run, Table, run_at}
use Rattle.file_store_blocks.proofs.block_table.KeptLemmas.{mark-at}
use Rattle.file_store_blocks.proofs.block_table.table.BlockTable.count.Goals as goal

pub returns-clause-count : goal.returns-clause-count
returns-clause-count c =
    let there = subst (λ (t : Table). c.args.run < length t.runs) (sym c.self.view_is) c.requires in
    let at = mark-at c.self.invariant c.args.run c.index.result.now there c.index.ensures in
    subst (λ (t : Table). c.index.result.now.count ≡ length (run_at t c.args.run).blocks) c.self.view_is
    (sym (ap (λ (r : Run). length r.blocks) at.is ∙ at.count))
