use Rattle.std.proofs.Common.{ℕ, ◌==◌, cond, arith}
use Rattle.file_store_blocks.proofs.block_table.Names.{eqb_tells, common_steps, elements, sum_by_more}
use Rattle.file_store_blocks.proofs.block_table.marks.free_blocks.Goals as goal

pub loop-block-preserved : goal.loop-block-preserved
loop-block-preserved c =
    let blocks = c.args.blocks.now in
    let i = c.loop-block.block-index in
    let inv = c.loop-block.invariant in
    let more = λ (b : ℕ). sum_by_more (λ (x : ℕ). cond (x == b) 1 0) blocks i 0 in
    record {
      freed = record {
        marks = grind (arith, common_steps);
        each = λ b. grind (arith, common_steps, inv.freed.each b, eqb_tells c.from.result b, c.requires i 0, more b);
      };
      low = omega (arith, c.min-lowest.ensures, inv.low);
      each = grind (arith, elements, inv.each, c.min-lowest.ensures, c.from-in-loop-block.ensures);
    }
