use Rattle.std.proofs.Common.{arith}
use Rattle.file_store_blocks.proofs.block_table.Names.{common_steps, map_over_more, earlier}
use Rattle.file_store_blocks.proofs.block_table.marks.move_up.Goals as goal

pub loop-mark-preserved : goal.loop-mark-preserved
loop-mark-preserved c = grind (arith, common_steps, map_over_more (earlier c.args.places))
