use Rattle.std.proofs.Common.{◌≤◌, take}
use Rattle.file_store_blocks.proofs.block_table.Names.{All, AreFreed}
use Rattle.file_store_blocks.proofs.block_table.marks.free_blocks.Given as goal

abbrev pub invariant-loop-block : goal.invariant-loop-block
invariant-loop-block l = record {
  freed : AreFreed l.fn.taken l.taken (take l.block-index l.blocks);
  low : l.lowest ≤ l.fn.lowest;
  each : All (λ b. l.lowest ≤ b) (take l.block-index l.blocks);
}
