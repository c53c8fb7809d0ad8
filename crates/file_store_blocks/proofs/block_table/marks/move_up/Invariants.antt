use Rattle.std.proofs.Common.{◌≡◌, ◌++◌, map, take, drop}
use Rattle.file_store_blocks.proofs.block_table.Names.{earlier}
use Rattle.file_store_blocks.proofs.block_table.marks.move_up.Given as goal

abbrev pub invariant-loop-mark : goal.invariant-loop-mark
invariant-loop-mark l =
    let old = drop l.from l.fn.marks in
    l.mark-items ≡ map (earlier l.places) (take l.mark-index old) ++ drop l.mark-index old
