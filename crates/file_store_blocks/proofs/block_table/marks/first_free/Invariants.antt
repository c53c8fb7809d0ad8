use Rattle.std.proofs.Common.{◌≡◌, ◌<◌, ◌≤◌, ℕ, true, get_or, false}
use Rattle.file_store_blocks.proofs.block_table.marks.first_free.Given as goal

abbrev pub invariant-loop-block : goal.invariant-loop-block
invariant-loop-block l = (block : ℕ) → l.from ≤ block → block < l.block → get_or l.taken block false ≡ true
