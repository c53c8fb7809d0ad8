-- The list is cut into pieces of some octets.
use Rattle.std.proofs.Common.{◌<◌}
use Rattle.program_rows.proofs.air.compare.compare_list.Given as goal

abbrev pub invariant-loop-number : goal.invariant-loop-number
invariant-loop-number l = 0 < l.headers.size
