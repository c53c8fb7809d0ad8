-- The pieces so far and what is left are the octets.
use Rattle.std.proofs.Common.{◌≡◌, ◌++◌, length}
use Rattle.pfh_reader.specs.Check.{joined}
use Rattle.part_rows.proofs.pieces.cut.Given as goal

abbrev pub invariant-loop-rest : goal.invariant-loop-rest
invariant-loop-rest l = joined l.pieces.items ++ l.rest ≡ l.octets

abbrev pub decreases-loop-rest : goal.decreases-loop-rest
decreases-loop-rest l = length l.rest
