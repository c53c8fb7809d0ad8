-- The pieces so far and what is left are the octets.
use Rattle.std.proofs.Common.{◌≡◌, ◌++◌, flat_map, length}
use Rattle.part_rows.proofs.pieces.cut_octets.Given as goal

abbrev pub invariant-loop-rest : goal.invariant-loop-rest
invariant-loop-rest l = flat_map (λ piece. piece.items) l.pieces.items ++ l.rest ≡ l.octets

abbrev pub decreases-loop-rest : goal.decreases-loop-rest
decreases-loop-rest l = length l.rest
