use Rattle.std.proofs.Common.{◌≡◌, ◌∷◌, ◌++◌, length}
use Rattle.kiss.proofs.Names.{fend, kiss_parts}
use Rattle.kiss.proofs.whole.parts.Given as goal

abbrev pub invariant-loop-piece : goal.invariant-loop-piece
invariant-loop-piece l = l.parts.items ++ kiss_parts (fend ∷ l.rest) ≡ kiss_parts l.octets

abbrev pub decreases-loop-piece : goal.decreases-loop-piece
decreases-loop-piece l = length l.rest
