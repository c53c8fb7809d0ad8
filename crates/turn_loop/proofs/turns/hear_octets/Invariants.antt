-- What was handed over so far, and that the party took it.
use Rattle.std.proofs.Common.{◌≡◌, List, ℕ, ◌++◌, length, Ok}
use Rattle.turn_loop.proofs.Names.{at, octets_at, Takes}
use Rattle.turn_loop.proofs.turns.hear_octets.Given as goal

abbrev pub invariant-loop-piece : goal.invariant-loop-piece
invariant-loop-piece g l =
    (done : List ℕ) × (l.fn.octets ≡ done ++ l.piece)
    × Takes g.P.Party.course g.A.Air l.fn.air l.air (at l.fn.party l.fn.disk) (at l.party l.disk) (octets_at l.fn.moment done) (Ok tt)

abbrev pub decreases-loop-piece : goal.decreases-loop-piece
decreases-loop-piece g l = length l.piece
