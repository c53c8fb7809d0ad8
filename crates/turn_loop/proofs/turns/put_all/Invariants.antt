-- What was said so far, and what the party owes still.
use Rattle.turn_loop.proofs.Names.{at}
use Rattle.turn_loop.proofs.Invariants.{IsSaying}
use Rattle.turn_loop.proofs.turns.put_all.Given as goal

abbrev pub invariant-loop-air : goal.invariant-loop-air
invariant-loop-air g l = IsSaying g.P.Party.course g.A.Air l.fn.air l.air (at l.fn.party l.fn.disk) (at l.party l.disk)

abbrev pub decreases-loop-air : goal.decreases-loop-air
decreases-loop-air g l = g.P.Party.course.most l.party
