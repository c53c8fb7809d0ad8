-- What was heard and said so far, at which moments, in turns that are all open ones, and that the party took all of it.
use Rattle.std.proofs.Common.{◌≡◌}
use Rattle.turn_loop.proofs.Names.{IsSome, lent_party}
use Rattle.turn_loop.proofs.Invariants.{IsTurning}
use Rattle.turn_loop.proofs.turns.take_turns.Given as goal

abbrev pub invariant-loop-turn : goal.invariant-loop-turn
invariant-loop-turn g l =
    IsTurning g.P.Party.course g.A.Air g.C.Clock.given (lent_party l.fn.party l.fn.disk l.fn.air l.fn.clock) (lent_party l.party l.disk l.air l.clock) l.terms l.last l.turn
    × (IsSome l.terms.given → l.clock ≡ l.fn.clock)
