-- What is due is queued up to what is due now.
use Rattle.ftl0_client.proofs.Names.{room_of}
use Rattle.ftl0_client.proofs.attempt.Invariants.{IsQueuing}
use Rattle.ftl0_client.proofs.attempt.attempt.Attempt.queue_due.Given as goal

abbrev pub invariant-loop : goal.invariant-loop
invariant-loop l = IsQueuing l.fn.self l.self

abbrev pub decreases-loop : goal.decreases-loop
decreases-loop l = room_of l.self.link.queue
