-- What is due is queued, packet by packet, until nothing is, or fewer octets are free.
use Rattle.ftl0_client.proofs.attempt.QueuingLemmas.{keeps-same, keeps-then, queues-none, queues-then}
use Rattle.ftl0_client.proofs.attempt.attempt.Attempt.queue_due.Goals as goal

pub loop-init : goal.loop-init
loop-init c = record { rest = λ new queues. queues; keeps = record { keeps = keeps-same c.args.self.now; up = c.requires } }

pub loop-preserved : goal.loop-preserved
loop-preserved c =
    let kept = c.loop.invariant.keeps in
    record {
      rest = λ new queues. c.loop.invariant.rest new (queues-then c.loop.self c.queue_next.new.self new c.loop-test.ensures.next c.queue_next.ensures.keeps queues);
      keeps = record { keeps = keeps-then c.args.self.now c.loop.self c.queue_next.new.self kept.keeps c.queue_next.ensures.keeps.keeps; up = c.queue_next.ensures.keeps.up };
    }

pub returns-clause-queues : goal.returns-clause-queues
returns-clause-queues c = c.loop.invariant.rest c.queue_next.new.self (queues-none c.loop.self c.queue_next.new.self c.loop-test.ensures.next)
