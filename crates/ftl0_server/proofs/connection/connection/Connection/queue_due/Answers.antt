-- What is due is queued, packet by packet, until nothing is, or fewer octets are free.
use Rattle.std.proofs.Common.{arith, refl, sym}
use Rattle.ftl0_server.proofs.Names.{common_steps}
use Rattle.ftl0_server.proofs.connection.DueLemmas.{keeps-then, queues-last, queues-then}
use Rattle.ftl0_server.proofs.connection.FeedLemmas.{keeps-none}
use Rattle.ftl0_server.proofs.connection.connection.Connection.queue_due.Goals as goal

pub loop-init : goal.loop-init
loop-init g c = grind (arith, common_steps, keeps-none)

pub loop-preserved : goal.loop-preserved
loop-preserved g c =
    let keeps = c.loop.invariant.keeps in
    record {
      rest = λ disk_n new queues.
          c.loop.invariant.rest disk_n new
          (queues-then g.D.Disk g.met.D.Disk.lasts_same g.met.D.Disk.lasts_on _ _ c.queue_next.new.disk _ c.loop.self c.queue_next.new.self new (rw keeps.same at c.loop-test.ensures.next.queues) queues);
      keeps = keeps-then g.D.Disk g.met.D.Disk.lasts_same g.met.D.Disk.lasts_on _ _ _ _ _ _ c.args.self.now c.loop.self c.queue_next.new.self keeps c.queue_next.ensures.keeps;
    }

pub loop-smaller : goal.loop-smaller
loop-smaller g c = c.loop-test.ensures.next.fewer refl

pub returns-clause-queues : goal.returns-clause-queues
returns-clause-queues g c =
    let keeps = c.loop.invariant.keeps in
    let rest =
    queues-last g.D.Disk g.met.D.Disk.lasts_same g.met.D.Disk.lasts_on _ _ c.queue_next.new.disk c.loop.self c.queue_next.new.self
    (rw (sym keeps.same) at keeps.ready) c.loop-test.ensures.next.queues in
    c.loop.invariant.rest c.queue_next.new.disk c.queue_next.new.self (rw keeps.same at rest)
