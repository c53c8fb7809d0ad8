-- What was due was queued up to what is due now.
use Rattle.ftl0_server.proofs.Names.{room_of}
use Rattle.ftl0_server.proofs.connection.Invariants.{IsQueuing}
use Rattle.ftl0_server.proofs.connection.connection.Connection.queue_due.Given as goal

abbrev pub invariant-loop : goal.invariant-loop
invariant-loop g l = IsQueuing g.D.Disk l.fn.self l.self l.fn.store l.store l.fn.disk l.disk

abbrev pub decreases-loop : goal.decreases-loop
decreases-loop g l = room_of l.self.link.queue
