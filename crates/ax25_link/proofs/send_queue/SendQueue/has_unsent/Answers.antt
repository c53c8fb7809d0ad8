use Rattle.std.proofs.Common.{ap, arith}
use Rattle.ax25_link.proofs.Names.{sum}
use Rattle.ax25_link.proofs.send_queue.SendQueue.has_unsent.Goals as goal

pub total-requires : goal.total-requires
total-requires c = omega (arith, ap sum c.deref.ensures.0, c.self.invariant.inside, c.self.invariant.room)
