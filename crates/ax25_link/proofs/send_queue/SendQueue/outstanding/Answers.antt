use Rattle.std.proofs.Common.{ap, arith, length}
use Rattle.std.proofs.lemmas.Grind.{common_steps}
use Rattle.ax25_link.proofs.Names.{Queue}
use Rattle.ax25_link.proofs.QueueLemmas.{length-cut}
use Rattle.ax25_link.proofs.send_queue.SendQueue.outstanding.Goals as goal

pub returns-clause-count : goal.returns-clause-count
returns-clause-count c =
    grind (arith, common_steps, length-cut c.self.inside.sizes.items c.self.inside.octets.items, ap (λ (q : Queue). length q.pieces) c.self.view_is)
