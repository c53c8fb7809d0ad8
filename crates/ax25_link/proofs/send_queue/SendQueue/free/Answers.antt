use Rattle.std.proofs.Common.{ℕ, ◌-◌, ap, ◌∙◌, sym, List, length}
use Rattle.ax25_link.proofs.Names.{room_of}
use Rattle.ax25_link.proofs.QueueLemmas.{octets_of-queue_of}
use Rattle.ax25_link.proofs.send_queue.SendQueue.free.Goals as goal

pub returns : goal.returns
returns c =
    ap (λ (n : ℕ). 4096 - n) (c.len.ensures.len ∙ ap (λ (xs : List ℕ). length xs) (sym (octets_of-queue_of c.self.inside.sizes.items c.self.inside.octets.items)))
    ∙ ap room_of c.self.view_is
