use Rattle.std.proofs.Common.{ℕ, ◌≤◌, [], take, ap, ◌∙◌, subst, List, length, arith}
use Rattle.ax25_link.proofs.Names.{sum, Buffer, Queue, queue_of}
use Rattle.ax25_link.proofs.QueueLemmas.{queue-take, few}
use Rattle.ax25_link.proofs.send_queue.SendQueue.drop_unsent.Goals as goal

pub total-requires : goal.total-requires
total-requires c =
    let seven : length c.self.inside.sizes.items ≤ 7 = subst (λ (xs : List ℕ). length xs ≤ 7) c.deref.ensures.0 c.deref.ensures.1 in
    omega (arith, few c.self.inside.sizes.items c.self.invariant.most seven, ap sum c.deref.ensures.0)

pub returns : goal.returns
returns c =
    ap (λ (b : Buffer ℕ). queue_of c.self.inside.sizes.items b.items) c.truncate_back.ensures
    ∙ ap (λ (n : ℕ). queue_of c.self.inside.sizes.items (take n c.self.inside.octets.items)) (c.total.ensures ∙ ap sum c.deref.ensures.0)
    ∙ queue-take c.self.inside.sizes.items c.self.inside.octets.items c.self.invariant.inside
    ∙ ap (λ (q : Queue). record q { unsent = [] }) c.self.view_is
