use Rattle.std.proofs.Common.{ℕ, ◌-◌, ◌++◌, min, take, ap, ◌∙◌, sym, List, length}
use Rattle.ax25_link.proofs.Names.{Buffer, Queue, queue_of, room_of}
use Rattle.ax25_link.proofs.QueueLemmas.{octets_of-queue_of, queue-append}
use Rattle.ax25_link.proofs.send_queue.SendQueue.push.Goals as goal

pub returns-clause-count : goal.returns-clause-count
returns-clause-count c =
    c.fill_from_slice.ensures.count
    ∙ ap (λ (n : ℕ). min (length c.args.bytes.now) (n - length c.self.inside.octets.items)) c.self.invariant.room
    ∙ ap (λ (xs : List ℕ). min (length c.args.bytes.now) (4096 - length xs)) (sym (octets_of-queue_of c.self.inside.sizes.items c.self.inside.octets.items))
    ∙ ap (λ (q : Queue). min (length c.args.bytes.now) (room_of q)) c.self.view_is

pub returns-clause-queue : goal.returns-clause-queue
returns-clause-queue c =
    ap (λ (b : Buffer ℕ). queue_of c.self.inside.sizes.items b.items) c.fill_from_slice.ensures.items
    ∙ queue-append c.self.inside.sizes.items c.self.inside.octets.items (take c.fill_from_slice.result c.args.bytes.now) c.self.invariant.inside
    ∙ ap (λ (q : Queue). record q { unsent = q.unsent ++ take c.fill_from_slice.result c.args.bytes.now }) c.self.view_is
