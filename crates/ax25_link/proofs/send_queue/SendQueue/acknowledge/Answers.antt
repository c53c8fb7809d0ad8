use Rattle.std.proofs.Common.{◌≡◌, ℕ, ◌-◌, ◌≤◌, take, drop, ap, ◌∙◌, sym, subst, List, length, arith}
use Rattle.ax25_link.proofs.Names.{sum, length-take-le, sum_by-take-le, Buffer, buffer, Queue, AreSizes, queue_of}
use Rattle.ax25_link.proofs.QueueLemmas.{length-cut, queue-drop, few-take, drop-AreSizes}
use Rattle.ax25_link.proofs.send_queue.SendQueue.acknowledge.Goals as goal

-- at least this number of pieces is outstanding
inside : (c : goal.After-from) → c.args.count ≤ length c.self.inside.sizes.items
inside c = omega (arith, c.requires, length-cut c.self.inside.sizes.items c.self.inside.octets.items, ap (λ (q : Queue). length q.pieces) c.self.view_is)

pub slice_bounds-total-end : goal.slice_bounds-total-end
slice_bounds-total-end c = sym (length-take-le c.from.result c.deref.result.now (omega (arith, inside c, c.from.ensures, ap (λ (xs : List ℕ). length xs) c.deref.ensures.0)))

pub total-freed-requires : goal.total-freed-requires
total-freed-requires c =
    let seven : length c.self.inside.sizes.items ≤ 7 = subst (λ (xs : List ℕ). length xs ≤ 7) c.deref.ensures.0 c.deref.ensures.1 in
    let sizes = few-take c.self.inside.sizes.items c.from.result c.self.invariant.most seven in
    omega (arith, sizes, ap (λ (xs : List ℕ). sum (take c.from.result xs)) c.deref.ensures.0)

pub remove_first-requires : goal.remove_first-requires
remove_first-requires c = omega (arith, c.requires, length-cut c.self.inside.sizes.items c.self.inside.octets.items, ap (λ (q : Queue). length q.pieces) c.self.view_is)

-- the octets of the pieces that are acknowledged
freed : (c : goal.After-remove_first) → c.total-freed.result ≡ sum (take c.args.count c.self.inside.sizes.items)
freed c =
    c.total-freed.ensures
    ∙ ap (λ (n : ℕ). sum (take n c.deref.result.now)) c.from.ensures
    ∙ ap (λ (xs : List ℕ). sum (take c.args.count xs)) c.deref.ensures.0

-- what the ring has then
ring : (c : goal.After-remove_first) → c.truncate_front.new.self ≡ buffer (drop (sum (take c.args.count c.self.inside.sizes.items)) c.self.inside.octets.items) c.self.inside.octets.capacity
ring c =
    let same : length c.self.inside.octets.items - (c.len.result - c.total-freed.result) ≡ sum (take c.args.count c.self.inside.sizes.items) =
    omega (arith, freed c, c.len.ensures.len, c.self.invariant.inside, sum_by-take-le (λ x. x) c.self.inside.sizes.items c.args.count) in
    c.truncate_front.ensures ∙ ap (λ (n : ℕ). buffer (drop n c.self.inside.octets.items) c.self.inside.octets.capacity) same

pub invariant_of-self : goal.invariant_of-self
invariant_of-self c =
    subst (λ (b : Buffer ℕ). AreSizes c.remove_first.new.sizes.items b.items b.capacity) (sym (ring c))
    (subst (λ (sizes : List ℕ). AreSizes sizes (drop (sum (take c.args.count c.self.inside.sizes.items)) c.self.inside.octets.items) c.self.inside.octets.capacity) (sym c.remove_first.ensures)
    (drop-AreSizes c.args.count c.self.inside.sizes.items c.self.inside.octets.items c.self.inside.octets.capacity c.self.invariant))

pub returns : goal.returns
returns c =
    ap (λ (b : Buffer ℕ). queue_of c.remove_first.new.sizes.items b.items) (ring c)
    ∙ ap (λ (sizes : List ℕ). queue_of sizes (drop (sum (take c.args.count c.self.inside.sizes.items)) c.self.inside.octets.items)) c.remove_first.ensures
    ∙ queue-drop c.args.count c.self.inside.sizes.items c.self.inside.octets.items
    ∙ ap (λ (q : Queue). record q { pieces = drop c.args.count q.pieces }) c.self.view_is
