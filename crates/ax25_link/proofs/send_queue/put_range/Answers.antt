use Rattle.std.proofs.Common.{ℕ, ◌-◌, ◌++◌, take, drop, ap, subst, ◌<◌, ◌∙◌, List, append_assoc}
use Rattle.ax25_link.proofs.Names.{All-append, IsOctets}
use Rattle.ax25_link.proofs.QueueLemmas.{range-parts}
use Rattle.ax25_link.proofs.send_queue.put_range.Goals as goal

pub returns-clause-octets : goal.returns-clause-octets
returns-clause-octets c =
    let first = take (c.min-2.result - c.min.result) (drop c.min.result c.args.front.now) in
    let second = take (c.saturating_sub-2.result - c.saturating_sub.result) (drop c.saturating_sub.result c.args.back.now) in
    c.put-2.ensures.octets
    ∙ ap (λ (xs : List ℕ). xs ++ second) c.put.ensures.octets
    ∙ append_assoc c.args.out.now.items first second
    ∙ ap (λ (xs : List ℕ). c.args.out.now.items ++ xs)
    (range-parts c.args.front.now c.args.back.now c.args.start c.args.end c.min.result c.min-2.result c.saturating_sub.result c.saturating_sub-2.result
    c.requires.order c.min.ensures c.min-2.ensures c.saturating_sub.ensures c.saturating_sub-2.ensures)

pub returns-clause-range : goal.returns-clause-range
returns-clause-range c =
    let first = take (c.min-2.result - c.min.result) (drop c.min.result c.args.front.now) in
    let second = take (c.saturating_sub-2.result - c.saturating_sub.result) (drop c.saturating_sub.result c.args.back.now) in
    let P : ℕ → Type 0 = λ octet. octet < 256 in
    subst (λ (xs : List ℕ). IsOctets xs)
    (range-parts c.args.front.now c.args.back.now c.args.start c.args.end c.min.result c.min-2.result c.saturating_sub.result c.saturating_sub-2.result
    c.requires.order c.min.ensures c.min-2.ensures c.saturating_sub.ensures c.saturating_sub-2.ensures)
    (All-append P first second c.put.ensures.range c.put-2.ensures.range)
