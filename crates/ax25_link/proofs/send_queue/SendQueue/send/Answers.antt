use Rattle.std.proofs.Common.{◌≡◌, ℕ, ◌++◌, ◌∷◌, [], min, take, drop, ap, ◌∙◌, List, length, length-drop, arith}
use Rattle.ax25_link.proofs.Names.{sum, take_min, drop_min, Queue, cut}
use Rattle.ax25_link.proofs.QueueLemmas.{cut_push, drop_push}
use Rattle.ax25_link.proofs.send_queue.SendQueue.send.Goals as goal

-- the size of the new piece
size-is : (c : goal.After-push) → c.min.result ≡ min 256 (length (drop (sum c.self.inside.sizes.items) c.self.inside.octets.items))
size-is c = omega (arith, c.min.ensures, c.len.ensures.len, c.total.ensures, ap sum c.deref.ensures.0, length-drop (sum c.self.inside.sizes.items) c.self.inside.octets.items)

pub returns-clause-pieces : goal.returns-clause-pieces
returns-clause-pieces c =
    let rest = drop (sum c.self.inside.sizes.items) c.self.inside.octets.items in
    ap (λ (sizes : List ℕ). cut sizes c.self.inside.octets.items) c.push.ensures.items
    ∙ cut_push c.self.inside.sizes.items c.self.inside.octets.items c.min.result
    ∙ ap (λ (piece : List ℕ). cut c.self.inside.sizes.items c.self.inside.octets.items ++ piece ∷ []) (ap (λ (n : ℕ). take n rest) (size-is c) ∙ take_min 256 rest)
    ∙ ap (λ (q : Queue). q.pieces ++ take 256 q.unsent ∷ []) c.self.view_is

pub returns-clause-unsent : goal.returns-clause-unsent
returns-clause-unsent c =
    let rest = drop (sum c.self.inside.sizes.items) c.self.inside.octets.items in
    ap (λ (sizes : List ℕ). drop (sum sizes) c.self.inside.octets.items) c.push.ensures.items
    ∙ drop_push c.self.inside.sizes.items c.self.inside.octets.items c.min.result
    ∙ (ap (λ (n : ℕ). drop n rest) (size-is c) ∙ drop_min 256 rest)
    ∙ ap (λ (q : Queue). drop 256 q.unsent) c.self.view_is
