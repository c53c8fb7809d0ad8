-- What is true of each end that a link stands for.
use Rattle.std.proofs.Common.{◌≡◌, ◌-◌, length, ap, ◌∙◌, length-drop, arith}
use Rattle.ax25_link.proofs.Names.{high, Kept, IsKept, Fits}

pub fits : (link : Kept) → IsKept link → Fits link
fits link kept w end s =
    let pieces : length link.queue.pieces ≡ high end - end.acked =
    ap (λ (k : Kept). length k.queue.pieces) s.kept ∙ length-drop end.acked end.sent in
    let size : link.k ≡ w.size = ap (λ (k : Kept). k.k) s.kept in
    let again : link.again ≡ end.again = ap (λ (k : Kept). k.again) s.kept in
    let order = s.acked in
    let few = kept.outstanding in
    let less = kept.again in
    record {
      acked = s.acked;
      window = omega (arith, pieces, size, order, few);
      again = omega (arith, pieces, again, less);
      oldest = λ e. (let some = kept.oldest (ap (λ (k : Kept). k.reply) s.kept ∙ e) in omega (arith, pieces, some));
    }
