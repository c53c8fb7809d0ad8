-- The octet that is pushed is the next one of the body.
use Rattle.std.proofs.Common.{◌≡◌, ℕ, ◌+◌, ◌*◌, ◌%◌, List, [], ◌∷◌, ◌++◌, sym, ap, ◌∙◌, arith}
use Rattle.air_rehearsal.proofs.Names.{map-range_with_len_more, body_octets}
use Rattle.air_rehearsal.proofs.asking.body_of.Goals as goal

pub loop-i-preserved : goal.loop-i-preserved
loop-i-preserved c =
    let upload = c.args.upload in
    let i = c.loop-i.i in
    let octet : (c.from.result * 7 + c.from-in-loop-i.result * 13) % 256 ≡ (7 * i + 13 * upload) % 256 =
    ap (λ (n : ℕ). n % 256) (omega (arith, c.from.ensures, c.from-in-loop-i.ensures)) in
    c.in_ok-push.ensures.items
    ∙ ap (λ (octets : List ℕ). octets ++ (c.from.result * 7 + c.from-in-loop-i.result * 13) % 256 ∷ [])
    c.loop-i.invariant
    ∙ ap (λ (n : ℕ). body_octets upload i ++ n ∷ []) octet
    ∙ sym (map-range_with_len_more (λ n. (7 * n + 13 * upload) % 256) 0 i i (omega arith))
