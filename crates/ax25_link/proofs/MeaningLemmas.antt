-- What N(R) means if the whole number that it shows is known.
use Rattle.std.proofs.Common.{◌≡◌, ℕ, ◌+◌, ◌-◌, ◌%◌, ◌<◌, ◌≤◌, ◌⊎◌, sym, ◌∙◌, ap, arith, inl, inr}
use Rattle.ax25_link.proofs.Names.{nat_le, nat_lt, cond-true, cond-false, le-leb, lt-leb, lt-ltb, le-ltb, cases_lt, Window, IsWindow, LinkEnd, IsEnd, high, good, stale, bad, distance, meaning_at, meaning_of}
use Rattle.ax25_link.proofs.Modulus.{distance_up, distance_down}

-- a distance up to the number of outstanding frames is good
pub meaning_at-good : (w : Window) (end : LinkEnd) (far : ℕ) → far ≤ high end - end.acked → meaning_at w end far ≡ good (end.acked + far)
meaning_at-good w end far near = cond-true (nat_le far (high end - end.acked)) _ _ (le-leb far (high end - end.acked) near)

-- a distance above the window is stale
pub meaning_at-stale : (w : Window) (end : LinkEnd) (far : ℕ) → high end - end.acked < far → w.size < far → meaning_at w end far ≡ stale
meaning_at-stale w end far out above =
    cond-false (nat_le far (high end - end.acked)) (good (end.acked + far)) _ (lt-leb far (high end - end.acked) out)
    ∙ cond-true (nat_lt w.size far) stale bad (lt-ltb w.size far above)

-- a distance between the two is bad
pub meaning_at-bad : (w : Window) (end : LinkEnd) (far : ℕ) → high end - end.acked < far → far ≤ w.size → meaning_at w end far ≡ bad
meaning_at-bad w end far out within =
    cond-false (nat_le far (high end - end.acked)) (good (end.acked + far)) _ (lt-leb far (high end - end.acked) out)
    ∙ cond-false (nat_lt w.size far) stale bad (le-ltb w.size far within)

-- the distance of a number that is shown
pub distance_above : (w : Window) (acked nr x : ℕ) → nr ≡ x % w.modulus → acked ≤ x → x < acked + w.modulus → distance w acked nr ≡ x - acked
distance_above w acked nr x shows least most =
    let m = w.modulus in
    let same : acked + (x - acked) ≡ x = omega arith in
    let shown : nr ≡ (acked + (x - acked)) % m = shows ∙ ap (λ n. n % m) (sym same) in
    ap (λ n. (n + (m - acked % m)) % m) shown ∙ distance_up acked (x - acked) m (omega arith)

pub distance_below : (w : Window) (acked nr x : ℕ) → nr ≡ x % w.modulus → x < acked → acked < x + w.modulus
    → distance w acked nr ≡ w.modulus - (acked - x)
distance_below w acked nr x shows less most =
    let m = w.modulus in
    let same : x + (acked - x) ≡ acked = omega arith in
    ap (λ n. (n + (m - acked % m)) % m) shows
    ∙ ap (λ n. (x % m + (m - n % m)) % m) (sym same)
    ∙ distance_down x (acked - x) m (omega arith) (omega arith)

-- What N(R) means if the number that it shows is at most what was sent, and at most m - 1 - k below what is
-- acknowledged: it is good from what is acknowledged on, and stale below. It is never bad.
pub meaning_shown : (w : Window) (end : LinkEnd) (nr x : ℕ) → IsWindow w → IsEnd w end → nr ≡ x % w.modulus → x ≤ high end
    → end.acked ≤ x + (w.modulus - 1 - w.size)
    → ((end.acked ≤ x) × (meaning_of w end nr ≡ good x)) ⊎ ((x < end.acked) × (meaning_of w end nr ≡ stale))
meaning_shown w end nr x window fits shows most late =
    let some = window.some in
    let fewer = window.fewer in
    let size = fits.window in
    elim (cases_lt x end.acked) [
      | inl below ↦
          let far = distance_below w end.acked nr x shows below (omega arith) in
          inr (below, ap (meaning_at w end) far ∙ meaning_at-stale w end (w.modulus - (end.acked - x)) (omega arith) (omega arith))
      | inr above ↦
          let far = distance_above w end.acked nr x shows above (omega arith) in
          let same : end.acked + (x - end.acked) ≡ x = omega arith in
          inl (above, ap (meaning_at w end) far ∙ meaning_at-good w end (x - end.acked) (omega arith) ∙ ap good same)
    ]
