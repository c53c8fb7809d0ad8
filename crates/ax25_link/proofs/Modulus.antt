-- Numbers that are counted modulo m.
use Rattle.std.proofs.Common.{◌≡◌, ℕ, ◌+◌, ◌-◌, ◌*◌, ◌/◌, ◌%◌, ◌<◌, sym, ◌∙◌, ap, arith, inl, inr}
use Rattle.ax25_link.proofs.Names.{mod-mul-add, div-add-mod', mod_below, cases_lt}

-- the remainder of a number that lies less than m above a multiple of m
pub mod_of : (a m q r : ℕ) → a ≡ q * m + r → r < m → a % m ≡ r
mod_of a m q r e h = ap (λ n. n % m) e ∙ mod-mul-add q m r h

-- one multiple of m more
pub one_more : (q m r : ℕ) → (q + 1) * m + r ≡ (q * m + r) + m
one_more q m r = grind arith

-- a number with m added has the same remainder
pub mod_raised : (a m : ℕ) → 0 < m → (a + m) % m ≡ a % m
mod_raised a m h =
    let e = div-add-mod' a m in
    let more = one_more (a / m) m (a % m) in
    let below = mod_below a m h in
    mod_of (a + m) m (a / m + 1) (a % m) (omega (arith, e, more)) below

-- the distance of a number that is less than m above another, counted modulo m
pub distance_up : (a d m : ℕ) → d < m → ((a + d) % m + (m - a % m)) % m ≡ d
distance_up a d m h =
    let e = div-add-mod' a m in
    let below : a % m < m = mod_below a m (omega arith) in
    elim (cases_lt (a % m + d) m) [
      | inl low ↦
          let r : (a + d) % m ≡ a % m + d = mod_of (a + d) m (a / m) (a % m + d) (omega (arith, e)) low in
          mod_of ((a + d) % m + (m - a % m)) m 1 d (omega (arith, r)) h
      | inr high ↦
          let more = one_more (a / m) m (a % m + d - m) in
          let r : (a + d) % m ≡ a % m + d - m =
          mod_of (a + d) m (a / m + 1) (a % m + d - m) (omega (arith, e, more)) (omega arith) in
          mod_of ((a + d) % m + (m - a % m)) m 0 d (omega (arith, r)) h
    ]

-- the distance of a number that is less than m below another, counted modulo m
pub distance_down : (x e m : ℕ) → 0 < e → e < m → (x % m + (m - (x + e) % m)) % m ≡ m - e
distance_down x e m some h =
    let up : (((x + e) + (m - e)) % m + (m - (x + e) % m)) % m ≡ m - e = distance_up (x + e) (m - e) m (omega arith) in
    let same : (x + e) + (m - e) ≡ x + m = omega arith in
    let raised : ((x + e) + (m - e)) % m ≡ x % m = ap (λ n. n % m) same ∙ mod_raised x m (omega arith) in
    ap (λ n. (n + (m - (x + e) % m)) % m) (sym raised) ∙ up

-- two numbers with one remainder that are less than m apart are the same
pub same_above : (a d m : ℕ) → d < m → (a + d) % m ≡ a % m → d ≡ 0
same_above a d m h same =
    let e = div-add-mod' a m in
    let below : a % m < m = mod_below a m (omega arith) in
    elim (cases_lt (a % m + d) m) [
      | inl low ↦
          let r : (a + d) % m ≡ a % m + d = mod_of (a + d) m (a / m) (a % m + d) (omega (arith, e)) low in
          omega (arith, r)
      | inr high ↦
          let more = one_more (a / m) m (a % m + d - m) in
          let r : (a + d) % m ≡ a % m + d - m =
          mod_of (a + d) m (a / m + 1) (a % m + d - m) (omega (arith, e, more)) (omega arith) in
          omega (arith, r)
    ]

pub same_number : (a b m : ℕ) → a % m ≡ b % m → a < b + m → b < a + m → a ≡ b
same_number a b m same below above =
    elim (cases_lt a b) [
      | inl less ↦
          let e : a + (b - a) ≡ b = omega arith in
          let d : b - a ≡ 0 = same_above a (b - a) m (omega arith) (ap (λ n. n % m) e ∙ sym same) in
          omega arith
      | inr more ↦
          let e : b + (a - b) ≡ a = omega arith in
          let d : a - b ≡ 0 = same_above b (a - b) m (omega arith) (ap (λ n. n % m) e ∙ same) in
          omega arith
    ]

-- some multiple of m added
sum_times : (p q m : ℕ) → (p + q) * m ≡ p * m + q * m
sum_times p q m = grind arith

pub mod_multiple : (p x m : ℕ) → 0 < m → (p * m + x) % m ≡ x % m
mod_multiple p x m h =
    let e = div-add-mod' x m in
    let split = sum_times p (x / m) m in
    mod_of (p * m + x) m (p + x / m) (x % m) (omega (arith, e, split)) (mod_below x m h)

-- the distance added gives the number again, modulo m
pub distance_back : (a n m : ℕ) → 0 < m → (a + (n + (m - a % m)) % m) % m ≡ n % m
distance_back a n m h =
    let d = (n + (m - a % m)) % m in
    let p = (n + (m - a % m)) / m in
    let e = div-add-mod' a m in
    let below : a % m < m = mod_below a m h in
    let f : p * m + d ≡ n + (m - a % m) = div-add-mod' (n + (m - a % m)) m in
    let one : (a / m + 1) * m + n ≡ (a / m * m + n) + m = one_more (a / m) m n in
    let same : p * m + (a + d) ≡ (a / m + 1) * m + n = omega (arith, e, f, one) in
    sym (mod_multiple p (a + d) m h) ∙ ap (λ x. x % m) same ∙ mod_multiple (a / m + 1) n m h
