-- A text before and after its first octet of some value.
use Rattle.std.proofs.Common.{◌≡◌, ◌==◌, ◌+◌, ℕ, suc, true, false, List, [], ◌∷◌, ◌++◌, refl, sym, ap, arith, inl, inr, true≢false, eqb-true, eq-eqb, one-add, drop}
use Rattle.command_words.proofs.Names.{after_first, before_first, position_or_len, cases_Bool, or_parts, has_byte}

-- the place of the first such octet, or the length
abbrev place_of : ℕ → List ℕ → ℕ
place_of c text = position_or_len (λ x. x == c) text

-- without such an octet all stands before it
pub before_first-all : (c : ℕ) (text : List ℕ) → has_byte c text ≡ false → before_first (λ x. x == c) text ≡ text
before_first-all c [] e = refl
before_first-all c (x ∷ xs) e =
    let parts = or_parts (x == c) (has_byte c xs) e in
    rw (parts.0, one-add) (ap (λ (more : List ℕ). x ∷ more) (before_first-all c xs parts.1))

drop-next : (x n : ℕ) (xs : List ℕ) → drop (suc n + 1) (x ∷ xs) ≡ drop (n + 1) xs
drop-next x n xs = let shift : suc n + 1 ≡ suc (n + 1) = omega arith in rw shift refl

-- with one the text is what stands before it, the octet, and what stands after it
pub split_at_byte : (c : ℕ) (text : List ℕ) → has_byte c text ≡ true → text ≡ before_first (λ x. x == c) text ++ c ∷ after_first (λ x. x == c) text
split_at_byte c [] e = absurd (true≢false (sym e))
split_at_byte c (x ∷ xs) e = elim (cases_Bool (x == c)) [
  | inl is ↦ rw is (ap (λ (y : ℕ). y ∷ xs) (eqb-true x c is))
  | inr is ↦
      let more : has_byte c xs ≡ true = rw is at e in
      rw (is, one-add, drop-next) (ap (λ (text : List ℕ). x ∷ text) (split_at_byte c xs more))
]

-- and what stands before it has none
pub before_first-lacks : (c : ℕ) (text : List ℕ) → has_byte c (before_first (λ x. x == c) text) ≡ false
before_first-lacks c [] = refl
before_first-lacks c (x ∷ xs) = elim (cases_Bool (x == c)) [
  | inl is ↦ rw is refl
  | inr is ↦ rw (is, one-add, is) (before_first-lacks c xs)
]

pub has_byte-append : (c : ℕ) (front back : List ℕ) → has_byte c (front ++ c ∷ back) ≡ true
has_byte-append c [] back = rw (eq-eqb c c refl) refl
has_byte-append c (x ∷ front) back = elim (cases_Bool (x == c)) [
  | inl is ↦ rw is refl
  | inr is ↦ rw is (has_byte-append c front back)
]

pub before_first-append : (c : ℕ) (front back : List ℕ) → has_byte c front ≡ false → before_first (λ x. x == c) (front ++ c ∷ back) ≡ front
before_first-append c [] back e = rw (eq-eqb c c refl) refl
before_first-append c (x ∷ front) back e =
    let parts = or_parts (x == c) (has_byte c front) e in
    rw (parts.0, one-add) (ap (λ (more : List ℕ). x ∷ more) (before_first-append c front back parts.1))

pub after_first-append : (c : ℕ) (front back : List ℕ) → has_byte c front ≡ false → after_first (λ x. x == c) (front ++ c ∷ back) ≡ back
after_first-append c [] back e = rw (eq-eqb c c refl) refl
after_first-append c (x ∷ front) back e =
    let parts = or_parts (x == c) (has_byte c front) e in
    rw (parts.0, one-add, drop-next) (after_first-append c front back parts.1)
