-- Numbers compare by their most significant octets first.
use Rattle.std.proofs.Common.{◌≡◌, ℕ, zero, suc, ◌+◌, ◌*◌, ◌<◌, ◌≤◌, List, [], ◌∷◌, length, drop, get_or, inl, inr, refl, sym, ap, ◌∙◌, arith, drop-cons}
use Rattle.std.specs.Cmp.{nat_cmp_is}
use Rattle.std.specs.declared.cmp.Ordering.{Ordering}
use Rattle.std.specs.declared.cmp.Ordering.TheVariants.{Less, Equal, Greater}
use Rattle.selection.proofs.Names.{cases_order, nat_cmp, ordering_then, number}

then_assoc : (a b c : Ordering) → ordering_then (ordering_then a b) c ≡ ordering_then a (ordering_then b c)
then_assoc Less b c = refl
then_assoc Equal b c = refl
then_assoc Greater b c = refl

-- where the higher parts are the same the lowest octets decide
lowest : (x y n m : ℕ) → n ≡ m → nat_cmp (x + 256 * n) (y + 256 * m) ≡ nat_cmp x y
lowest x y n m e =
    elim (cases_order x y) [
      | inl same ↦
          sym (nat_cmp_is (x + 256 * n) (y + 256 * m) Equal (omega arith)) ∙ nat_cmp_is x y Equal same
      | inr other ↦
          elim other [
            | inl below ↦ sym (nat_cmp_is (x + 256 * n) (y + 256 * m) Less (omega arith)) ∙ nat_cmp_is x y Less below
            | inr above ↦ sym (nat_cmp_is (x + 256 * n) (y + 256 * m) Greater (omega arith)) ∙ nat_cmp_is x y Greater above
          ]
    ]

next : (x y n m : ℕ) → x < 256 → y < 256 → nat_cmp (x + 256 * n) (y + 256 * m) ≡ ordering_then (nat_cmp n m) (nat_cmp x y)
next x y n m hx hy =
    elim (cases_order n m) [
      | inl same ↦ lowest x y n m same ∙ ap (λ (o : Ordering). ordering_then o (nat_cmp x y)) (nat_cmp_is n m Equal same)
      | inr other ↦
          elim other [
            | inl below ↦
                sym (nat_cmp_is (x + 256 * n) (y + 256 * m) Less (omega arith))
                ∙ ap (λ (o : Ordering). ordering_then o (nat_cmp x y)) (nat_cmp_is n m Less below)
            | inr above ↦
                sym (nat_cmp_is (x + 256 * n) (y + 256 * m) Greater (omega arith))
                ∙ ap (λ (o : Ordering). ordering_then o (nat_cmp x y)) (nat_cmp_is n m Greater above)
          ]
    ]

-- what is left to compare from this place on, and how the octets before it compared
abbrev pub compared : List ℕ → List ℕ → ℕ → Ordering → Ordering
compared one other i order = ordering_then (nat_cmp (number (drop i one)) (number (drop i other))) order

pub compared-step : (one other : List ℕ) (i : ℕ) (order : Ordering) → i < length one → i < length other → get_or one i 0 < 256 → get_or other i 0 < 256
    → compared one other i order ≡ compared one other (i + 1) (ordering_then (nat_cmp (get_or one i 0) (get_or other i 0)) order)
compared-step one other i order h k x y =
    let more : i + 1 ≡ suc i = omega arith in
    ap (λ (t : List ℕ). ordering_then (nat_cmp (number t) (number (drop i other))) order) (drop-cons one i 0 h)
    ∙ ap (λ (t : List ℕ). ordering_then (nat_cmp (number (get_or one i 0 ∷ drop (suc i) one)) (number t)) order) (drop-cons other i 0 k)
    ∙ ap (λ (o : Ordering). ordering_then o order)
    (next (get_or one i 0) (get_or other i 0) (number (drop (suc i) one)) (number (drop (suc i) other)) x y)
    ∙ then_assoc (nat_cmp (number (drop (suc i) one)) (number (drop (suc i) other))) (nat_cmp (get_or one i 0) (get_or other i 0)) order
    ∙ ap (λ (n : ℕ). compared one other n (ordering_then (nat_cmp (get_or one i 0) (get_or other i 0)) order)) (sym more)

none_left : (xs : List ℕ) (i : ℕ) → length xs ≤ i → drop i xs ≡ []
none_left [] zero h = refl
none_left [] (suc i) h = refl
none_left (x ∷ xs) zero h = absurd (omega arith)
none_left (x ∷ xs) (suc i) h = none_left xs i (omega arith)

pub compared-end : (one other : List ℕ) (i : ℕ) (order : Ordering) → length one ≤ i → length other ≤ i → compared one other i order ≡ order
compared-end one other i order h k =
    ap (λ (t : List ℕ). ordering_then (nat_cmp (number t) (number (drop i other))) order) (none_left one i h)
    ∙ ap (λ (t : List ℕ). ordering_then (nat_cmp 0 (number t)) order) (none_left other i k)
