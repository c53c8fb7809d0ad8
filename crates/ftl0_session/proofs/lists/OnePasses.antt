-- Lists of which at most one element passes a test.
use Rattle.std.proofs.Common.{◌≡◌, ℕ, zero, suc, ◌<◌, Bool, true, false, cond, not, List, [], ◌∷◌, map, length, set, filter, find, position, remove, AllPairs, Option, None, Some, option_map, get_or, refl, sym, ◌∙◌, ap, subst, inl, inr, ltb, arith}
use Rattle.ftl0_session.proofs.Names.{AllByRecursion, position_or_len, cases_Bool, false_from_ne_true, ltb-false, true≢false, recursion_from_All, length-filter_both, find_at, same_Some, slice_get_past}

module _ {X : Type 0} (p : X → Bool) where
  -- no element passes
  abbrev pub NonePass : List X → Type 0
  NonePass xs = AllByRecursion (λ x. p x ≡ false) xs

  -- the element at this place passes, and no other one
  abbrev pub PassesAt : ℕ → List X → Type 0
  PassesAt i [] = ⊥
  PassesAt zero (x ∷ xs) = (p x ≡ true) × NonePass xs
  PassesAt (suc i) (x ∷ xs) = (p x ≡ false) × PassesAt i xs

  -- the elements that don't pass
  abbrev pub rest : List X → List X
  rest xs = filter (λ x. not (p x)) xs

  first-is : (b : Bool) (o : Option X) (x y : X) → b ≡ true → cond b (Some x) o ≡ Some y → x ≡ y
  first-is true o x y is found = same_Some x y found
  first-is false o x y is found = absurd (true≢false (sym is))

  pub find-nowhere : (xs : List X) → position p xs ≡ None → find p xs ≡ None
  find-nowhere xs none =
      elim (cases_Bool (ltb (position_or_len p xs) (length xs))) [
        | inl below ↦
            absurd (cc (sym (ap (λ (b : Bool). cond b (Some (position_or_len p xs)) None) below) ∙ none))
        | inr past ↦
            find_at p xs ∙ slice_get_past xs (position_or_len p xs) (ltb-false (position_or_len p xs) (length xs) past)
      ]

  pub none-from_find : (xs : List X) → find p xs ≡ None → NonePass xs
  none-from_find [] none = tt
  none-from_find (x ∷ xs) none =
      elim (cases_Bool (p x)) [
        | inl here ↦ absurd (cc (sym (ap (λ (b : Bool). cond b (Some x) (find p xs)) here) ∙ none))
        | inr other ↦ (other, none-from_find xs (sym (ap (λ (b : Bool). cond b (Some x) (find p xs)) other) ∙ none))
      ]

  pub find-none : (xs : List X) → NonePass xs → find p xs ≡ None
  find-none [] none = refl
  find-none (x ∷ xs) none = rw (none.0) (find-none xs none.1)

  pub rest-none : (xs : List X) → NonePass xs → rest xs ≡ xs
  rest-none [] none = refl
  rest-none (x ∷ xs) none = rw (none.0) (ap (λ (ys : List X). x ∷ ys) (rest-none xs none.1))

  pub map-none : (f : X → X) (xs : List X) → NonePass xs → map (λ x. cond (p x) (f x) x) xs ≡ xs
  map-none f [] none = refl
  map-none f (x ∷ xs) none = rw (none.0) (ap (λ (ys : List X). x ∷ ys) (map-none f xs none.1))

  -- an element passes, and no two do
  pub passes-at : (i : ℕ) (xs : List X) (d : X) → AllPairs (λ x y. p x ≡ true → p y ≡ true → ⊥) xs → i < length xs
      → p (get_or xs i d) ≡ true → PassesAt i xs
  passes-at i [] d apart below here = absurd (omega arith)
  passes-at zero (x ∷ xs) d apart below here = (
    here,
    recursion_from_All (λ y. p y ≡ false) xs
        (λ k e within. false_from_ne_true (p (get_or xs k e)) (λ is. apart 0 (suc k) e (omega arith) (omega arith) here is)),
  )
  passes-at (suc i) (x ∷ xs) d apart below here = (
    false_from_ne_true (p x) (λ is. apart 0 (suc i) d (omega arith) below is here),
    passes-at i xs d (λ j k e less within. apart (suc j) (suc k) e (omega arith) (omega arith)) (omega arith) here,
  )

  pub find-one : (i : ℕ) (xs : List X) (d : X) → PassesAt i xs → find p xs ≡ Some (get_or xs i d)
  find-one i [] d at = absurd at
  find-one zero (x ∷ xs) d at = rw (at.0) refl
  find-one (suc i) (x ∷ xs) d at = rw (at.0) (find-one i xs d at.1)

  pub rest-one : (i : ℕ) (xs : List X) → PassesAt i xs → rest xs ≡ remove xs i
  rest-one i [] at = absurd at
  rest-one zero (x ∷ xs) at = rw (at.0) (rest-none xs at.1)
  rest-one (suc i) (x ∷ xs) at = rw (at.0) (ap (λ (ys : List X). x ∷ ys) (rest-one i xs at.1))

  pub map-one : (f : X → X) (i : ℕ) (xs : List X) (d : X) → PassesAt i xs
      → map (λ x. cond (p x) (f x) x) xs ≡ set xs i (f (get_or xs i d))
  map-one f i [] d at = absurd at
  map-one f zero (x ∷ xs) d at = rw (at.0) (ap (λ (ys : List X). f x ∷ ys) (map-none f xs at.1))
  map-one f (suc i) (x ∷ xs) d at = rw (at.0) (ap (λ (ys : List X). x ∷ ys) (map-one f i xs d at.1))

  pub none-in_rest : (xs : List X) → NonePass (rest xs)
  none-in_rest [] = tt
  none-in_rest (x ∷ xs) =
      elim (cases_Bool (p x)) [
        | inl here ↦
            subst (λ (b : Bool). NonePass (cond (not b) (x ∷ rest xs) (rest xs))) (sym here) (none-in_rest xs)
        | inr other ↦
            subst (λ (b : Bool). NonePass (cond (not b) (x ∷ rest xs) (rest xs))) (sym other) (other, none-in_rest xs)
      ]

  -- if an element passes, fewer are left
  pub fewer-left : (xs : List X) (y : X) → find p xs ≡ Some y → length (rest xs) < length xs
  fewer-left [] y found = absurd (cc found)
  fewer-left (x ∷ xs) y found =
      elim (cases_Bool (p x)) [
        | inl here ↦
            let both = length-filter_both p (λ z. not (p z)) (λ z. refl) xs in
            let most : length (rest xs) < suc (length xs) = omega (arith, both) in
            subst (λ (b : Bool). length (cond (not b) (x ∷ rest xs) (rest xs)) < suc (length xs)) (sym here) most
        | inr other ↦
            let fewer = fewer-left xs y (sym (ap (λ (b : Bool). cond b (Some x) (find p xs)) other) ∙ found) in
            let most : suc (length (rest xs)) < suc (length xs) = omega (arith, fewer) in
            subst (λ (b : Bool). length (cond (not b) (x ∷ rest xs) (rest xs)) < suc (length xs)) (sym other) most
      ]

  -- what is found passes
  pub found-passes : (xs : List X) (y : X) → find p xs ≡ Some y → p y ≡ true
  found-passes [] y found = absurd (cc found)
  found-passes (x ∷ xs) y found =
      elim (cases_Bool (p x)) [
        | inl here ↦ subst (λ (z : X). p z ≡ true) (first-is (p x) (find p xs) x y here found) here
        | inr other ↦ found-passes xs y (sym (ap (λ (b : Bool). cond b (Some x) (find p xs)) other) ∙ found)
      ]

  -- another test that passes none of these finds the same in the rest
  pub find-in_rest : (q : X → Bool) → ((x : X) → q x ≡ true → p x ≡ false) → (xs : List X) → find q (rest xs) ≡ find q xs
  find-in_rest q apart [] = refl
  find-in_rest q apart (x ∷ xs) =
      elim (cases_Bool (p x)) [
        | inl here ↦
            let no : q x ≡ false = false_from_ne_true (q x) (λ is. true≢false (sym here ∙ apart x is)) in
            ap (λ (b : Bool). find q (cond (not b) (x ∷ rest xs) (rest xs))) here
            ∙ find-in_rest q apart xs ∙ sym (ap (λ (b : Bool). cond b (Some x) (find q xs)) no)
        | inr other ↦
            ap (λ (b : Bool). find q (cond (not b) (x ∷ rest xs) (rest xs))) other
            ∙ ap (λ (o : Option X). cond (q x) (Some x) o) (find-in_rest q apart xs)
      ]

  -- what is found after a change that the test doesn't see
  pub find-mapped : (f : X → X) → ((x : X) → p (f x) ≡ p x) → (xs : List X) → find p (map f xs) ≡ option_map f (find p xs)
  find-mapped f same [] = refl
  find-mapped f same (x ∷ xs) =
      ap (λ (b : Bool). cond b (Some (f x)) (find p (map f xs))) (same x)
      ∙ elim (cases_Bool (p x)) [
        | inl here ↦
            ap (λ (b : Bool). cond b (Some (f x)) (find p (map f xs))) here
            ∙ sym (ap (λ (b : Bool). option_map f (cond b (Some x) (find p xs))) here)
        | inr other ↦
            ap (λ (b : Bool). cond b (Some (f x)) (find p (map f xs))) other ∙ find-mapped f same xs
            ∙ sym (ap (λ (b : Bool). option_map f (cond b (Some x) (find p xs))) other)
      ]
