-- What is at a place of a list, and what is set there; and lists of which a relation holds place by place (`AllZip`).
use Rattle.std.proofs.Common.{◌≡◌, ◌≢◌, ◌⊎◌, ℕ, zero, suc, ◌<◌, ◌≤◌, List, [], ◌∷◌, get_or, length, map, None, Some}
use Rattle.std.proofs.Common.{refl, sym, ap, subst, inl, inr, arith, ◌∙◌}
use Rattle.std.specs.List.{slice_get, slice_set}
use Rattle.air_rehearsal.proofs.Names.{AllZip, same_Some, slice_get_past, slice_get_read}

module _ {X Y : Type 0} (R : X → Y → Type 0) where
  -- where the first list has an element at a place, the second one has one too, and the two are related
  pub pair-left :
      (xs : List X) (ys : List Y) → AllZip R xs ys → (k : ℕ) (x : X) → slice_get xs k ≡ Some x
      → (y : Y) × (slice_get ys k ≡ Some y) × R x y
  pair-left [] [] all k x at = absurd cc
  pair-left [] (y ∷ ys) all k x at = absurd all
  pair-left (w ∷ xs) [] all k x at = absurd all
  pair-left (w ∷ xs) (y ∷ ys) all zero x at = (y, refl, subst (λ v. R v y) (same_Some w x at) all.0)
  pair-left (w ∷ xs) (y ∷ ys) all (suc k) x at = pair-left xs ys all.1 k x at

  -- and the other way
  pub pair-right :
      (xs : List X) (ys : List Y) → AllZip R xs ys → (k : ℕ) (y : Y) → slice_get ys k ≡ Some y
      → (x : X) × (slice_get xs k ≡ Some x) × R x y
  pair-right [] [] all k y at = absurd cc
  pair-right [] (v ∷ ys) all k y at = absurd all
  pair-right (x ∷ xs) [] all k y at = absurd all
  pair-right (x ∷ xs) (v ∷ ys) all zero y at = (x, refl, subst (λ u. R x u) (same_Some v y at) all.0)
  pair-right (x ∷ xs) (v ∷ ys) all (suc k) y at = pair-right xs ys all.1 k y at

  -- the two at a place are related
  pub pair-at :
      (xs : List X) (ys : List Y) → AllZip R xs ys → (k : ℕ) (x : X) (y : Y) → slice_get xs k ≡ Some x
      → slice_get ys k ≡ Some y → R x y
  pair-at xs ys all k x y at at_other =
      let found = pair-left xs ys all k x at in
      subst (λ u. R x u) (same_Some found.0 y (let e : Some found.0 ≡ Some y = cc in e)) found.2

  -- both are related ones at a place, and the others are as they were
  pub pair-set :
      (xs : List X) (ys : List Y) → AllZip R xs ys → (k : ℕ) (x : X) (y : Y) → R x y
      → AllZip R (slice_set xs k x) (slice_set ys k y)
  pair-set [] [] all k x y both = tt
  pair-set [] (v ∷ ys) all k x y both = absurd all
  pair-set (w ∷ xs) [] all k x y both = absurd all
  pair-set (w ∷ xs) (v ∷ ys) all zero x y both = (both, all.1)
  pair-set (w ∷ xs) (v ∷ ys) all (suc k) x y both = (all.0, pair-set xs ys all.1 k x y both)

  -- only the first list's element is another one at a place
  pub pair-set_left :
      (xs : List X) (ys : List Y) → AllZip R xs ys → (k : ℕ) (x : X) (y : Y) → slice_get ys k ≡ Some y → R x y
      → AllZip R (slice_set xs k x) ys
  pair-set_left [] [] all k x y at both = tt
  pair-set_left [] (v ∷ ys) all k x y at both = absurd all
  pair-set_left (w ∷ xs) [] all k x y at both = absurd all
  pair-set_left (w ∷ xs) (v ∷ ys) all zero x y at both = (subst (λ u. R x u) (sym (same_Some v y at)) both, all.1)
  pair-set_left (w ∷ xs) (v ∷ ys) all (suc k) x y at both = (all.0, pair-set_left xs ys all.1 k x y at both)

  -- only the second list's is
  pub pair-set_right :
      (xs : List X) (ys : List Y) → AllZip R xs ys → (k : ℕ) (x : X) (y : Y) → slice_get xs k ≡ Some x → R x y
      → AllZip R xs (slice_set ys k y)
  pair-set_right [] [] all k x y at both = tt
  pair-set_right [] (v ∷ ys) all k x y at both = absurd all
  pair-set_right (w ∷ xs) [] all k x y at both = absurd all
  pair-set_right (w ∷ xs) (v ∷ ys) all zero x y at both = (subst (λ u. R u y) (sym (same_Some w x at)) both, all.1)
  pair-set_right (w ∷ xs) (v ∷ ys) all (suc k) x y at both = (all.0, pair-set_right xs ys all.1 k x y at both)

-- where related elements are made into related ones, place by place
pub pair-map :
    {X Y V W : Type 0} (R : X → Y → Type 0) (S : V → W → Type 0) (f : X → V) (g : Y → W)
    → ((x : X) (y : Y) → R x y → S (f x) (g y)) → (xs : List X) (ys : List Y) → AllZip R xs ys
    → AllZip S (map f xs) (map g ys)
pair-map R S f g goes [] [] all = tt
pair-map R S f g goes [] (y ∷ ys) all = absurd all
pair-map R S f g goes (x ∷ xs) [] all = absurd all
pair-map R S f g goes (x ∷ xs) (y ∷ ys) all = (goes x y all.0, pair-map R S f g goes xs ys all.1)

-- where both lists become others, and what was related becomes related so at each place
pub pair-through :
    {X Y V W : Type 0} (R : X → Y → Type 0) (S : V → W → Type 0) (P : X → V → Type 0) (Q : Y → W → Type 0)
    → ((x : X) (y : Y) (v : V) (w : W) → R x y → P x v → Q y w → S v w) → (xs : List X) (ys : List Y) (vs : List V)
    (ws : List W) → AllZip R xs ys → AllZip P xs vs → AllZip Q ys ws → AllZip S vs ws
pair-through R S P Q goes [] [] [] [] all left right = tt
pair-through R S P Q goes [] [] [] (w ∷ ws) all left right = absurd right
pair-through R S P Q goes [] [] (v ∷ vs) ws all left right = absurd left
pair-through R S P Q goes [] (y ∷ ys) vs ws all left right = absurd all
pair-through R S P Q goes (x ∷ xs) [] vs ws all left right = absurd all
pair-through R S P Q goes (x ∷ xs) (y ∷ ys) [] ws all left right = absurd left
pair-through R S P Q goes (x ∷ xs) (y ∷ ys) (v ∷ vs) [] all left right = absurd right
pair-through R S P Q goes (x ∷ xs) (y ∷ ys) (v ∷ vs) (w ∷ ws) all left right =
    (goes x y v w all.0 left.0 right.0, pair-through R S P Q goes xs ys vs ws all.1 left.1 right.1)

-- ---- what `get` told of a slice that has these elements

pub get-some :
    {X : Type 0} (xs read : List X) (place : ℕ) (x : X) → read ≡ xs
    → (place < length read) × ((d : X) → x ≡ get_or read place d) → slice_get xs place ≡ Some x
get-some {X} xs read place x same is =
    ap (λ (list : List X). slice_get list place) (sym same)
    ∙ slice_get_read read (length read) place x refl is.0 (is.1 x)

pub get-none :
    {X : Type 0} (xs read : List X) (place : ℕ) → read ≡ xs → length read ≤ place → slice_get xs place ≡ None
get-none {X} xs read place same past =
    ap (λ (list : List X). slice_get list place) (sym same) ∙ slice_get_past read place past

-- the element at a place of a list of which one is another now
pub set_at : {X : Type 0} (xs : List X) (i j : ℕ) (x y : X) → slice_get (slice_set xs i x) j ≡ Some y
    → ((j ≡ i) × (y ≡ x)) ⊎ ((j ≢ i) × (slice_get xs j ≡ Some y))
set_at [] i j x y at = absurd cc
set_at (z ∷ zs) zero zero x y at = inl (refl, sym (same_Some x y at))
set_at (z ∷ zs) zero (suc j) x y at = inr (λ e. (let no : ⊥ = omega (arith, e) in no), at)
set_at (z ∷ zs) (suc i) zero x y at = inr (λ e. (let no : ⊥ = omega (arith, e) in no), at)
set_at (z ∷ zs) (suc i) (suc j) x y at = elim (set_at zs i j x y at) [
  | inl same ↦ inl (ap suc same.0, same.1)
  | inr other ↦ inr (λ e. other.0 (let same : j ≡ i = omega (arith, e) in same), other.1)
]
