-- Lists of clients and of attempts.
use Rattle.std.proofs.Common.{◌≡◌, ℕ, zero, suc, List, [], ◌∷◌, Bool, true, false, Some, refl, sym, ap}
use Rattle.air_world.proofs.Names.{slice_get, slice_set, map, same_Some, CallSign, is_same_call, same_call-decides}

pub other-call : (one other : CallSign) → (one ≡ other → ⊥) → is_same_call one other ≡ false
other-call one other differs = by (is_same_call one other) refl
  where
    by : (b : Bool) → is_same_call one other ≡ b → is_same_call one other ≡ false
    by true is = absurd (differs ((same_call-decides one other).0 is))
    by false is = is

-- the elements of a list after a function, and of one with one changed
pub map-at : {X Y : Type 0} (f : X → Y) (xs : List X) (i : ℕ) (y : Y) → slice_get (map f xs) i ≡ Some y
    → (x : X) × (slice_get xs i ≡ Some x) × (y ≡ f x)
map-at f [] i y at = absurd cc
map-at f (x ∷ xs) zero y at = (x, refl, sym (same_Some (f x) y at))
map-at f (x ∷ xs) (suc i) y at = map-at f xs i y at

pub at-map : {X Y : Type 0} (f : X → Y) (xs : List X) (i : ℕ) (x : X) → slice_get xs i ≡ Some x
    → slice_get (map f xs) i ≡ Some (f x)
at-map f [] i x at = absurd cc
at-map f (y ∷ ys) zero x at = ap (λ z. Some (f z)) (same_Some y x at)
at-map f (y ∷ ys) (suc i) x at = at-map f ys i x at

pub at-set : {X : Type 0} (xs : List X) (i : ℕ) (x old : X) → slice_get xs i ≡ Some old
    → slice_get (slice_set xs i x) i ≡ Some x
at-set [] i x old at = absurd cc
at-set (z ∷ zs) zero x old at = refl
at-set (z ∷ zs) (suc i) x old at = at-set zs i x old at
