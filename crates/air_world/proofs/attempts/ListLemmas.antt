-- What is so of each of a list, or of one of it: of those at hand, and of a changed list of them.
use Rattle.std.proofs.Common.{◌≡◌, ◌⊎◌, ℕ, zero, suc, List, [], ◌∷◌, ◌++◌, map, refl, sym, subst, Option, None, Some}
use Rattle.std.proofs.Common.{inl, inr, ap, ◌∙◌, append-nil, arith}
use Rattle.std.proofs.lemmas.Grind.{flat_map-append}
use Rattle.air_world.proofs.attempts.Names.{IfSome, slice_get, slice_set, AllByRecursion, flat_map, same_Some, Has, OneIs}

-- ---- each of a list

-- the one that a list has is so, if each of them is
pub each-at : {X : Type 0} (P : X → Type 0) (xs : List X) (x : X) → AllByRecursion P xs → Has xs x → P x
each-at P [] x each has = absurd has
each-at P (y ∷ ys) x each (inl same) = subst P same each.0
each-at P (y ∷ ys) x each (inr has) = each-at P ys x each.1 has

-- and each is, if the one that a list has is, whichever it is
pub each-from : {X : Type 0} {P : X → Type 0} (xs : List X) → ((x : X) → Has xs x → P x) → AllByRecursion P xs
each-from [] holds = tt
each-from (x ∷ xs) holds = (holds x (inl refl), each-from xs (λ y has. holds y (inr has)))

pub each-weaker : {X : Type 0} {P Q : X → Type 0} (xs : List X) → ((x : X) → P x → Q x) → AllByRecursion P xs
    → AllByRecursion Q xs
each-weaker [] weaker each = tt
each-weaker (x ∷ xs) weaker each = (weaker x each.0, each-weaker xs weaker each.1)

pub each-both : {X : Type 0} {P Q R : X → Type 0} (xs : List X) → ((x : X) → P x → Q x → R x) → AllByRecursion P xs
    → AllByRecursion Q xs
    → AllByRecursion R xs
each-both [] both one two = tt
each-both (x ∷ xs) both one two = (both x one.0 two.0, each-both xs both one.1 two.1)

pub each-map : {X : Type 0} {P : X → Type 0} (Q : X → Type 0) (change : X → X) (xs : List X)
    → ((x : X) → P x → Q (change x)) → AllByRecursion P xs
    → AllByRecursion Q (map change xs)
each-map Q change [] changes each = tt
each-map Q change (x ∷ xs) changes each = (changes x each.0, each-map Q change xs changes each.1)

pub each-append : {X : Type 0} (P : X → Type 0) (xs ys : List X) → AllByRecursion P xs → AllByRecursion P ys
    → AllByRecursion P (xs ++ ys)
each-append P [] ys one two = two
each-append P (x ∷ xs) ys one two = (one.0, each-append P xs ys one.1 two)

-- ---- one of a list

pub one-weaker : {X : Type 0} {P Q : X → Type 0} (xs : List X) → ((x : X) → P x → Q x) → OneIs P xs → OneIs Q xs
one-weaker [] weaker one = one
one-weaker (x ∷ xs) weaker (inl here) = inl (weaker x here)
one-weaker (x ∷ xs) weaker (inr there) = inr (one-weaker xs weaker there)

pub one-map : {X : Type 0} {P : X → Type 0} (Q : X → Type 0) (change : X → X) (xs : List X)
    → ((x : X) → P x → Q (change x)) → OneIs P xs
    → OneIs Q (map change xs)
one-map Q change [] changes one = one
one-map Q change (x ∷ xs) changes (inl here) = inl (changes x here)
one-map Q change (x ∷ xs) changes (inr there) = inr (one-map Q change xs changes there)

pub one-left : {X : Type 0} (P : X → Type 0) (xs ys : List X) → OneIs P xs → OneIs P (xs ++ ys)
one-left P [] ys one = absurd one
one-left P (x ∷ xs) ys (inl here) = inl here
one-left P (x ∷ xs) ys (inr there) = inr (one-left P xs ys there)

pub one-right : {X : Type 0} (P : X → Type 0) (xs ys : List X) → OneIs P ys → OneIs P (xs ++ ys)
one-right P [] ys one = one
one-right P (x ∷ xs) ys one = inr (one-right P xs ys one)

pub one-cases : {X : Type 0} (P : X → Type 0) (xs ys : List X) → OneIs P (xs ++ ys) → OneIs P xs ⊎ OneIs P ys
one-cases P [] ys one = inr one
one-cases P (x ∷ xs) ys (inl here) = inl (inl here)
one-cases P (x ∷ xs) ys (inr there) = by (one-cases P xs ys there)
  where
    by : OneIs P xs ⊎ OneIs P ys → (P x ⊎ OneIs P xs) ⊎ OneIs P ys
    by (inl left) = inl (inr left)
    by (inr right) = inr right

pub one-last : {X : Type 0} (P : X → Type 0) (xs : List X) (x : X) → P x → OneIs P (xs ++ x ∷ [])
one-last P xs x holds = one-right P xs (x ∷ []) (inl holds)

-- the one that is so
pub one-at : {X : Type 0} {P : X → Type 0} (xs : List X) → OneIs P xs → (x : X) × Has xs x × P x
one-at [] one = absurd one
one-at (x ∷ xs) (inl here) = (x, inl refl, here)
one-at (x ∷ xs) (inr there) = let found = one-at xs there in (found.0, inr found.1, found.2)

pub one-from : {X : Type 0} (P : X → Type 0) (xs : List X) (x : X) → Has xs x → P x → OneIs P xs
one-from P [] x has holds = has
one-from P (y ∷ ys) x (inl same) holds = inl (subst P (sym same) holds)
one-from P (y ∷ ys) x (inr has) holds = inr (one-from P ys x has holds)

-- what is at a place is one of the list
pub has-at : {X : Type 0} (xs : List X) (place : ℕ) (x : X) → slice_get xs place ≡ Some x → Has xs x
has-at [] place x there = absurd (cc)
has-at (y ∷ ys) zero x there = inl (same_Some y x there)
has-at (y ∷ ys) (suc place) x there = inr (has-at ys place x there)

-- ---- one more of a list

pub flat_map-one : {X Y : Type 0} (f : X → List Y) (xs : List X) (x : X)
    → flat_map f (xs ++ x ∷ []) ≡ flat_map f xs ++ f x
flat_map-one {Y = Y} f xs x = flat_map-append f xs (x ∷ []) ∙ ap (λ (l : List Y). flat_map f xs ++ l) (append-nil (f x))

-- ---- places of a list

-- the one at a place of a list of which each is so
pub all-at : {X : Type 0} (P : X → Type 0) (xs : List X) (place : ℕ) (x : X) → AllByRecursion P xs
    → slice_get xs place ≡ Some x → P x
all-at P [] place x all is = absurd (cc is)
all-at P (y ∷ xs) zero x all is = subst P (same_Some y x is) all.0
all-at P (y ∷ xs) (suc place) x all is = all-at P xs place x all.1 is

-- each is so, if what is at any place is
pub all-by : {X : Type 0} (P : X → Type 0) (xs : List X)
    → ((place : ℕ) (x : X) → slice_get xs place ≡ Some x → P x) → AllByRecursion P xs
all-by P [] holds = tt
all-by P (x ∷ xs) holds = (holds zero x refl, all-by P xs (λ place y there. holds (suc place) y there))

-- the element at a place is the one that was put there, or the one that was there
pub set-at : {X : Type 0} (xs : List X) (i j : ℕ) (x y : X) → slice_get (slice_set xs i x) j ≡ Some y
    → ((j ≡ i) × (y ≡ x)) ⊎ ((j ≡ i → ⊥) × (slice_get xs j ≡ Some y))
set-at [] i j x y at = absurd cc
set-at (z ∷ zs) zero zero x y at = inl (refl, sym (same_Some x y at))
set-at (z ∷ zs) zero (suc j) x y at = inr (λ same. absurd (omega (arith, same)), at)
set-at (z ∷ zs) (suc i) zero x y at = inr (λ same. absurd (omega (arith, same)), at)
set-at (z ∷ zs) (suc i) (suc j) x y at = by (set-at zs i j x y at)
  where
    by : ((j ≡ i) × (y ≡ x)) ⊎ ((j ≡ i → ⊥) × (slice_get zs j ≡ Some y))
        → ((suc j ≡ suc i) × (y ≡ x)) ⊎ ((suc j ≡ suc i → ⊥) × (slice_get zs j ≡ Some y))
    by (inl same) = inl (ap suc same.0, same.1)
    by (inr other) = inr (λ same. other.0 (omega (arith, same)), other.1)

-- the place of the one that is so
pub one-placed : {X : Type 0} (P : X → Type 0) (xs : List X) → OneIs P xs
    → (place : ℕ) × (x : X) × (slice_get xs place ≡ Some x) × P x
one-placed P [] one = absurd one
one-placed P (x ∷ xs) (inl here) = (zero, x, refl, here)
one-placed P (x ∷ xs) (inr there) = let later = one-placed P xs there in (suc later.0, later.1, later.2, later.3)

-- ---- what there may be

pub some-at : {X : Type 0} (P : X → Type 0) (o : Option X) (x : X) → IfSome o P → o ≡ Some x → P x
some-at P None x if is = absurd (cc)
some-at P (Some y) x if is = subst P (same_Some y x is) if

pub some-from : {X : Type 0} {P : X → Type 0} (o : Option X) → ((x : X) → o ≡ Some x → P x) → IfSome o P
some-from None holds = tt
some-from (Some x) holds = holds x refl

pub some-weaker : {X : Type 0} {P Q : X → Type 0} (o : Option X) → ((x : X) → P x → Q x) → IfSome o P → IfSome o Q
some-weaker None weaker holds = tt
some-weaker (Some x) weaker holds = weaker x holds
