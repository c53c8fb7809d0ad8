-- Lists, and what is true of one of their elements.
use Rattle.std.specs.Prelude.{◌≡◌, ◌⊎◌, ℕ, zero, suc, List, [], ◌∷◌, ◌++◌}

-- one of them is so
abbrev pub OneIs : {X : Type 0} → (X → Type 0) → List X → Type 0
OneIs P [] = ⊥
OneIs P (x ∷ xs) = P x ⊎ OneIs P xs

-- this is one of them
abbrev pub Has : {X : Type 0} → List X → X → Type 0
Has xs x = OneIs (λ y. y ≡ x) xs

-- these are the first of them
abbrev pub AreFirstOf : {X : Type 0} → List X → List X → Type 0
AreFirstOf {X} xs all = (more : List X) × (all ≡ xs ++ more)

-- A schedule numbers clients and transmissions from 1 on: this of the place, from 0 on, that has the number. None has
-- number 0.
abbrev pub Placed : ℕ → (ℕ → Type 0) → Type 0
Placed zero P = ⊥
Placed (suc place) P = P place
