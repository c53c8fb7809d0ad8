-- The clients that stations play, one after another, and where one of them, or what was sent to each, is changed.
use Rattle.std.proofs.Common.{◌≡◌, ℕ, zero, suc, ◌<◌, List, [], ◌∷◌, length, Some, refl, sym, ap, subst, ◌∙◌}
use Rattle.std.proofs.Common.{arith}
use Rattle.air_world.specs.Attempts.Party.{Party}
use Rattle.air_rehearsal.proofs.Names.{slice_get, map, same_Some, PlayParties, PlaysParty, Party as StoredParty}

pub at-place : {X : Type 0} (xs : List X) (i : ℕ) → i < length xs → (x : X) × (slice_get xs i ≡ Some x)
at-place [] i within = absurd (let no : ⊥ = omega arith in no)
at-place (x ∷ xs) zero within = (x, refl)
at-place (x ∷ xs) (suc i) within = at-place xs i (omega arith)

pub at-mapped : {X Y : Type 0} (f : X → Y) (xs : List X) (i : ℕ) (y : Y) → slice_get (map f xs) i ≡ Some y
    → (x : X) × (slice_get xs i ≡ Some x) × (y ≡ f x)
at-mapped f [] i y at = absurd cc
at-mapped f (x ∷ xs) zero y at = (x, refl, sym (same_Some (f x) y at))
at-mapped f (x ∷ xs) (suc i) y at = at-mapped f xs i y at

pub plays-at : (all : List StoredParty) (parties : List Party) (c : ℕ) (party : Party) → PlayParties all parties
    → slice_get parties c ≡ Some party → (self : StoredParty) × (slice_get all c ≡ Some self) × PlaysParty self party
plays-at [] [] c party plays at = absurd cc
plays-at [] (p ∷ parties) c party plays at = absurd plays
plays-at (s ∷ all) [] c party plays at = absurd plays
plays-at (s ∷ all) (p ∷ parties) zero party plays at =
    (s, refl, subst (λ (it : Party). PlaysParty s it) (same_Some p party at) plays.0)
plays-at (s ∷ all) (p ∷ parties) (suc c) party plays at = plays-at all parties c party plays.1 at

pub plays-both : (all : List StoredParty) (parties : List Party) (c : ℕ) (self : StoredParty) (party : Party)
    → PlayParties all parties → slice_get all c ≡ Some self → slice_get parties c ≡ Some party → PlaysParty self party
plays-both all parties c self party plays at there =
    let it = plays-at all parties c party plays there in
    subst (λ (s : StoredParty). PlaysParty s party) (same_Some it.0 self (sym it.1 ∙ at)) it.2

pub plays-length : (all : List StoredParty) (parties : List Party) → PlayParties all parties
    → length all ≡ length parties
plays-length [] [] plays = refl
plays-length [] (p ∷ parties) plays = absurd plays
plays-length (s ∷ all) [] plays = absurd plays
plays-length (s ∷ all) (p ∷ parties) plays = ap suc (plays-length all parties plays.1)

pub plays-each : (all : List StoredParty) (parties : List Party) → length all ≡ length parties
    → ((c : ℕ) (self : StoredParty) (party : Party) → slice_get all c ≡ Some self → slice_get parties c ≡ Some party
    → PlaysParty self party) → PlayParties all parties
plays-each [] [] same each = tt
plays-each [] (p ∷ parties) same each = absurd (let no : ⊥ = omega (arith, same) in no)
plays-each (s ∷ all) [] same each = absurd (let no : ⊥ = omega (arith, same) in no)
plays-each (s ∷ all) (p ∷ parties) same each = (
  each zero s p refl refl,
  plays-each all parties (let less : length all ≡ length parties = omega (arith, same) in less)
      (λ c self party at there. each (suc c) self party at there),
)
