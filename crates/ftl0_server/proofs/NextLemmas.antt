-- What the places of a server send next.
use Rattle.std.proofs.Common.{◌≡◌, ℕ, zero, suc, ◌<◌, List, [], ◌∷◌, set, take, Bool, true, false, Option, None, Some, refl, sym, subst, arith}
use Rattle.std.specs.Prelude.{◌||◌}
use Rattle.ftl0_server.proofs.Names.{common_steps, slice_get, same_Some, Window, SamePlaces, GivesOut, PlacesGive, SamePlace, Place, AllPlaces, SendsAs, any_pending, place_most, place_pending, places_most, PlacesSend, Slot, first_of, places_next, slot_next}
use Rattle.ftl0_server.proofs.AllPlaces.{by-pairs, never}

pub true_no : {X : Type 0} → true ≡ false → X
true_no same = absurd (let x : ⊥ = cc in x)

pub quiet-slot : (w : Window) (place : Place) (slot : Slot) → SendsAs w place slot → place_pending place ≡ false → slot_next w slot ≡ None
quiet-slot w = grind (arith, common_steps)

-- neither the first nor the others
pub none_first : (a b : Bool) → (a || b) ≡ false → (a ≡ false) × (b ≡ false)
none_first a b h = grind (arith, common_steps)

-- places with nothing pending send nothing
pub quiet-places : (w : Window) (places : List Place) (slots : List Slot) → AllPlaces (SendsAs w) places slots → any_pending places ≡ false → places_next w slots ≡ None
quiet-places w =
    by-pairs (SendsAs w) (λ ps ss. any_pending ps ≡ false → places_next w ss ≡ None) (λ none. refl)
    (λ p s ps ss here all later none. let parts = none_first (place_pending p) (any_pending ps) none in rw (quiet-slot w p s here parts.0, later parts.1))

module _ (w : Window) (new : Place) (before out : List ℕ) where
  later-gives : (p : Place) (s : Slot) (ps : List Place) (ss : List Slot) (o : Option PlacesSend) → SendsAs w p s → PlacesGive o w ps out true
      → PlacesGive (first_of s ss None o) w (p ∷ ps) out true
  later-gives p s ps ss o here gives = grind (arith, common_steps)

  -- the first place that has a frame gives it out
  pub next-at : (places : List Place) (slots : List Slot) (i : ℕ) (old : Place) → AllPlaces (SendsAs w) places slots → slice_get places i ≡ Some old
      → any_pending (take i places) ≡ false → ((slot : Slot) → SendsAs w old slot → GivesOut (slot_next w slot) w new before out true)
      → PlacesGive (places_next w slots) w (set places i new) out true
  next-at [] slots i old all at none gives = absurd (never old at)
  next-at (p ∷ ps) [] i old all at none gives = absurd all
  next-at (p ∷ ps) (s ∷ ss) zero old all at none gives = grind (arith, common_steps)
  next-at (p ∷ ps) (s ∷ ss) (suc i) old all at none gives =
      let parts = none_first (place_pending p) (any_pending (take i ps)) none in
      rw (quiet-slot w p s all.0 parts.0) (later-gives p s (set ps i new) ss (places_next w ss) all.0 (next-at ps ss i old all.1 at parts.1 gives))

-- fewer frames are left of all places if fewer are of one
pub most-at : (places : List Place) (i : ℕ) (old new : Place) → slice_get places i ≡ Some old → place_most new < place_most old
    → places_most (set places i new) < places_most places
most-at [] i old new at fewer = absurd (never old at)
most-at (p ∷ ps) zero old new at fewer = grind (arith, common_steps)
most-at (p ∷ ps) (suc i) old new at fewer = let later = most-at ps i old new at fewer in omega (arith, later)

-- a place is as it was
pub same_place : (place : Place) → SamePlace place place
same_place place = grind (arith, common_steps)

pub same_places : (places : List Place) → SamePlaces places places
same_places [] = tt
same_places (p ∷ ps) = (same_place p, same_places ps)

pub same-at-place : (places : List Place) (i : ℕ) (old new : Place) → slice_get places i ≡ Some old → SamePlace old new → SamePlaces places (set places i new)
same-at-place [] i old new at same = absurd (never old at)
same-at-place (p ∷ ps) zero old new at same = (subst (λ (x : Place). SamePlace x new) (sym (same_Some p old at)) same, same_places ps)
same-at-place (p ∷ ps) (suc i) old new at same = (same_place p, same-at-place ps i old new at same)
