-- Facts of each place of a server and the slot at it.
use Rattle.std.proofs.Common.{◌≡◌, ◌≢◌, ℕ, zero, suc, List, [], ◌∷◌, length, set, Bool, false, not, None, Some, refl, sym, ap, subst, arith}
use Rattle.ftl0_server.proofs.Names.{common_steps, slice_get, position, prefix_len, same_Some, StandsFor, is_pending, Window, PacketLinkState, Connected, ConnectionState, Place, Talking, Empty, AllPlaces, SendsAs, Slot, connected, free, leaving}

pub never : {X : Type 0} (x : X) → None ≡ Some x → ⊥
never x same = cc

suc_no : (j : ℕ) → suc j ≡ 0 → ⊥
suc_no j same = cc

suc_same : (j i : ℕ) → suc j ≡ suc i → j ≡ i
suc_same j i same = cc

-- A place and a slot that send alike are of one of these three pairs.
pub sends-cases : (w : Window) (P : Place → Slot → Type 0) → ((d : ConnectionState) (c : Connected) → StandsFor w d.link c.end → P (Talking d) (connected c))
    → ((link : PacketLinkState) → is_pending link.link ≡ false → P (Empty link) free) → ((link : PacketLinkState) (c : Connected) → StandsFor w link.link c.end → P (Empty link) (leaving c))
    → (p : Place) (s : Slot) → SendsAs w p s → P p s
sends-cases w P talks silent leaves p s sends = grind (arith, common_steps)

module _ (P : Place → Slot → Type 0) where
  -- what is true of none, and of a pair and others if it is true of the others, is true of all
  pub by-pairs : (R : List Place → List Slot → Type 0) → R [] []
      → ((p : Place) (s : Slot) (ps : List Place) (ss : List Slot) → P p s → AllPlaces P ps ss → R ps ss → R (p ∷ ps) (s ∷ ss))
      → (places : List Place) (slots : List Slot) → AllPlaces P places slots → R places slots
  by-pairs R none more [] [] all = none
  by-pairs R none more [] (s ∷ ss) all = absurd all
  by-pairs R none more (p ∷ ps) [] all = absurd all
  by-pairs R none more (p ∷ ps) (s ∷ ss) all = more p s ps ss all.0 all.1 (by-pairs R none more ps ss all.1)

  -- what is true of the place at an index and its slot
  pub all-get : (places : List Place) (slots : List Slot) (i : ℕ) (place : Place) → AllPlaces P places slots → slice_get places i ≡ Some place
      → (slot : Slot) × (slice_get slots i ≡ Some slot) × P place slot
  all-get [] slots i place all at = absurd (never place at)
  all-get (p ∷ ps) [] i place all at = absurd all
  all-get (p ∷ ps) (s ∷ ss) zero place all at = (s, refl, subst (λ (x : Place). P x s) (same_Some p place at) all.0)
  all-get (p ∷ ps) (s ∷ ss) (suc i) place all at = all-get ps ss i place all.1 at

  pub all-set : (places : List Place) (slots : List Slot) (i : ℕ) (place : Place) (slot : Slot) → AllPlaces P places slots → P place slot
      → AllPlaces P (set places i place) (set slots i slot)
  all-set [] [] i place slot all one = tt
  all-set [] (s ∷ ss) i place slot all one = absurd all
  all-set (p ∷ ps) [] i place slot all one = absurd all
  all-set (p ∷ ps) (s ∷ ss) zero place slot all one = (one, all.1)
  all-set (p ∷ ps) (s ∷ ss) (suc i) place slot all one = (all.0, all-set ps ss i place slot all.1 one)

  pub all-length : (places : List Place) (slots : List Slot) → AllPlaces P places slots → length places ≡ length slots
  all-length = by-pairs (λ ps ss. length ps ≡ length ss) refl (λ p s ps ss here all same. ap suc same)

  module _ (Q : Place → Slot → Type 0) where
    -- one fact gives another at each index
    pub all-to : (places : List Place) (slots : List Slot)
        → ((i : ℕ) (place : Place) (slot : Slot) → slice_get places i ≡ Some place → slice_get slots i ≡ Some slot → P place slot → Q place slot)
        → AllPlaces P places slots → AllPlaces Q places slots
    all-to [] [] to all = tt
    all-to [] (s ∷ ss) to all = absurd all
    all-to (p ∷ ps) [] to all = absurd all
    all-to (p ∷ ps) (s ∷ ss) to all = (to 0 p s refl refl all.0, all-to ps ss (λ i place slot at it. to (suc i) place slot at it) all.1)

    pub all-both : (places : List Place) (slots : List Slot) → AllPlaces P places slots → AllPlaces Q places slots
        → AllPlaces (λ place slot. P place slot × Q place slot) places slots
    all-both =
        by-pairs (λ ps ss. AllPlaces Q ps ss → AllPlaces (λ place slot. P place slot × Q place slot) ps ss) (λ other. tt)
        (λ p s ps ss here all later other. ((here, other.0), later other.1))

-- Another fact is true of each pair: at one index of these, and elsewhere by the one that held.
pub all-set-to : (P Q : Place → Slot → Type 0) (places : List Place) (slots : List Slot) (i : ℕ) (place : Place) (slot : Slot)
    → ((j : ℕ) (p : Place) (s : Slot) → j ≢ i → slice_get places j ≡ Some p → slice_get slots j ≡ Some s → P p s → Q p s)
    → AllPlaces P places slots → Q place slot → AllPlaces Q (set places i place) (set slots i slot)
all-set-to P Q [] [] i place slot to all one = tt
all-set-to P Q [] (s ∷ ss) i place slot to all one = absurd all
all-set-to P Q (p ∷ ps) [] i place slot to all one = absurd all
all-set-to P Q (p ∷ ps) (s ∷ ss) zero place slot to all one =
    (one, all-to P Q ps ss (λ j x y at it. to (suc j) x y (λ same. suc_no j same) at it) all.1)
all-set-to P Q (p ∷ ps) (s ∷ ss) (suc i) place slot to all one = (
  to 0 p s (λ same. suc_no i (sym same)) refl refl all.0,
  all-set-to P Q ps ss i place slot (λ j x y ne at it. to (suc j) x y (λ same. ne (suc_same j i same)) at it) all.1 one,
)

-- the first place that passes is the first slot that does
module _ (p : Place → Bool) (q : Slot → Bool) where
  same-front : (places : List Place) (slots : List Slot) → AllPlaces (λ place slot. p place ≡ q slot) places slots
      → prefix_len (λ (x : Place). not (p x)) places ≡ prefix_len (λ (x : Slot). not (q x)) slots
  same-front =
      by-pairs (λ place slot. p place ≡ q slot) (λ ps ss. prefix_len (λ (x : Place). not (p x)) ps ≡ prefix_len (λ (x : Slot). not (q x)) ss) refl
      (λ place slot ps ss here all later. grind (arith, common_steps))

  pub same-position : (places : List Place) (slots : List Slot) → AllPlaces (λ place slot. p place ≡ q slot) places slots
      → position p places ≡ position q slots
  same-position places slots all = grind (arith, common_steps, same-front, all-length)
