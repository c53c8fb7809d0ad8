-- What the calls of a disk do to its content, and what a crash may leave.
use Rattle.std.specs.Prelude.{◌≡◌, ℕ, ◌+◌, ◌^◌, ◌≤◌, max, List, length, take, drop, Option, Some, IfSome, IsSome}
use Rattle.px_base.specs.Octets.{IsOctets}

-- the content is told
abbrev pub IsTold : Option (List ℕ) → Type 0
IsTold content = IsSome content

-- a crash leaves this and nothing else
abbrev pub Only : (List ℕ → Type 0) → List ℕ → Type 0
Only images content = (image : List ℕ) → images image → image ≡ content

-- quiet: where the content is told, a crash leaves it and nothing else
abbrev pub IsQuiet : Option (List ℕ) → (List ℕ → Type 0) → Type 0
IsQuiet content images = IfSome content (Only images)

-- where the content before is told, the content now is told, and stands in this relation to it
abbrev pub HasContent : Option (List ℕ) → Option (List ℕ) → (List ℕ → List ℕ → Type 0) → Type 0
HasContent before now step = IfSome before (λ old. (new : List ℕ) × (now ≡ Some new) × step old new)

-- the room holds the octets from this place on
abbrev pub FillsRoom : List ℕ → ℕ → ℕ → List ℕ → Type 0
FillsRoom octets at count room = room ≡ take count (drop at octets)

-- The octets stand at this place, and all others before the old end are as they were; the length grows where the octets
-- end past the old end, and a gap before them holds any octets.
pub record Writes (at : ℕ) (octets : List ℕ) (old new : List ℕ) : Type 0 where
  pub before : take at (take (length old) new) ≡ take at old
  pub there : take (length octets) (drop at new) ≡ octets
  pub after : drop (at + length octets) new ≡ drop (at + length octets) old
  pub size : length new ≡ max (length old) (at + length octets)

-- What a crash may leave of a write of so many octets at this place: any octets in the range and past the old end, the
-- same elsewhere, and a length between the old one and that of the whole write.
pub record Torn (at count : ℕ) (old new : List ℕ) : Type 0 where
  pub before : take at (take (length old) new) ≡ take at old
  pub after : drop (at + count) (take (length old) new) ≡ drop (at + count) old
  pub no_shorter : length old ≤ length new
  pub no_longer : length new ≤ max (length old) (at + count)

-- each image now is an image before after a step
abbrev pub Follows : (List ℕ → List ℕ → Type 0) → (List ℕ → Type 0) → (List ℕ → Type 0) → Type 0
Follows step before now = (image : List ℕ) → now image → (old : List ℕ) × before old × step old image

-- each of these images is one of those
abbrev pub AreAmong : (List ℕ → Type 0) → (List ℕ → Type 0) → Type 0
AreAmong these those = (image : List ℕ) → these image → those image

-- Unless the disk was down before, or the range ends past 2 ^ 63: each list that is torn so from an image before is an
-- image now.
abbrev pub LeavesOpen : {D : Type 0} → (D → Type 0) → (D → List ℕ → Type 0) → ℕ → ℕ → D → D → Type 0
LeavesOpen is_down images at count old new =
    (is_down old → ⊥)
    → at + count ≤ 2 ^ 63
    → (before now : List ℕ)
    → images old before
    → IsOctets now
    → Torn at count before now
    → images new now
