-- What a number picks of a crash.
use Rattle.std.specs.Prelude.{◌≡◌, ◌⊎◌, ◌/◌, ◌%◌, ◌<◌, ◌≤◌, ℕ, List, Option, Some, length, slice_index}
use Rattle.disk_model.specs.Surface.{IsImage, IsInRange, IsOpen, Surface}

-- Each octet that may be any octet is this one, and there are as many octets as there may be.
pub record IsFilled (surface : Surface) (octet : ℕ) (image : List ℕ) : Type 0 where
  pub size : length image ≡ surface.most
  pub each :
      (place : ℕ)
      → place < length image
      → (length surface.synced ≤ place) ⊎ IsOpen surface.writes place
      → slice_index image place ≡ octet

-- The octets in the range are other ones, each this one, if there is one; those outside stay.
pub record Tears (at count : ℕ) (octet : Option ℕ) (old new : List ℕ) : Type 0 where
  pub size : length new ≡ length old
  pub outside : (place : ℕ) → (IsInRange at count place → ⊥) → slice_index new place ≡ slice_index old place
  pub filled :
      (wanted place : ℕ)
      → octet ≡ Some wanted
      → IsInRange at count place
      → place < length old
      → slice_index new place ≡ wanted

-- What a crash leaves, by the remainder by 4: what was synced, what a read gives, one octet all over, or any image.
pub record IsCrash (surface : Surface) (pick : ℕ) (image : List ℕ) : Type 0 where
  pub left : IsImage surface image
  pub synced : pick % 4 ≡ 0 → image ≡ surface.synced
  pub written : pick % 4 ≡ 1 → image ≡ surface.content
  pub filled : pick % 4 ≡ 2 → IsFilled surface (pick / 4 % 256) image
