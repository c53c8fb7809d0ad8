-- What calls leave open, and the octets that stand there.
use Rattle.std.specs.Prelude.{◌≡◌, ℕ, ◌≤◌, ◌^◌, List, [], ◌∷◌, ◌++◌, take, drop}
use Rattle.disk_model.specs.Surface.{AllLeaveOpen, IsImage, Surface, surface_after}
use Rattle.disk_model.specs.declared.disk_call.DiskCall.{DiskCall}

-- the octets in these ranges, range by range, those of the latest range last
abbrev pub inside_of : List (ℕ × ℕ) → List ℕ → List ℕ
inside_of [] octets = []
inside_of (write ∷ earlier) octets = inside_of earlier octets ++ take write.1 (drop write.0 octets)

-- None of the calls closed anything, and they end within the most octets of a disk.
pub record LeaveOpen (synced : List ℕ) (calls : List DiskCall) : Type 0 where
  pub open_calls : AllLeaveOpen calls
  pub most : (surface_after synced calls).most ≤ 2 ^ 63

-- what stands on a disk where these octets were synced, these writes came since then, and a read gives the present ones
abbrev pub standing : List ℕ → List DiskCall → List ℕ → Surface
standing synced calls present = record (surface_after synced calls) { content = present }

-- These octets were synced before the calls, none of which closed anything; and a read gives the present ones.
pub record StandsSince (synced : List ℕ) (calls : List DiskCall) (present : List ℕ) : Type 0 where
  pub open_calls : AllLeaveOpen calls
  pub most : (surface_after synced calls).most ≤ 2 ^ 63
  pub image : IsImage (surface_after synced calls) present

-- The calls leave what these octets, where nothing is open, and these writes leave, but for what a read gives.
pub record IsClosed (first : List ℕ) (calls : List DiskCall) (synced : List ℕ) (since : List DiskCall) : Type 0 where
  pub stands : standing synced since (surface_after first calls).content ≡ surface_after first calls
  pub open_calls : AllLeaveOpen since
