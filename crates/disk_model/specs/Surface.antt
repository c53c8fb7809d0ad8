-- What stands on a disk, and what a crash may leave of it.
use Rattle.std.specs.Prelude.{◌≡◌, ◌⊎◌, ℕ, ◌+◌, ◌-◌, ◌<◌, ◌≤◌, max, min, List, [], ◌∷◌, ◌++◌, length, take, drop, All}
use Rattle.std.specs.Prelude.{replicate, fold, sum_by, slice_index, Bool, if◌then◌else◌}
use Rattle.px_base.specs.Octets.{IsOctets}
use Rattle.disk_model.specs.declared.disk_call.DiskCall.{DiskCall}
use Rattle.disk_model.specs.declared.disk_call.DiskCall.TheVariants as call

-- What stands on a disk: the octets that the last sync left; the ranges written since then, the latest first, also of
-- writes that failed, each by its place and its length; the greatest length since then; and the octets that a read
-- gives.
pub record Surface : Type 0 where
  pub synced : List ℕ
  pub writes : List (ℕ × ℕ)
  pub most : ℕ
  pub content : List ℕ

-- the place is one of so many from this one on
abbrev pub IsInRange : ℕ → ℕ → ℕ → Type 0
IsInRange at count place = (at ≤ place) × (place < at + count)

-- The place lies in one of the ranges.
abbrev pub IsOpen : List (ℕ × ℕ) → ℕ → Type 0
IsOpen [] place = ⊥
IsOpen (write ∷ earlier) place = IsInRange write.0 write.1 place ⊎ IsOpen earlier place

-- What a crash may leave: octets, each as it was synced where no write has its place, and any octets else; as many as
-- were synced, or as many as there have been since, or any number between.
pub record IsImage (surface : Surface) (image : List ℕ) : Type 0 where
  pub octets : IsOctets image
  pub no_shorter : length surface.synced ≤ length image
  pub no_longer : length image ≤ surface.most
  pub kept :
      (place : ℕ)
      → place < length surface.synced
      → (IsOpen surface.writes place → ⊥)
      → slice_index image place ≡ slice_index surface.synced place

-- after a sync, no write is open
abbrev pub quiet_surface : List ℕ → Surface
quiet_surface octets = record { synced = octets; writes = []; most = length octets; content = octets }

-- no write is open, and what was synced is what a read gives
abbrev pub IsQuietSurface : Surface → Type 0
IsQuietSurface surface = surface ≡ quiet_surface surface.content

-- one range more is open
abbrev pub with_range : Surface → ℕ → ℕ → Surface
with_range surface at count =
    record surface { writes = (at, count) ∷ surface.writes; most = max surface.most (at + count) }

-- the octets at this place, over what is there; a gap before them is zeros
abbrev pub write_over : List ℕ → ℕ → List ℕ → List ℕ
write_over old at octets = take at old ++ replicate (at - length old) 0 ++ octets ++ drop (at + length octets) old

-- the octets at this place, over what is there, up to the end of that
abbrev pub overlay : List ℕ → ℕ → List ℕ → List ℕ
overlay old at octets = take (length old) (write_over old at octets)

-- The octets with others in these ranges, as far as they are before their end; the others come range by range, those of
-- the latest range last.
abbrev pub with_ranges : List (ℕ × ℕ) → List ℕ → List ℕ → List ℕ
with_ranges [] octets old = old
with_ranges (write ∷ earlier) octets old =
    let before = length octets - min write.1 (length old - write.0) in
    overlay (with_ranges earlier (take before octets) old) write.0 (drop before octets)

-- what is left where these octets stand in the open ranges, and those behind what was synced
abbrev pub left_by : Surface → List ℕ → List ℕ → List ℕ
left_by surface inside behind = with_ranges surface.writes inside surface.synced ++ behind

-- after one call; a write that failed changes no octet that a read gives, and a sync that failed changes nothing; what
-- a power cut leaves is synced
abbrev pub surface_after_call : Surface → DiskCall → Surface
surface_after_call surface (call.Write at octets) =
    record (with_range surface at (length octets)) { content = write_over surface.content at octets }
surface_after_call surface (call.TornWrite at count) = with_range surface at count
surface_after_call surface call.Sync = quiet_surface surface.content
surface_after_call surface call.FailedSync = surface
surface_after_call surface (call.PowerCut inside behind) = quiet_surface (left_by surface inside behind)

-- after these calls of a quiet disk with these octets
abbrev pub surface_after : List ℕ → List DiskCall → Surface
surface_after first calls = fold surface_after_call (quiet_surface first) calls

-- the place at which a call was to write, and how many octets
abbrev pub place_of : DiskCall → ℕ
place_of (call.Write at octets) = at
place_of (call.TornWrite at count) = at
place_of call.Sync = 0
place_of call.FailedSync = 0
place_of (call.PowerCut inside behind) = 0

abbrev pub count_of : DiskCall → ℕ
count_of (call.Write at octets) = length octets
count_of (call.TornWrite at count) = count
count_of call.Sync = 0
count_of call.FailedSync = 0
count_of (call.PowerCut inside behind) = 0

-- a write that passed or failed
abbrev pub write_of : Bool → ℕ → List ℕ → DiskCall
write_of fails at octets = if fails then call.TornWrite at (length octets) else call.Write at octets

-- a sync that passed or failed
abbrev pub sync_of : Bool → DiskCall
sync_of fails = if fails then call.FailedSync else call.Sync

-- Each written octet is synced by it, or given up.
abbrev pub Closes : DiskCall → Type 0
Closes (call.Write at octets) = ⊥
Closes (call.TornWrite at count) = ⊥
Closes call.Sync = Unit {0}
Closes call.FailedSync = ⊥
Closes (call.PowerCut inside behind) = Unit {0}

-- no sync passed, and no power was cut
abbrev pub AllLeaveOpen : List DiskCall → Type 0
AllLeaveOpen calls = All (λ done. Closes done → ⊥) calls

-- how many calls of `write_at` and `sync` it is: a power cut is none
abbrev pub moments_of : DiskCall → ℕ
moments_of (call.Write at octets) = 1
moments_of (call.TornWrite at count) = 1
moments_of call.Sync = 1
moments_of call.FailedSync = 1
moments_of (call.PowerCut inside behind) = 0

abbrev pub moments_in : List DiskCall → ℕ
moments_in calls = sum_by moments_of calls

-- what a crash might have left from the moment t on, after one of these calls or a power cut
abbrev pub ImagesSince : List ℕ → List DiskCall → ℕ → List ℕ → Type 0
ImagesSince first calls t image =
    (k : ℕ) × (t ≤ moments_in (take k calls)) × (k ≤ length calls) × IsImage (surface_after first (take k calls)) image
