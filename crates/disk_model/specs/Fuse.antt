-- A disk that stops after so many calls, as contracts see it, and what each of its calls does.
use Rattle.std.specs.Prelude.{◌≡◌, ◌⊎◌, ℕ, ◌+◌, ◌^◌, ◌<◌, ◌≤◌, List, [], length, Option, Some, None, Bool, true}
use Rattle.std.specs.Prelude.{Result, IsErr}
use Rattle.px_base.specs.Outside.{Rose, counted}
use Rattle.disk_model.specs.Calls.{DiskState, IsFailingSync, IsReading, IsSyncing, IsTearing, IsWriting, content_of}
use Rattle.disk_model.specs.Calls.{images_of, images_since_of, moment_of, surface, with_starved}
use Rattle.disk_model.specs.Cuts.{Arming, CutState, Failed, LastsSo, Passes, Unarmed}
use Rattle.disk_model.specs.Memory.{state}
use Rattle.disk_model.specs.Surface.{Surface}
use Rattle.disk_model.specs.declared.disk.Disk.{Ghosts}
use Rattle.disk_model.specs.declared.fuse_disk.FuseDisk.{FuseDisk}
use Rattle.disk_model.specs.declared.fuse_disk.FuseStage.{FuseStage}
use Rattle.disk_model.specs.declared.fuse_disk.FuseStage.TheVariants as stage

-- The disk, what the fuse does at the next call, and the counts of the calls that failed by it.
pub record FuseState : Type 0 where
  pub disk : DiskState
  pub stage : FuseStage
  pub read_faults : ℕ
  pub write_faults : ℕ

abbrev pub fuse : FuseDisk → FuseState
fuse disk =
    record {
      disk = state disk.disk;
      stage = disk.stage;
      read_faults = disk.read_faults;
      write_faults = disk.write_faults;
    }

-- before the first call
abbrev pub new_fuse : DiskState → ℕ → FuseState
new_fuse disk calls = record { disk = disk; stage = stage.Passes calls; read_faults = 0; write_faults = 0 }

-- where no memory was found
abbrev pub starved_fuse : FuseState → FuseState
starved_fuse state = record state { disk = with_starved state.disk }

-- it as a disk: what it tells, how often its calls failed, by the disk or by the fuse, and when it is down
abbrev pub content : FuseDisk → Option (List ℕ)
content disk = Some (content_of (fuse disk).disk)

abbrev pub images : FuseDisk → List ℕ → Type 0
images disk = images_of (fuse disk).disk

abbrev pub moment : FuseDisk → ℕ
moment disk = moment_of (fuse disk).disk

abbrev pub images_since : FuseDisk → ℕ → List ℕ → Type 0
images_since disk = images_since_of (fuse disk).disk

abbrev pub read_faults : FuseDisk → ℕ
read_faults disk = (fuse disk).disk.read_faults + (fuse disk).read_faults

abbrev pub write_faults : FuseDisk → ℕ
write_faults disk = (fuse disk).disk.write_faults + (fuse disk).write_faults

abbrev pub is_down : FuseDisk → Type 0
is_down disk = ((fuse disk).stage ≡ stage.Down) ⊎ ((fuse disk).disk.down ≡ true)

-- what stands on it
abbrev pub standing : FuseDisk → Surface
standing disk = surface (fuse disk).disk

-- how it is armed
abbrev pub arming_in : FuseStage → Arming
arming_in stage.Unarmed = Unarmed
arming_in (stage.Passes left) = Passes left
arming_in stage.Blown = Failed
arming_in stage.Down = Failed

abbrev pub arming : FuseDisk → Arming
arming disk = arming_in (fuse disk).stage

-- It doesn't tell what the power cuts left.
abbrev pub restarts : FuseDisk → Option (List (List ℕ))
restarts disk = None

abbrev pub plain : FuseDisk → Type 0
plain disk = (fuse disk).disk.counter.failing ≡ []

abbrev pub is_starved : FuseDisk → Bool
is_starved disk = (fuse disk).disk.counter.starved

-- it as a disk that can be armed
abbrev pub cut_of : FuseState → CutState
cut_of state =
    record {
      use_of = record {
        moment = moment_of state.disk;
        read_faults = state.disk.read_faults + state.read_faults;
        write_faults = state.disk.write_faults + state.write_faults;
        arming = arming_in state.stage;
      };
      restarts = None;
      plain = state.disk.counter.failing ≡ [];
      starved = state.disk.counter.starved;
    }

-- what lasts through its calls
abbrev pub lasts : FuseDisk → FuseDisk → Type 0
lasts old new = LastsSo (cut_of (fuse old)) (cut_of (fuse new))

-- these, as of any disk
abbrev pub ghosts : Ghosts FuseDisk
ghosts =
    record {
      content = content;
      images = images;
      moment = moment;
      images_since = images_since;
      read_faults = read_faults;
      write_faults = write_faults;
      is_down = is_down;
      lasts = lasts;
    }

-- the count of failed writes and syncs never falls, and rose unless it stands at its last number
pub record CountsFailure (old new : FuseDisk) : Type 0 where
  pub no_less : write_faults old ≤ write_faults new
  pub rose : Rose (write_faults old) (write_faults new)

-- The fuse has failed a call.
abbrev pub HasBlown : FuseStage → Type 0
HasBlown stage.Unarmed = ⊥
HasBlown (stage.Passes left) = ⊥
HasBlown stage.Blown = Unit {0}
HasBlown stage.Down = Unit {0}

-- The fuse fails the next call of `write_at`, and that leaves its range open.
abbrev pub IsTornNext : FuseStage → Type 0
IsTornNext stage.Unarmed = ⊥
IsTornNext (stage.Passes left) = left ≡ 0
IsTornNext stage.Blown = Unit {0}
IsTornNext stage.Down = ⊥

-- after a call of `len` or `read` that the fuse failed
abbrev pub fuse_after_failed_reading : FuseState → FuseState
fuse_after_failed_reading before = record before { read_faults = counted before.read_faults }

-- after a call of `write_at` or `sync` that the fuse failed, which is at this stage then
abbrev pub fuse_after_failed : FuseState → FuseStage → FuseState
fuse_after_failed before stage_is = record before { stage = stage_is; write_faults = counted before.write_faults }

-- A call of `len` or `read` is one of the disk until the fuse has failed a call, and fails from then on.
pub record IsFuseReading {T E : Type 0} (before now : FuseState) (result : Result T E) : Type 0 where
  pub whole :
      (HasBlown before.stage → ⊥) → IsReading before.disk now.disk result × (now ≡ record before { disk = now.disk })
  pub blown : HasBlown before.stage → IsErr result × (now ≡ fuse_after_failed_reading before)

-- The fuse fails a write: its range is open, and the disk is down; but one that would end past 2 ^ 63 finds no memory,
-- and changes nothing.
pub record IsCutShort (before now : FuseState) (at count : ℕ) : Type 0 where
  pub within :
      at + count ≤ 2 ^ 63
      → IsTearing before.disk now.disk at count
      × (now ≡ fuse_after_failed (record before { disk = now.disk }) stage.Down)
  pub far : 2 ^ 63 < at + count → now ≡ fuse_after_failed (starved_fuse before) stage.Blown

-- A call of `write_at` is one of the disk while the fuse isn't armed, or calls are left. Each after them fails; the
-- first of these is cut short, and those after it change nothing.
pub record IsFuseWriting {T E : Type 0} (before now : FuseState) (at : ℕ) (octets : List ℕ) (result : Result T E)
    : Type 0 where
  pub passes :
      (left : ℕ)
      → before.stage ≡ stage.Passes (left + 1)
      → IsWriting before.disk now.disk at octets result
      × (now ≡ record before { disk = now.disk; stage = stage.Passes left })
  pub unarmed :
      before.stage ≡ stage.Unarmed
      → IsWriting before.disk now.disk at octets result × (now ≡ record before { disk = now.disk })
  pub cut_short : IsTornNext before.stage → IsErr result × IsCutShort before now at (length octets)
  pub down : before.stage ≡ stage.Down → IsErr result × (now ≡ fuse_after_failed before stage.Down)

-- A call of `sync` is one of the disk while the fuse isn't armed, or calls are left; each after them fails.
pub record IsFuseSyncing {T E : Type 0} (before now : FuseState) (result : Result T E) : Type 0 where
  pub passes :
      (left : ℕ)
      → before.stage ≡ stage.Passes (left + 1)
      → IsSyncing before.disk now.disk result × (now ≡ record before { disk = now.disk; stage = stage.Passes left })
  pub unarmed :
      before.stage ≡ stage.Unarmed
      → IsSyncing before.disk now.disk result × (now ≡ record before { disk = now.disk })
  pub blown :
      IsTornNext before.stage
      → IsErr result
      × IsFailingSync before.disk now.disk
      × (now ≡ fuse_after_failed (record before { disk = now.disk }) stage.Blown)
  pub down : before.stage ≡ stage.Down → IsErr result × (now ≡ fuse_after_failed before stage.Down)
