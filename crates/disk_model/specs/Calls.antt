-- A disk in memory as contracts see it, and what each of its calls does.
use Rattle.std.specs.Prelude.{◌≡◌, ◌⊎◌, ℕ, ◌+◌, ◌^◌, ◌<◌, ◌≤◌, List, [], ◌∷◌, ◌++◌, length, Bool, false, true, Result}
use Rattle.std.specs.Prelude.{OnOk, OnErr}
use Rattle.px_base.specs.Counter.{CallCounterState, IsListed, counter_after_call, new_counter}
use Rattle.px_base.specs.Outside.{counted}
use Rattle.disk_model.specs.Crash.{IsCrash}
use Rattle.disk_model.specs.Surface.{ImagesSince, IsImage, Surface, left_by, moments_in, surface_after}
use Rattle.disk_model.specs.declared.disk_call.DiskCall.{DiskCall}
use Rattle.disk_model.specs.declared.disk_call.DiskCall.TheVariants as call

-- The octets that the disk had at first; its calls of `write_at` and `sync` since then, but for those that changed
-- nothing for want of memory, and the power cuts among them; whether it is down, after a write that found no memory;
-- how all its calls were numbered; and the counts of faults.
pub record DiskState : Type 0 where
  pub first : List ℕ
  pub calls : List DiskCall
  pub down : Bool
  pub counter : CallCounterState
  pub read_faults : ℕ
  pub write_faults : ℕ

-- before the first call: quiet, with these octets, and these calls listed to fail
abbrev pub new_state : List ℕ → List ℕ → DiskState
new_state octets failing =
    record {
      first = octets;
      calls = [];
      down = false;
      counter = new_counter failing;
      read_faults = 0;
      write_faults = 0;
    }

-- what stands on the disk
abbrev pub surface : DiskState → Surface
surface state = surface_after state.first state.calls

-- the octets that a read gives
abbrev pub content_of : DiskState → List ℕ
content_of state = (surface state).content

-- what a crash may leave now
abbrev pub images_of : DiskState → List ℕ → Type 0
images_of state = IsImage (surface state)

-- how many calls of `write_at` and `sync` were made, but for those that changed nothing for want of memory
abbrev pub moment_of : DiskState → ℕ
moment_of state = moments_in state.calls

-- what a crash from that moment on might have left
abbrev pub images_since_of : DiskState → ℕ → List ℕ → Type 0
images_since_of state = ImagesSince state.first state.calls

-- after a call of `len` or `read`
abbrev pub state_after_reading : DiskState → DiskState
state_after_reading state = record state { counter = counter_after_call state.counter }

-- after one that failed
abbrev pub state_after_failed_reading : DiskState → DiskState
state_after_failed_reading state =
    record state { counter = counter_after_call state.counter; read_faults = counted state.read_faults }

-- after this call of `write_at` or `sync`
abbrev pub state_after : DiskState → DiskCall → DiskState
state_after state done = record state { calls = state.calls ++ done ∷ []; counter = counter_after_call state.counter }

-- with one fault more of `write_at` and `sync`
abbrev pub with_write_fault : DiskState → DiskState
with_write_fault state = record state { write_faults = counted state.write_faults }

-- with one fault more, for want of memory
abbrev pub with_starved_fault : DiskState → DiskState
with_starved_fault state = record (with_write_fault state) { counter = record state.counter { starved = true } }

-- after this one, which failed
abbrev pub state_after_failed : DiskState → DiskCall → DiskState
state_after_failed state done = with_write_fault (state_after state done)

-- after one that changed nothing for want of memory
abbrev pub state_after_starved : DiskState → DiskState
state_after_starved state = with_starved_fault (record state { counter = counter_after_call state.counter })

-- with the range of one write more open, which failed
abbrev pub with_torn_write : DiskState → ℕ → ℕ → DiskState
with_torn_write state at count = record state { calls = state.calls ++ call.TornWrite at count ∷ [] }

-- after a write of so many octets that found no memory: its range is open, and the disk is down
abbrev pub state_after_lost : DiskState → ℕ → ℕ → DiskState
state_after_lost state at count = record (with_torn_write (state_after_starved state) at count) { down = true }

-- A write that isn't recorded whole for want of memory leaves its range open, and the disk is down; where the disk was
-- down before, or where the range would end past 2 ^ 63, nothing is changed.
pub record LosesWrite (calls calls_now : List DiskCall) (down down_now : Bool) (at count : ℕ) : Type 0 where
  pub lost :
      down ≡ false → at + count ≤ 2 ^ 63 → (calls_now ≡ calls ++ call.TornWrite at count ∷ []) × (down_now ≡ true)
  pub down_before : down ≡ true → (calls_now ≡ calls) × (down_now ≡ true)
  pub far : 2 ^ 63 < at + count → (calls_now ≡ calls) × (down_now ≡ down)

-- The disk goes on: the octets at first stay, its calls are those before and then some further ones, or none, and no
-- count of faults falls.
pub record GoesOn (before now : DiskState) : Type 0 where
  pub first : now.first ≡ before.first
  pub further : List DiskCall
  pub calls : now.calls ≡ before.calls ++ further
  pub reads : before.read_faults ≤ now.read_faults
  pub writes : before.write_faults ≤ now.write_faults

-- A call of `len` or `read` fails exactly where it is listed.
pub record IsReading {T E : Type 0} (before now : DiskState) (result : Result T E) : Type 0 where
  pub ok : OnOk result ((IsListed before.counter → ⊥) × (now ≡ state_after_reading before))
  pub err : OnErr result (IsListed before.counter × (now ≡ state_after_failed_reading before))

-- the disk isn't down, and so many octets at this place end within the most octets of a disk
pub record IsWithin (state : DiskState) (at count : ℕ) : Type 0 where
  pub up : state.down ≡ false
  pub ends : at + count ≤ 2 ^ 63

-- The disk is down, or so many octets at this place would end past the most octets of a disk.
abbrev pub IsRefused : DiskState → ℕ → ℕ → Type 0
IsRefused state at count = (state.down ≡ true) ⊎ (2 ^ 63 < at + count)

-- A write of so many octets fails: it is listed; or it finds no memory; or the disk is down, or it would end too far.
abbrev pub FailsToWrite : DiskState → DiskState → ℕ → ℕ → Type 0
FailsToWrite before now at count =
    (IsListed before.counter × IsWithin before at count × (now ≡ state_after_failed before (call.TornWrite at count)))
    ⊎ ((IsWithin before at count × (now ≡ state_after_lost before at count))
    ⊎ (IsRefused before at count × (now ≡ state_after_starved before)))

-- A call of `write_at` is done; or fails where it is listed, or where it finds no memory, and its range is open; or it
-- fails and changes nothing, where the disk is down or it would end past 2 ^ 63.
pub record IsWriting {T E : Type 0} (before now : DiskState) (at : ℕ) (octets : List ℕ) (result : Result T E)
    : Type 0 where
  pub ok :
      OnOk result
      ((IsListed before.counter → ⊥)
      × IsWithin before at (length octets)
      × (now ≡ state_after before (call.Write at octets)))
  pub err : OnErr result (FailsToWrite before now at (length octets))

-- A call of `sync` is done, or fails where it is listed, or finds no memory. On a disk that is down it fails.
pub record IsSyncing {T E : Type 0} (before now : DiskState) (result : Result T E) : Type 0 where
  pub ok : OnOk result ((IsListed before.counter → ⊥) × (before.down ≡ false) × (now ≡ state_after before call.Sync))
  pub err :
      OnErr result
      ((IsListed before.counter × (before.down ≡ false) × (now ≡ state_after_failed before call.FailedSync))
      ⊎ (now ≡ state_after_starved before))

-- a disk that found no memory
abbrev pub with_starved : DiskState → DiskState
with_starved state = record state { counter = record state.counter { starved = true } }

-- A write that a fuse cuts short leaves its range open, and the disk is down where there is no memory for a further
-- call. Where the disk was down it finds no memory, and changes nothing.
pub record IsTearing (before now : DiskState) (at count : ℕ) : Type 0 where
  pub up :
      before.down ≡ false
      → (now ≡ with_torn_write before at count)
      ⊎ (now
      ≡ record (with_torn_write before at count) { down = true; counter = record before.counter { starved = true } })
  pub down : before.down ≡ true → now ≡ with_starved before

-- A sync that a fuse lets fail is a call that changes nothing; or the disk finds no memory, as one that is down.
abbrev pub IsFailingSync : DiskState → DiskState → Type 0
IsFailingSync before now =
    ((before.down ≡ false) × (now ≡ record before { calls = before.calls ++ call.FailedSync ∷ [] }))
    ⊎ (now ≡ with_starved before)

-- A power cut is recorded by what it left.
abbrev pub RecordsCut : List ℕ → List DiskCall → List DiskCall → ℕ → Type 0
RecordsCut first calls calls_now pick =
    (inside : List ℕ)
    × (behind : List ℕ)
    × (calls_now ≡ calls ++ call.PowerCut inside behind ∷ [])
    × IsCrash (surface_after first calls) pick (left_by (surface_after first calls) inside behind)

-- the disk found no memory, and may be down
abbrev pub Starves : DiskState → DiskState → Type 0
Starves before now = now ≡ record before { down = now.down; counter = record before.counter { starved = true } }

-- Power is lost: what this number picks is left, and recorded, and the disk is up; or the disk finds no memory.
abbrev pub IsPowerCut : DiskState → DiskState → ℕ → Type 0
IsPowerCut before now pick =
    (RecordsCut before.first before.calls now.calls pick × (now ≡ record before { calls = now.calls; down = false }))
    ⊎ Starves before now
