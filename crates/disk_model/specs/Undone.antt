-- The octets before writes that were kept.
use Rattle.std.specs.Prelude.{◌≡◌, ℕ, ◌+◌, ◌-◌, ◌^◌, ◌≤◌, List, [], ◌∷◌, ◌++◌, length, map, reverse, take, drop}
use Rattle.disk_model.specs.Open.{IsClosed, StandsSince, standing}
use Rattle.disk_model.specs.Surface.{Surface, overlay, write_over}
use Rattle.disk_model.specs.declared.disk_call.DiskCall.{DiskCall}
use Rattle.disk_model.specs.declared.disk_call.DiskCall.TheVariants as call
use Rattle.disk_model.specs.declared.open_write.OpenWrite.{OpenWrite}

-- A write leaves its range open, whether it passed or failed, as one that failed does.
abbrev pub call_of : OpenWrite → DiskCall
call_of write = call.TornWrite write.at write.count

abbrev pub calls_of : List OpenWrite → List DiskCall
calls_of writes = map call_of writes

-- the octets before these writes, the latest first; those that they found are kept, those of the latest last
abbrev pub undone : List OpenWrite → List ℕ → List ℕ → List ℕ
undone [] kept octets = octets
undone (write ∷ earlier) kept octets =
    let before = length kept - write.found in
    undone earlier (take before kept) (overlay octets write.at (drop before kept))

-- the same of writes in their order
abbrev pub before_writes : List OpenWrite → List ℕ → List ℕ → List ℕ
before_writes writes kept octets = undone (reverse writes) kept octets

-- So many octets were synced before these writes: these.
abbrev pub synced_before : ℕ → List OpenWrite → List ℕ → List ℕ → List ℕ
synced_before count writes kept octets = take count (before_writes writes kept octets)

-- the octets that a write finds in its range
abbrev pub found_by : List ℕ → ℕ → List ℕ → List ℕ
found_by old at octets = take (length octets) (drop at old)

-- The octets are written over what is there, and what they found is kept behind the rest.
pub record WritesKeeping (at : ℕ) (octets old new kept kept_now : List ℕ) : Type 0 where
  pub ends : at + length octets ≤ 2 ^ 63
  pub written : new ≡ write_over old at octets
  pub found : kept_now ≡ kept ++ found_by old at octets

-- what stands on a disk where so many octets were synced before these writes, and a read gives these octets
abbrev pub standing_open : ℕ → List OpenWrite → List ℕ → List ℕ → Surface
standing_open count writes kept octets = standing (synced_before count writes kept octets) (calls_of writes) octets

-- So many octets were synced before these writes, and these octets stand since then.
pub record StandsOpen (count : ℕ) (writes : List OpenWrite) (kept octets : List ℕ) : Type 0 where
  pub within : count ≤ length octets
  pub since : StandsSince (synced_before count writes kept octets) (calls_of writes) octets

-- The octets before these writes were synced, and are so many; and the calls leave what these and the writes leave, but
-- for what a read gives.
abbrev pub Undoes : List ℕ → List DiskCall → ℕ → List OpenWrite → List ℕ → List ℕ → Type 0
Undoes first calls count writes kept octets =
    (synced : List ℕ)
    → synced ≡ synced_before count writes kept octets
    → (length synced ≡ count) × IsClosed first calls synced (calls_of writes)
