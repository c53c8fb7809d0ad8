-- What a disk over a device asks of the device, and what it makes of short answers.
use Rattle.std.specs.Prelude.{◌≡◌, ◌⊎◌, ℕ, ◌+◌, ◌-◌, ◌^◌, ◌<◌, ◌≤◌, List, [], ◌∷◌, ◌++◌, length, take, drop, Bool, true, false, Option, IfOk, Result, Ok, Err, IsOk, IsErr, is_ok}
use Rattle.px_base.specs.Outside.{Grows}
use Rattle.px_base.specs.CallRecords.{Asks}
use Rattle.real_outside.specs.declared.disk.device.DeviceCall.{DeviceCall}
use Rattle.real_outside.specs.declared.disk.device.DeviceCall.TheVariants as call
use Rattle.real_outside.specs.declared.disk.device.DeviceDown.{DeviceDown}
use Rattle.disk_model.specs.declared.disk.DiskFault.{DiskFault}

-- A disk over a device: whether a write or a sync of it failed, after which each of its calls fails, and its counts of
-- faults.
pub record DeviceDiskState (V : Type 0) : Type 0 where
  pub device : V
  pub broken : Bool
  pub read_faults : ℕ
  pub write_faults : ℕ

-- the octets that a call of a device gave: none, if it is no read or failed
abbrev pub octets_given : DeviceCall → List ℕ
octets_given (call.Len answer) = []
octets_given (call.Read at count (Ok octets)) = octets
octets_given (call.Read at count (Err down)) = []
octets_given (call.Write at octets answer) = []
octets_given (call.Sync answer) = []

-- the octets that these calls gave, in order
abbrev pub all_given : List DeviceCall → List ℕ
all_given [] = []
all_given (next ∷ later) = octets_given next ++ all_given later

-- how many octets a call read or wrote: none, if it failed
abbrev pub moved : DeviceCall → ℕ
moved (call.Len answer) = 0
moved (call.Read at count answer) = length (octets_given (call.Read at count answer))
moved (call.Write at octets (Ok count)) = count
moved (call.Write at octets (Err down)) = 0
moved (call.Sync answer) = 0

-- the call asks for this number of octets from this place on
abbrev pub IsReadOf : ℕ → ℕ → DeviceCall → Type 0
IsReadOf at count (call.Len answer) = ⊥
IsReadOf at count (call.Read place wanted answer) = (place ≡ at) × (wanted ≡ count)
IsReadOf at count (call.Write place octets answer) = ⊥
IsReadOf at count (call.Sync answer) = ⊥

-- the call is to write these octets at this place
abbrev pub IsWriteOf : ℕ → List ℕ → DeviceCall → Type 0
IsWriteOf at octets (call.Len answer) = ⊥
IsWriteOf at octets (call.Read place wanted answer) = ⊥
IsWriteOf at octets (call.Write place written answer) = (place ≡ at) × (written ≡ octets)
IsWriteOf at octets (call.Sync answer) = ⊥

-- this number of octets was moved by the call, at least one; or none, and that is a fault
abbrev pub Moves : Result ℕ DiskFault → DeviceCall → Type 0
Moves (Ok count) next = (0 < count) × (moved next ≡ count)
Moves (Err fault) next = moved next ≡ 0

-- how many octets a disk moved whose device answers so: none is a fault
abbrev pub IsMoved : Result ℕ DeviceDown → Result ℕ DiskFault → Type 0
IsMoved (Ok count) result = (count ≡ 0 → IsErr result) × (0 < count → result ≡ Ok count)
IsMoved (Err down) result = IsErr result

-- One call reached the device, which moved this number of octets, and has P.
abbrev pub MovesOnce :
    Option (List DeviceCall) → Option (List DeviceCall) → Result ℕ DiskFault → (DeviceCall → Type 0) → Type 0
MovesOnce before now result P = (next : DeviceCall) × Grows before now (next ∷ []) × Moves result next × P next

-- the call asks for this number of octets from this place on, and what it gave is the beginning of the room
abbrev pub IsReadInto : ℕ → List ℕ → Result ℕ DiskFault → DeviceCall → Type 0
IsReadInto at room result next =
    IsReadOf at (length room) next × IfOk result (λ count. octets_given next ≡ take count room)

-- Of `all` octets the first `before` were moved, and these calls move the others: each asks for what is left after
-- those moved before it. They are done if none is left; a call that moves none while some are left is the last one, and
-- they aren't done.
abbrev pub GoesOn : (ℕ → DeviceCall → Type 0) → ℕ → ℕ → List DeviceCall → Bool → Type 0
GoesOn IsNext all before [] done = (before ≡ all) × (done ≡ true)
GoesOn IsNext all before (next ∷ later) done =
    (before < all)
    × IsNext before next
    × (((moved next ≡ 0) × (later ≡ []) × (done ≡ false))
    ⊎ ((0 < moved next) × GoesOn IsNext all (before + moved next) later done))

-- These calls read this number of octets from this place on.
abbrev pub ReadsAll : ℕ → ℕ → List DeviceCall → Bool → Type 0
ReadsAll at count = GoesOn (λ before. IsReadOf (at + before) (count - before)) count 0

-- These calls write these octets at this place.
abbrev pub WritesAll : ℕ → List ℕ → List DeviceCall → Bool → Type 0
WritesAll at octets = GoesOn (λ before. IsWriteOf (at + before) (drop before octets)) (length octets) 0

-- What reaches the device by a call of the disk has P; but if the disk refuses the call, it fails, and nothing reaches
-- the device.
pub record AsksUnless {V T : Type 0} (told : V → Option (List DeviceCall)) (refused : Type 0) (before now : V)
    (result : Result T DiskFault) (P : List DeviceCall → Type 0) : Type 0 where
  pub asks : (refused → ⊥) → Asks (told before) (told now) P
  pub refuses : refused → IsErr result × (now ≡ before)

-- the same of a call that a broken disk alone refuses
abbrev pub AsksUnlessBroken :
    {V T : Type 0} → (V → Option (List DeviceCall)) → (before now : DeviceDiskState V) → Result T DiskFault
    → (List DeviceCall → Type 0) → Type 0
AsksUnlessBroken told before now result P = AsksUnless told (before.broken ≡ true) before.device now.device result P

-- The disk is broken, or this number of octets at this place would end past the most octets of a disk.
abbrev pub RefusesRange : Bool → ℕ → ℕ → Type 0
RefusesRange broken at count = (broken ≡ true) ⊎ (2 ^ 63 < at + count)

-- the length that a device answered, unless it is more than the most octets of a disk
abbrev pub IsLength : Result ℕ DeviceDown → Result ℕ DiskFault → Type 0
IsLength (Ok length) result = (length ≤ 2 ^ 63 → result ≡ Ok length) × (2 ^ 63 < length → IsErr result)
IsLength (Err down) result = IsErr result

-- The device was asked once for its length, and that is the answer.
abbrev pub AsksLength : Result ℕ DiskFault → List DeviceCall → Type 0
AsksLength result calls = (answer : Result ℕ DeviceDown) × (calls ≡ call.Len answer ∷ []) × IsLength answer result

-- The device was read until the room was full, which holds what it gave; or until a read gave none, and that is a
-- fault.
pub record FillsFrom {T : Type 0} (at : ℕ) (room : List ℕ) (result : Result T DiskFault) (calls : List DeviceCall)
    : Type 0 where
  pub reads : ReadsAll at (length room) calls (is_ok result)
  pub given : IsOk result → room ≡ all_given calls

-- All of the octets were written; or a write wrote none, which is a fault.
abbrev pub PutsAt : {T : Type 0} → ℕ → List ℕ → Result T DiskFault → List DeviceCall → Type 0
PutsAt at octets result calls = WritesAll at octets calls (is_ok result)

-- a sync is done exactly if the device answers so
abbrev pub IsSynced : {T : Type 0} → Result Unit DeviceDown → Result T DiskFault → Type 0
IsSynced (Ok done) result = IsOk result
IsSynced (Err down) result = IsErr result

-- The device was synced once, and that is the answer.
abbrev pub SyncsOnce : {T : Type 0} → Result T DiskFault → List DeviceCall → Type 0
SyncsOnce result calls = (answer : Result Unit DeviceDown) × (calls ≡ call.Sync answer ∷ []) × IsSynced answer result
