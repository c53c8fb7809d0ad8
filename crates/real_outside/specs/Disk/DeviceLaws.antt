-- What short reads and writes add up to on a device that does what it answers.
use Rattle.std.specs.Prelude.{◌≡◌, ℕ, ◌<◌, List, length, take, drop, Bool, true, fold, Ok, Err, ⊤}
use Rattle.std.specs.List.{AllByRecursion}
use Rattle.disk_model.specs.Disk.{Torn}
use Rattle.real_outside.specs.Disk.Devices.{ReadsAll, WritesAll, all_given}
use Rattle.disk_model.specs.Surface.{write_over}
use Rattle.real_outside.specs.declared.disk.device.DeviceCall.{DeviceCall}
use Rattle.real_outside.specs.declared.disk.device.DeviceCall.TheVariants as call

-- the octets after a call: as many as a write wrote, over what was there
abbrev pub octets_after_call : List ℕ → DeviceCall → List ℕ
octets_after_call octets (call.Len answer) = octets
octets_after_call octets (call.Read at count answer) = octets
octets_after_call octets (call.Write at written (Ok count)) = write_over octets at (take count written)
octets_after_call octets (call.Write at written (Err down)) = octets
octets_after_call octets (call.Sync answer) = octets

-- the octets after these calls
abbrev pub octets_after : List ℕ → List DeviceCall → List ℕ
octets_after octets calls = fold octets_after_call octets calls

-- what a read gave is there
abbrev pub IsTrueRead : List ℕ → DeviceCall → Type 0
IsTrueRead octets (call.Len answer) = ⊤
IsTrueRead octets (call.Read at count (Ok given)) = given ≡ take (length given) (drop at octets)
IsTrueRead octets (call.Read at count (Err down)) = ⊤
IsTrueRead octets (call.Write at written answer) = ⊤
IsTrueRead octets (call.Sync answer) = ⊤

-- Writes that are done, however short, leave what one write of all these octets leaves.
abbrev pub IsOneWrite : Type 0
IsOneWrite =
    (octets written : List ℕ) (at : ℕ) (calls : List DeviceCall)
    → 0 < length written
    → WritesAll at written calls true
    → octets_after octets calls ≡ write_over octets at written

-- Writes that aren't done leave no more than a crash may leave of one write of all these octets.
abbrev pub IsTornWrite : Type 0
IsTornWrite =
    (octets written : List ℕ) (at : ℕ) (calls : List DeviceCall) (done : Bool)
    → WritesAll at written calls done
    → Torn at (length written) octets (octets_after octets calls)

-- Reads that are done, however short, give the octets that are there.
abbrev pub IsOneRead : Type 0
IsOneRead =
    (octets : List ℕ) (at count : ℕ) (calls : List DeviceCall)
    → AllByRecursion (IsTrueRead octets) calls
    → ReadsAll at count calls true
    → all_given calls ≡ take count (drop at octets)
