-- The calls that a past is told.
use Rattle.std.specs.Prelude.{ℕ, List, length, take, drop}
use Rattle.disk_model.specs.Open.{inside_of}
use Rattle.disk_model.specs.Surface.{Surface, surface_after}
use Rattle.disk_model.specs.declared.disk_call.DiskCall.{DiskCall}
use Rattle.disk_model.specs.declared.disk_call.DiskCall.TheVariants as call
use Rattle.disk_model.specs.declared.past.Told.{Told}
use Rattle.disk_model.specs.declared.past.Told.TheVariants as told

-- a power cut that left these octets, by those in the open ranges and those behind what was synced
abbrev pub cut_by : Surface → List ℕ → DiskCall
cut_by surface left =
    call.PowerCut (inside_of surface.writes (take (length surface.synced) left)) (drop (length surface.synced) left)

-- the call that is told of a disk with these octets at first, after these calls
abbrev pub told_of : List ℕ → List DiskCall → Told → DiskCall
told_of first calls (told.Write at bytes) = call.Write at bytes.now
told_of first calls (told.TornWrite at count) = call.TornWrite at count
told_of first calls told.Sync = call.Sync
told_of first calls told.FailedSync = call.FailedSync
told_of first calls (told.PowerCut left) = cut_by (surface_after first calls) left.now
