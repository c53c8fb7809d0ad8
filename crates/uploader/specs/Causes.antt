-- What disk and air count by how a command ends.
use Rattle.std.specs.Prelude.{◌≡◌, ℕ, Bool, true, false, IfErr, IsErrOf, Result}
use Rattle.px_base.specs.Outside.{Rose}
use Rattle.disk_model.specs.Runs.{Runs}
use Rattle.turn_loop.specs.Lent.{Lent, Seen}
use Rattle.uploader.specs.declared.stop.SendStop.{SendStop}
use Rattle.uploader.specs.declared.stop.SendStop.TheVariants as stop

-- whether a command stops so only before anything became of its job, and not by the air
abbrev pub is_before_outcome : SendStop → Bool
is_before_outcome stop.Disk = true
is_before_outcome stop.NoSuch = true
is_before_outcome (stop.Changed kept given) = true
is_before_outcome (stop.NotAStore found) = true
is_before_outcome (stop.Damaged at) = true
is_before_outcome stop.OutOfMemory = true
is_before_outcome stop.Spent = true
is_before_outcome stop.NotesFull = true
is_before_outcome stop.TooLong = true
is_before_outcome why = false

-- Where hearing or saying stopped the command the air's count of such faults rose. Where it stopped otherwise before
-- anything became of its job neither count did; once something had, one may have.
pub record HasAirCause {T : Type 0} (reads reads_now writes writes_now : ℕ) (result : Result T SendStop) : Type 0 where
  pub read : IsErrOf result stop.AirRead → Rose reads reads_now
  pub write : IsErrOf result stop.AirWrite → Rose writes writes_now
  pub same : IfErr result (λ why. is_before_outcome why ≡ true → (reads_now ≡ reads) × (writes_now ≡ writes))

-- Each cause of a command's end rose in a count: of a fault of the disk, and of hearing or saying.
pub record HasCauses {A C D T : Type 0} (see : Seen D A C) (old new : Lent D A C) (result : Result T SendStop)
    : Type 0 where
  pub runs : Runs see.disk (IsErrOf result stop.Disk) old.disk new.disk
  pub of_air :
      HasAirCause (see.air.read_faults old.air) (see.air.read_faults new.air) (see.air.write_faults old.air)
      (see.air.write_faults new.air) result
