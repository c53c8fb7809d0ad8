-- A disk that tells what its power cuts left, as contracts see it.
use Rattle.std.specs.Prelude.{ℕ, List, Some}
use Rattle.disk_model.specs.Cuts.{CutState, LastsSo}
use Rattle.disk_model.specs.Fuse as fuse
use Rattle.disk_model.specs.Fuse.{FuseState}
use Rattle.disk_model.specs.declared.log_disk.LogDisk.{LogDisk}

-- the disk in it, and what the power cuts left, in order
pub record LogState : Type 0 where
  pub disk : FuseState
  pub restarts : List (List ℕ)

abbrev pub log : LogDisk → LogState
log disk = record { disk = fuse.fuse disk.disk; restarts = disk.restarts }

-- it as a disk that can be armed
abbrev pub cut_of : LogState → CutState
cut_of state = record (fuse.cut_of state.disk) { restarts = Some state.restarts }

-- what lasts through its calls
abbrev pub lasts : LogDisk → LogDisk → Type 0
lasts old new = LastsSo (cut_of (log old)) (cut_of (log new))
