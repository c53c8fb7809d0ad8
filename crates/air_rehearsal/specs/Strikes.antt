-- What a cut of power does, once an event has come to an end or was stopped.
use Rattle.std.specs.Prelude.{◌≡◌, false}
use Rattle.disk_model.specs.Cuts.{Cuts, KeepsPast, LosesPower}
use Rattle.disk_model.specs.declared.disk.Disk.{Ghosts}

-- Power is lost, and the disk's memory was found: in the event, and at the cut.
pub record Strikes {B : Type 0} (g : Ghosts B) (cuts : Cuts B) (lost left : B) : Type 0 where
  pub memory_before : cuts.is_starved lost ≡ false
  pub loses : LosesPower g cuts lost left
  pub keeps : KeepsPast g cuts lost left
  pub memory : cuts.is_starved left ≡ false
