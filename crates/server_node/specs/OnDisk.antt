-- What a session or a server does to its disk, and what a recovery that is refused leaves on it.
use Rattle.std.specs.Prelude.{◌≡◌, ◌⊎◌, ℕ, ◌≤◌, List, IfSome}
use Rattle.px_base.specs.Outside.{Rose}
use Rattle.disk_model.specs.declared.disk.Disk.{Ghosts}
use Rattle.disk_model.specs.Runs.{Leaves, TellsAlike}
use Rattle.file_store.specs.Journal.{HasGoodHeader, journal_of}
use Rattle.file_store.specs.JournalRecovery.{IsFailedSync, IsSyncedFirst}
use Rattle.file_store.specs.Recovery.{StandsAlike}
use Rattle.file_store.specs.State.{store_layout, store_magic}
use Rattle.file_store.specs.Working.{StopsAtFailedWrite}
use Rattle.file_store.specs.StoreFault.{StoreFault}
use Rattle.file_store.specs.StoreFault.TheVariants as fault

-- What a recovery that is refused leaves on the disk: what a crash might have left before, or what stands for the same
-- as the content, and is the content where that is a store formatted to its end; since the end of the first sync the
-- latter, but where that sync failed. Out of memory comes only where the content is that of a store, or of none yet.
pub record LeavesStanding {D : Type 0} (g : Ghosts D) (blocks : ℕ) (why : StoreFault) (disk disk_now : D) : Type 0 where
  pub since_sync :
      IfSome (g.content disk) (λ before. IsSyncedFirst g disk disk_now (StandsAlike blocks before)
      ⊎ ((why ≡ fault.Disk) × IsFailedSync g disk disk_now))
  pub since_start : Leaves g disk disk_now (StandsAlike blocks)
  pub not_a_store : (found : List ℕ) → why ≡ fault.NotAStore found → g.content disk_now ≡ g.content disk
  pub damaged : (at : ℕ) → why ≡ fault.Damaged at → g.content disk_now ≡ g.content disk
  pub memory :
      why ≡ fault.OutOfMemory
      → IfSome (g.content disk) (λ before. HasGoodHeader (journal_of store_magic store_layout before))

-- What a session or a server does to its disk from the start on, and whether it ended by the disk. Neither count of
-- faults falls, and that of failed writes and syncs stays where it didn't end so; where it did, one of them rose. A
-- read that failed stops nothing, and no write and no sync comes after one that failed.
pub record NodeRuns {D : Type 0} (g : Ghosts D) (failed : Type 0) (disk disk_now : D) : Type 0 where
  pub told : TellsAlike (g.content disk) (g.content disk_now)
  pub reads : g.read_faults disk ≤ g.read_faults disk_now
  pub writes : g.write_faults disk ≤ g.write_faults disk_now
  pub rose :
      failed → Rose (g.read_faults disk) (g.read_faults disk_now) ⊎ Rose (g.write_faults disk) (g.write_faults disk_now)
  pub same : ¬ failed → g.write_faults disk_now ≡ g.write_faults disk
  pub stops : StopsAtFailedWrite g disk disk_now
  pub lasts : g.lasts disk disk_now
