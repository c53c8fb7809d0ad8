-- What a run of a store's calls does to the disk when reads come among its commands.
use Rattle.std.specs.Prelude.{ℕ, List}
use Rattle.disk_model.specs.AtDisk.{AtDisk}
use Rattle.disk_model.specs.declared.disk.Disk.{Ghosts}
use Rattle.file_journal.specs.AmongReads as among
use Rattle.file_store_model.specs.Command.{Command}
use Rattle.file_store.specs.OnDisk.{kept_at}
use Rattle.file_store.specs.State.{StoreState, store_form}
pub use Rattle.disk_model.specs.Runs.{CountsSome, PutsAmongReads, StopsAtFailedWrite, one_if}

-- A store that hadn't failed did these commands, or the disk failed in one of them; and reads came before, between and
-- after them, of which this many failed at least, or none did. Each command took the calls of the disk that the form of
-- a store says; if the journal had no room for its record after those before it, at most those more by which the
-- records are written again. A crash since it began leaves the store after the first of the commands, for some number
-- of them, and no fewer than were done when it came. Without commands the disk is as reads leave it. Nothing is written
-- past what a store of this number of blocks may take.
abbrev pub DoesAmongReads :
    {D : Type 0} → Ghosts D → Type 0 → ℕ → StoreState → StoreState → D → D → List Command → Type 0
DoesAmongReads g failed missed old new disk disk_now commands =
    among.DoesAmongReads g store_form failed missed commands (kept_at g old disk) (kept_at g new disk_now)

-- The store did the first of these commands on its disk, and then the others, or the disk failed in one of these. Reads
-- came among the first, of which this many failed at least, or none did, and among the others, of which none failed.
pub record CutsOffAmongReads {D : Type 0} (g : Ghosts D) (failed : Type 0) (missed : ℕ)
    (before now : AtDisk StoreState D) (done cut : List Command) : Type 0 where
  pub then_is : AtDisk StoreState D
  pub first : DoesAmongReads g ⊥ missed before.it then_is.it before.disk then_is.disk done
  pub second : DoesAmongReads g failed 0 then_is.it now.it then_is.disk now.disk cut
