-- What a call that only reads needs of the store, and what it leaves.
use Rattle.std.specs.Prelude.{◌≡◌, ℕ}
use Rattle.disk_model.specs.declared.disk.Disk.{Ghosts}
use Rattle.disk_model.specs.Runs.{Reads}
use Rattle.file_store_model.specs.Info.{IsCompleteIn}
use Rattle.file_store.specs.State.{IsReady, StoreState, store_in}

-- The store is ready, and the file of this number is complete.
pub record MayRead {D : Type 0} (g : Ghosts D) (self : StoreState) (disk : D) (number : ℕ) : Type 0 where
  pub ready : IsReady g self disk
  pub complete : IsCompleteIn (store_in self) number

-- The store is as it was, and ready still.
pub record StaysReady {D : Type 0} (g : Ghosts D) (old new : StoreState) (disk_now : D) : Type 0 where
  pub same : new ≡ old
  pub ready : IsReady g new disk_now

-- No write and no sync was made: except for the count of failed reads the disk is as it was, and so is the store.
pub record OnlyReads {D : Type 0} (g : Ghosts D) (failed : Type 0) (old new : StoreState) (disk disk_now : D) :
    Type 0 where
  pub reads : Reads g failed disk disk_now
  pub stays : StaysReady g old new disk_now
