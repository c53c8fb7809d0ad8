-- What each call of the store keeps.
use Rattle.std.specs.Prelude.{◌≡◌, ◌≢◌, ℕ, Some}
use Rattle.disk_model.specs.declared.disk.Disk.{Ghosts}
use Rattle.file_store_blocks.specs.PlacedFiles.{KeepsRests}
use Rattle.file_store_model.specs.Kept.{KeepsComplete}
use Rattle.file_store_model.specs.Store.{Entry, Store, entry_of}
use Rattle.file_store.specs.State.{StandsOn, StoreState, store_in}
use Rattle.file_store.specs.Upload.{Upload, Holds}

-- each upload that the store holds it still holds
abbrev pub KeepsUploads : StoreState → StoreState → Type 0
KeepsUploads before now = (other : Upload) → Holds before other → Holds now other

-- each upload of another number that the store holds it still holds
abbrev pub KeepsOthers : StoreState → StoreState → ℕ → Type 0
KeepsOthers before now number = (other : Upload) → other.number ≢ number → Holds before other → Holds now other

-- Each entry now was one before, of the same caller; except for that of this number it is as it was.
abbrev pub ChangesEntry : Store → Store → ℕ → Type 0
ChangesEntry before now number =
    (other : ℕ) (entry : Entry) → entry_of now other ≡ Some entry
    → (old : Entry) × (entry_of before other ≡ Some old) × (old.caller ≡ entry.caller) × (other ≢ number → old ≡ entry)

-- The next number and the number of blocks are as they were, and so is, for each other number, which entry is there, or
-- that none is. The entry of this number, if it is there, was there before, and is what it was except for how far it
-- has come.
pub record OnlyChanges (before now : Store) (number : ℕ) : Type 0 where
  pub next : now.next ≡ before.next
  pub blocks : now.blocks ≡ before.blocks
  pub others : (other : ℕ) → other ≢ number → entry_of now other ≡ entry_of before other
  pub own :
      (entry : Entry) → entry_of now number ≡ Some entry
      → (old : Entry) × (entry_of before number ≡ Some old) × (entry ≡ record old { holding = entry.holding })

-- A call on the upload of this number leaves the store on its disk. It keeps each upload of another number with what
-- waits of it, and each complete entry; it makes no entry, changes none of another number and drops none, and gives no
-- number out.
pub record KeepsOtherFiles {D : Type 0} (g : Ghosts D) (before now : StoreState) (disk_now : D) (number : ℕ) :
    Type 0 where
  pub stands_on : StandsOn g now disk_now
  pub uploads : KeepsOthers before now number
  pub rests : KeepsRests before.files now.files number
  pub kept : KeepsComplete (store_in before) (store_in now)
  pub entries : ChangesEntry (store_in before) (store_in now) number
  pub only : OnlyChanges (store_in before) (store_in now) number
