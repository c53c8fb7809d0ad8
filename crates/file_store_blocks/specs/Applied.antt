-- What a command from a record does to the entries.
use Rattle.std.specs.Prelude.{◌≡◌, ℕ, List, Bool, true, false, ◌&&◌, nat_le, Option, None, Some, IfSome, IsTrue}
use Rattle.std.specs.Prelude.{is_some}
use Rattle.file_store_blocks.specs.Placed.{PlacedStore, with_next}
use Rattle.file_store_blocks.specs.PlacedCommand.{PlacedCommand, can_seal, header_at, passes_at}
use Rattle.file_store_blocks.specs.PlacedFiles.{EntriesState, KeepsReading, read_of, store_of}
use Rattle.file_store_blocks.specs.PlacedRecords.{read_after}
use Rattle.file_store_blocks.specs.ReadStore.{IsReadStore, ReadStore, Recorded, least_after, may_change, store_after}
use Rattle.disk_model.specs.Disk.{IsTold}
use Rattle.file_journal.specs.Layout.{Blocks, blocks_on}

-- its condition holds with what the blocks hold, and the store is the one after it
pub record IsDone (held : Blocks) (before now : EntriesState) (command : PlacedCommand) : Type 0 where
  pub may : IsTrue (may_change held (read_of before) command)
  pub store : store_of now.files ≡ store_after held (store_of before.files) command

-- that; or its condition doesn't hold
abbrev pub AnswersWhether : Blocks → Bool → EntriesState → EntriesState → PlacedCommand → Type 0
AnswersWhether held true before now command = IsDone held before now command
AnswersWhether held false before now command = may_change held (read_of before) command ≡ false

-- the least number of a further file after it, if its condition holds
abbrev pub least_now : Bool → ℕ → PlacedCommand → ℕ
least_now true least command = least_after least command
least_now false least command = least

-- On a disk of this content it is answered whether the condition of the command holds, if the content is observed; if
-- the answer is no, all is as it was. The entries keep their rules.
pub record Applied (content : Option (List ℕ)) (done : Bool) (before now : EntriesState) (command : PlacedCommand)
    : Type 0 where
  pub answers : IsTold content → AnswersWhether (blocks_on content) done before now command
  pub same : done ≡ false → now ≡ before
  pub number : now.files.blocks ≡ before.files.blocks
  pub least : now.least ≡ least_now done before.least command
  pub first : now.first ≡ before.first
  pub rules : IsReadStore (read_of now)

-- it is answered whether this may be the next number, and if it may, it is
pub record TakesNext (done : Bool) (before now : EntriesState) (number : ℕ) : Type 0 where
  pub may : done ≡ (before.first && nat_le before.least number)
  pub store : done ≡ true → store_of now.files ≡ with_next number (store_of before.files)
  pub same : done ≡ false → now ≡ before
  pub reading : KeepsReading before now

-- the store is the one after what a record says, or doesn't allow that
abbrev pub AnswersRecord : Blocks → Bool → ReadStore → ReadStore → Recorded → Type 0
AnswersRecord held true before now recorded = read_after held before recorded ≡ Some now
AnswersRecord held false before now recorded = read_after held before recorded ≡ None

-- The same as of a command of what a record says.
pub record AppliesRecord (content : Option (List ℕ)) (done : Bool) (before now : EntriesState) (recorded : Recorded)
    : Type 0 where
  pub answers : IsTold content → AnswersRecord (blocks_on content) done (read_of before) (read_of now) recorded
  pub same : done ≡ false → now ≡ before
  pub number : now.files.blocks ≡ before.files.blocks
  pub rules : IsReadStore (read_of now)

-- if the disk's content is observed, it is answered whether the file of this number may be sealed so, and how long its
-- header is
abbrev pub TellsSeal : Option (List ℕ) → PlacedStore → ℕ → ℕ → ℕ → Option ℕ → Type 0
TellsSeal content store number moment sum header =
    IsTold content
    → (is_some header ≡ passes_at store number (λ f. can_seal (blocks_on content) f moment sum))
    × IfSome header (λ len. len ≡ header_at (blocks_on content) store number)
