-- Laws of stores of placed files, over every store and all that blocks may hold.
use Rattle.std.specs.Prelude.{◌≡◌, ◌⊎◌, ◌↔◌, ℕ, ◌≤◌, List, map, Option, None, Some, IsTrue}
use Rattle.std.specs.List.{AllByRecursion}
use Rattle.file_store_blocks.specs.IsPlaced.{IsPlaced, KeepsSeals}
use Rattle.file_store_blocks.specs.Placed.{Decides, PlacedStore, no_entries}
use Rattle.file_store_blocks.specs.PlacedCommand.{PlacedCommand, after, is_allowed, seen_command}
use Rattle.file_store_blocks.specs.PlacedForm.{placed_form, placed_steps}
use Rattle.file_store_blocks.specs.PlacedRecords.{CanRecord, IsWritable, Says, Writes, placed_in, placed_magic}
use Rattle.file_store_blocks.specs.PlacedRecords.{record_of_placed, record_of_recorded, recorded_in}
use Rattle.file_store_blocks.specs.ReadStore.{ReadStore, Recorded, after_recorded, is_recordable, nothing_read}
use Rattle.file_store_blocks.specs.Seen.{seen}
use Rattle.file_store_model.specs.Command as file
use Rattle.file_store_model.specs.Command.{HasCall}
use Rattle.file_store_model.specs.IsStore.{IsStore}
use Rattle.file_store_model.specs.Store.{Store, empty_store}
use Rattle.file_journal.specs.Commands as kept
use Rattle.file_journal.specs.Form.{StandsFor}
use Rattle.file_journal.specs.Journal as journal
use Rattle.file_journal.specs.Journal.{journal_of}
use Rattle.file_journal.specs.Layout.{Blocks, HoldSame, block_in}
use Rattle.file_journal.specs.Records.{IsRecord, Record, whole}
use Rattle.file_journal.specs.Steps.{walked}
use Rattle.file_journal.specs.Walk.{state}
use Rattle.file_journal.specs.declared.layout.Layout.TheVariants as layout
use Rattle.px_base.specs.Octets.{IsOctets}

-- A store without entries keeps the rules of a store of placed files, and so does each command whose condition holds,
-- if the caller that it names is a call. It keeps the seals too.
abbrev pub PlacedLaw : Type 0
PlacedLaw =
    ((blocks : ℕ) → IsPlaced (no_entries blocks))
    × ((held : Blocks) (blocks : ℕ) → KeepsSeals held (no_entries blocks))
    × ((held : Blocks) (store : PlacedStore) (command : PlacedCommand) → IsPlaced store
    → HasCall (seen_command held command) → IsTrue (is_allowed held store command)
    → IsPlaced (after held store command))
    × ((held : Blocks) (store : PlacedStore) (command : PlacedCommand) → IsPlaced store
    → IsTrue (is_allowed held store command) → KeepsSeals held store → KeepsSeals held (after held store command))

-- Seals are kept whatever the blocks hold that no sealed file has.
abbrev pub SealsLaw : Type 0
SealsLaw =
    (one other : Blocks) (store : PlacedStore) → HoldSame (Decides store) one other → KeepsSeals one store
    → KeepsSeals other store

-- A command whose condition holds is seen as a command of the store of files, whose condition holds there; and what it
-- makes is seen as what that makes. A store without entries is seen as an empty one.
abbrev pub SeenLaw : Type 0
SeenLaw =
    ((held : Blocks) (blocks : ℕ) → seen held (no_entries blocks) ≡ empty_store blocks)
    × ((held : Blocks) (store : PlacedStore) (command : PlacedCommand) → IsPlaced store
    → IsTrue (is_allowed held store command)
    → IsTrue (file.is_allowed (seen held store) (seen_command held command))
    × (seen held (after held store command) ≡ file.after (seen held store) (seen_command held command)))

-- If the seals are kept, the rules of a store are true of what is seen, of 1 to 65,536 blocks.
abbrev pub StoreLaw : Type 0
StoreLaw =
    (held : Blocks) (store : PlacedStore) → IsPlaced store → KeepsSeals held store → 1 ≤ store.blocks
    → store.blocks ≤ 65536 → IsStore (seen held store)

-- A record of at most 600 octets is read as a command exactly when it is that command's record; and each command that
-- can be written has such a record. The same of all that a record says.
abbrev pub RecordsLaw : Type 0
RecordsLaw =
    ((entry : Record) (command : PlacedCommand) → IsRecord entry
    → (placed_in entry ≡ Some command) ↔ Writes entry command)
    × ((command : PlacedCommand) → IsWritable command → IsRecord (record_of_placed command))
    × ((entry : Record) (recorded : Recorded) → IsRecord entry
    → (recorded_in entry ≡ Some recorded) ↔ Says entry recorded)
    × ((recorded : Recorded) → CanRecord recorded → IsRecord (record_of_recorded recorded))

-- each record is allowed in its turn, with what the blocks hold
abbrev pub AreAllowed : Blocks → ReadStore → List Recorded → Type 0
AreAllowed held read records =
    kept.AreAllowed (λ before recorded. IsTrue (is_recordable held before recorded)) (after_recorded held) read records

-- the store after these records, one after another, with what the blocks hold
abbrev pub after_all : Blocks → ReadStore → List Recorded → ReadStore
after_all held read records = kept.after_all (after_recorded held) read records

-- The octets are a journal after this number of blocks, or have no block number yet, and its records say this, each of
-- which the store before it allows with what the blocks hold, from nothing on; and this is the store after them.
pub record IsPlacedAfter (octets : List ℕ) (now : ReadStore) (records : List Recorded) : Type 0 where
  pub number : Option ℕ
  pub is_number : (number ≡ None) ⊎ (number ≡ Some now.store.blocks)
  pub records_are :
      journal_of placed_magic layout.Halves octets ≡ journal.store number (whole (map record_of_recorded records))
  pub writable : AllByRecursion CanRecord records
  pub allowed : AreAllowed (block_in octets) (nothing_read now.store.blocks) records
  pub after_is : now ≡ after_all (block_in octets) (nothing_read now.store.blocks) records

-- Octets stand for a store of files exactly when they are the records that make a store of placed files which, with
-- what its blocks hold, is seen as that one.
abbrev pub IsOneStanding : Type 0
IsOneStanding =
    (octets : List ℕ) (files : Store) → IsOctets octets
    → StandsFor placed_form files octets
    ↔ ((now : ReadStore) × (records : List Recorded) × IsPlacedAfter octets now records
    × (files ≡ seen (block_in octets) now.store))

-- The same; and a store of placed files for which octets stand keeps its rules and its seals.
abbrev pub StandingLaw : Type 0
StandingLaw =
    IsOneStanding
    × ((blocks : ℕ) (octets : List ℕ) (now : ReadStore)
    → walked placed_steps placed_magic layout.Halves blocks octets ≡ state now
    → IsPlaced now.store × KeepsSeals (block_in octets) now.store)
