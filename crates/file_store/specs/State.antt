-- A store of files on a disk as contracts see it, and what octets on a disk stand for as one.
use Rattle.std.specs.Prelude.{◌≡◌, ℕ, List, Option, false, true}
use Rattle.disk_model.specs.declared.disk.Disk.{Ghosts}
use Rattle.file_store_blocks.specs.Outlined.{outlined}
use Rattle.file_store_blocks.specs.Placed.{PlacedStore}
use Rattle.file_store_blocks.specs.PlacedFiles.{PlacedFiles, rest_of, store_of}
use Rattle.file_store_blocks.specs.PlacedForm.{placed_form, placed_steps}
use Rattle.file_store_blocks.specs.PlacedRecords.{placed_magic}
use Rattle.file_store_blocks.specs.Seen.{seen}
use Rattle.file_store_model.specs.Command.{Command}
use Rattle.file_store_model.specs.Store.{Store}
use Rattle.file_journal.specs.Form as form
use Rattle.file_journal.specs.Form.{Form}
use Rattle.file_journal.specs.Kept.{StandsAt}
use Rattle.file_journal.specs.Layout.{blocks_on}
use Rattle.file_journal.specs.Position.{Position, StandsOn as JournalStandsOn}
use Rattle.file_journal.specs.Steps.{Knows}
use Rattle.file_journal.specs.Walk.{Stands}
use Rattle.file_journal.specs.declared.layout.Layout.{Layout}
use Rattle.file_journal.specs.declared.layout.Layout.TheVariants as layout

-- what a journal of the store keeps, its first eight octets, and where the parts of such a disk are
abbrev pub store_form : Form Store Command
store_form = placed_form

abbrev pub store_magic : List ℕ
store_magic = placed_magic

abbrev pub store_layout : Layout
store_layout = layout.Halves

-- what the code has in memory: of each entry in which blocks its octets are, and what waits of an upload that is out;
-- and the journal of the commands
pub record StoreState : Type 0 where
  pub files : PlacedFiles
  pub journal : Position

-- a store by its parts
abbrev pub state_from : PlacedFiles → Position → StoreState
state_from files journal = record { files = files; journal = journal }

-- its entries, and in which blocks their octets are
abbrev pub placed_in : StoreState → PlacedStore
placed_in self = store_of self.files

-- the store that it is as far as memory shows: which files there are, how long they are and how far they have come,
-- with zeros in place of their octets
abbrev pub store_in : StoreState → Store
store_in self = outlined (placed_in self)

-- the store that it is on this disk, with the octets that its blocks hold; they are the store's if its content is
-- observed
abbrev pub store_on : {D : Type 0} → Ghosts D → StoreState → D → Store
store_on g self disk = seen (blocks_on (g.content disk)) (placed_in self)

-- what octets the store's files have on this disk is known: they are in no block, or the disk's content is observed
abbrev pub IsKnown : {D : Type 0} → Ghosts D → D → Type 0
IsKnown g disk = Knows store_form (g.content disk)

-- the octets that came of the entry of this number and aren't held yet, if an upload of it is out
abbrev pub rest_in : StoreState → ℕ → Option (List ℕ)
rest_in self number = rest_of self.files number

-- a write or a sync failed before
abbrev pub HasFailed : StoreState → Type 0
HasFailed self = self.journal.failed ≡ true

-- What octets stand for as a store of files: for none, since they begin with other octets; for damage at this place; or
-- for the store that their records make, each of which is allowed in its turn, with the octets that the blocks hold.
-- Octets that have no block number yet stand for the empty store of this one.
abbrev pub standing_of : ℕ → List ℕ → Stands Store
standing_of blocks octets = form.standing_of store_form blocks octets

-- the octets stand for this store
abbrev pub StandsFor : List ℕ → Store → Type 0
StandsFor image store = form.StandsFor store_form store image

-- The journal is a store's, and holds the entries on the disk: it has failed; or the disk's content, if it is observed,
-- stands for them, and a crash since this moment leaves nothing else.
abbrev pub StandsOn : {D : Type 0} → Ghosts D → StoreState → D → Type 0
StandsOn g self disk = StandsAt g store_form placed_steps self.journal (placed_in self) disk

-- The store hasn't failed, and is on its disk.
pub record IsReady {D : Type 0} (g : Ghosts D) (self : StoreState) (disk : D) : Type 0 where
  pub healthy : self.journal.failed ≡ false
  pub stands_on : StandsOn g self disk

-- The journal has the store's magic and its blocks, and was read to its end.
pub record IsRead (journal : Position) : Type 0 where
  pub magic_is : journal.magic ≡ store_magic
  pub layout_is : journal.layout ≡ store_layout
  pub ended : journal.ended ≡ true

-- So it was on this disk, on which it hasn't failed: its half and its place are those of the records there.
pub record IsReadOn {D : Type 0} (g : Ghosts D) (journal : Position) (disk : D) : Type 0 where
  pub read : IsRead journal
  pub healthy : journal.failed ≡ false
  pub stands_on : JournalStandsOn g journal disk
