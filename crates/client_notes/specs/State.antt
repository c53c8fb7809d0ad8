-- The notes of a client on a disk as contracts see them, and what octets on a disk stand for as notes.
use Rattle.std.specs.Prelude.{◌≡◌, ℕ, List, false, true}
use Rattle.disk_model.specs.declared.disk.Disk.{Ghosts}
use Rattle.file_journal.specs.Kept.{IsKept, kept_on}
use Rattle.file_journal.specs.Position.{Position}
use Rattle.file_journal.specs.Walk.{Stands, state, stands_for}
use Rattle.file_journal.specs.declared.layout.Layout.TheVariants as layout
use Rattle.client_notes.specs.Notes.{Lists}
use Rattle.client_notes.specs.Records.{fresh_notes, notes_form, notes_magic, notes_step}

-- the notes, and the journal of their commands
pub record NotesState : Type 0 where
  pub lists : Lists
  pub journal : Position

-- a write or a sync failed before
abbrev pub HasFailed : NotesState → Type 0
HasFailed self = self.journal.failed ≡ true

-- What octets stand for as notes: for none, since they begin with other octets; for damage at this place; or for the
-- notes after the commands that their records are, each of which the notes before it allow.
abbrev pub standing_of : List ℕ → Stands Lists
standing_of octets = stands_for fresh_notes notes_step notes_magic layout.Growing 1 octets

-- the octets stand for these notes
abbrev pub StandsFor : List ℕ → Lists → Type 0
StandsFor image lists = standing_of image ≡ state lists

-- The notes have failed; or the disk's content, where it is told, stands for them, and a crash since this moment leaves
-- nothing else.
abbrev pub StandsOn : {D : Type 0} → Ghosts D → NotesState → D → Type 0
StandsOn g self disk = IsKept g notes_form (kept_on self.lists self.journal disk)

-- The notes haven't failed, and stand on the disk: what they are told is noted.
pub record IsReady {D : Type 0} (g : Ghosts D) (self : NotesState) (disk : D) : Type 0 where
  pub healthy : self.journal.failed ≡ false
  pub stands_on : StandsOn g self disk

-- The journal has the magic of notes and no blocks, and was read to its end.
pub record IsRead (journal : Position) : Type 0 where
  pub magic_is : journal.magic ≡ notes_magic
  pub layout_is : journal.layout ≡ layout.Growing
  pub ended : journal.ended ≡ true
