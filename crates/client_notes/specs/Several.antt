-- What several commands of a call do to the disk of the notes, at every moment of it.
use Rattle.std.specs.Prelude.{◌≡◌, ℕ, List, [], ◌∷◌, ◌++◌, Bool, IsTrue}
use Rattle.disk_model.specs.declared.disk.Disk.{Ghosts}
use Rattle.file_journal.specs.Commands as kept
use Rattle.file_journal.specs.Kept as several
use Rattle.file_journal.specs.Kept.{KeptOn, kept_on}
use Rattle.client_notes.specs.Command.{NotesCommand}
use Rattle.client_notes.specs.Notes.{Lists}
use Rattle.client_notes.specs.OnDisk.{Does}
use Rattle.client_notes.specs.Records.{notes_form}
use Rattle.client_notes.specs.State.{NotesState}

-- the notes after the first so many of these commands
abbrev pub after_first : ℕ → Lists → List NotesCommand → Lists
after_first = kept.after_first notes_form

-- The image stands for the notes after the first of these commands, for some number of them from one number to another.
abbrev pub MakesBetween : ℕ → ℕ → Lists → List NotesCommand → List ℕ → Type 0
MakesBetween = kept.MakesBetween notes_form

-- the same for any number of them
abbrev pub MakesFirst : Lists → List NotesCommand → List ℕ → Type 0
MakesFirst = kept.MakesFirst notes_form

-- these notes, and this disk
abbrev pub notes_on : {D : Type 0} → NotesState → D → KeptOn D Lists
notes_on self disk = kept_on self.lists self.journal disk

-- A call of notes that haven't failed did these commands, four calls of the disk each, or the disk failed in one of them.
-- A crash since the call began leaves the notes after the first of them, for some number of them, and no fewer than were
-- done when it came. Without commands neither the notes nor the disk is touched.
pub record DoesSeveral {D : Type 0} (g : Ghosts D) (failed : Type 0) (old new : NotesState) (disk disk_now : D)
    (commands : List NotesCommand) : Type 0 where
  pub does : several.Does g notes_form failed commands (notes_on old disk) (notes_on new disk_now)
  pub same : commands ≡ [] → new ≡ old

-- The notes did these commands, and then those, or the disk failed in one of those: they did both lists of commands, one
-- after the other, or the disk failed in one of them. Whether it failed is told.
abbrev pub SeveralLaw : {D : Type 0} → Ghosts D → Type 0
SeveralLaw {D} g =
    (failed : Bool) (old between new : NotesState) (disk disk_then disk_now : D) (these those : List NotesCommand)
    → DoesSeveral g ⊥ old between disk disk_then these
    → DoesSeveral g (IsTrue failed) between new disk_then disk_now those
    → DoesSeveral g (IsTrue failed) old new disk disk_now (these ++ those)

-- One command that was done, or in which the disk failed, is a list of one.
abbrev pub OneLaw : {D : Type 0} → Ghosts D → Type 0
OneLaw {D} g =
    (failed : Bool) (old new : NotesState) (disk disk_now : D) (command : NotesCommand)
    → Does g (IsTrue failed) old new disk disk_now command
    → DoesSeveral g (IsTrue failed) old new disk disk_now (command ∷ [])

-- The notes did these commands, and then those, in one of which the disk failed, if it did.
pub record CutsOff {D : Type 0} (g : Ghosts D) (failed : Type 0) (old new : NotesState) (disk disk_now : D)
    (done cut : List NotesCommand) : Type 0 where
  pub notes_then : NotesState
  pub disk_then : D
  pub first : DoesSeveral g ⊥ old notes_then disk disk_then done
  pub second : DoesSeveral g failed notes_then new disk_then disk_now cut
