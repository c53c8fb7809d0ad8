-- What a command of a call does to the disk of the notes, at every moment of it.
use Rattle.std.specs.Prelude.{◌≡◌, ◌⊎◌, ◌↔◌, ℕ, ◌+◌, ◌≤◌, List, true, false, IfSome, IsTrue, Result, IsErr, IsErrOf}
use Rattle.disk_model.specs.declared.disk.Disk.{Ghosts}
use Rattle.disk_model.specs.Runs.{Leaves, Puts}
pub use Rattle.disk_model.specs.Runs.{EachImage}
use Rattle.file_journal.specs.Position.{IsSameJournal, MovesOn}
use Rattle.file_journal.specs.declared.faults.JournalFault.{JournalFault}
use Rattle.file_journal.specs.declared.faults.JournalFault.TheVariants as fault
use Rattle.client_notes.specs.Command.{NotesCommand, after, is_allowed}
use Rattle.client_notes.specs.Notes.{Lists}
use Rattle.client_notes.specs.Records.{notes_form}
use Rattle.client_notes.specs.State.{NotesState, StandsFor, StandsOn}

-- the image stands for the notes before the command or after it
abbrev pub IsBeforeOrAfter : Lists → NotesCommand → List ℕ → Type 0
IsBeforeOrAfter lists command image = StandsFor image lists ⊎ StandsFor image (after lists command)

-- The command is done: each image stands for the notes after it. It took four calls of the disk.
pub record IsDone {D : Type 0} (g : Ghosts D) (old new : NotesState) (disk disk_now : D) (command : NotesCommand)
    : Type 0 where
  pub lists : new.lists ≡ after old.lists command
  pub healthy : new.journal.failed ≡ false
  pub images : EachImage g disk_now (λ image. StandsFor image (after old.lists command))
  pub calls : IfSome (g.content disk) (λ _. g.moment disk_now ≡ g.moment disk + 4)

-- The disk failed: each image stands for the notes before the command or after it. The notes are as they were, and have
-- failed.
pub record IsCut {D : Type 0} (g : Ghosts D) (old new : NotesState) (disk_now : D) (command : NotesCommand)
    : Type 0 where
  pub lists : new.lists ≡ old.lists
  pub failed : new.journal.failed ≡ true
  pub images : EachImage g disk_now (IsBeforeOrAfter old.lists command)

-- A call of notes that haven't failed did this command, whose condition holds, in four calls of the disk, or the disk
-- failed in it. A crash since the call began leaves the notes before it or after it. But for its half and its place
-- there, and whether it failed, the journal is as it was. Where the command is done, it goes on behind its record.
pub record Does {D : Type 0} (g : Ghosts D) (failed : Type 0) (old new : NotesState) (disk disk_now : D)
    (command : NotesCommand) : Type 0 where
  pub stands_on : StandsOn g new disk_now
  pub healthy : old.journal.failed ≡ false
  pub allowed : IsTrue (is_allowed old.lists command)
  pub since : Leaves g disk disk_now (λ _. IsBeforeOrAfter old.lists command)
  pub done : ¬ failed → IsDone g old new disk disk_now command
  pub cut : failed → IsCut g old new disk_now command
  pub at_most : g.moment disk_now ≤ g.moment disk + 4
  pub puts : Puts g failed disk disk_now
  pub journal : IsSameJournal old.journal new.journal
  pub moves : ¬ failed → MovesOn (notes_form.octets command) old.journal new.journal

-- Neither the notes nor the disk is touched.
pub record Untouched {D : Type 0} (old new : NotesState) (disk disk_now : D) : Type 0 where
  pub same : new ≡ old
  pub same_disk : disk_now ≡ disk

-- What a call answers that notes one command: `Failed` exactly where the notes had failed, and then nothing is touched;
-- else the command is done, or the disk failed in it.
pub record Answers {D T : Type 0} (g : Ghosts D) (old new : NotesState) (disk disk_now : D) (command : NotesCommand)
    (result : Result T JournalFault) : Type 0 where
  pub failed : IsErrOf result fault.Failed ↔ (old.journal.failed ≡ true)
  pub untouched : IsErrOf result fault.Failed → Untouched old new disk disk_now
  pub does : ¬ IsErrOf result fault.Failed → Does g (IsErr result) old new disk disk_now command
  pub stands_on : StandsOn g new disk_now
