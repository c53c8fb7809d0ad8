-- How the code has commands noted.
use Rattle.std.specs.Prelude.{◌≡◌, ℕ, ◌<◌, List, [], ◌∷◌, length, take, ⊤, IsErrOf, IsTrue, Result, Ok, Err}
use Rattle.disk_model.specs.declared.disk.Disk.{Ghosts}
use Rattle.file_journal.specs.declared.faults.JournalFault.{JournalFault}
use Rattle.file_journal.specs.declared.faults.JournalFault.TheVariants as fault
use Rattle.client_notes.specs.Command.{NotesCommand, is_allowed}
use Rattle.client_notes.specs.declared.refusals.NotesRefusal.{NotesRefusal}
use Rattle.client_notes.specs.declared.refusals.NotesRefusal.TheVariants as refusal
use Rattle.client_notes.specs.Several.{DoesSeveral}
use Rattle.client_notes.specs.State.{IsReady, NotesState}
use Rattle.disk_model.specs.declared.halt.Halt.{Halt}
use Rattle.disk_model.specs.declared.halt.Halt.TheVariants as stop

-- this number of these commands is done, and one is still to be, if there are any
abbrev pub IsBefore : ℕ → List NotesCommand → Type 0
IsBefore count [] = count ≡ 0
IsBefore count (command ∷ commands) = count < length (command ∷ commands)

-- The commands are done; or the disk failed in one of them; or there was no memory for one of them, and those before it
-- are done. A crash since the call began leaves the notes after the first of the commands, for some number of them.
abbrev pub HasNoted :
    {D T : Type 0} → Ghosts D → NotesState → NotesState → D → D → List NotesCommand → Result T Halt → Type 0
HasNoted g old new disk disk_now commands (Ok done) = DoesSeveral g ⊥ old new disk disk_now commands
HasNoted g old new disk disk_now commands (Err stop.Disk) = DoesSeveral g ⊤ old new disk disk_now commands
HasNoted g old new disk disk_now commands (Err stop.OutOfMemory) =
    (count : ℕ) × IsBefore count commands × DoesSeveral g ⊥ old new disk disk_now (take count commands)

-- The same of commands that take no memory.
pub record NotesAtOnce {D T : Type 0} (g : Ghosts D) (old new : NotesState) (disk disk_now : D)
    (commands : List NotesCommand) (result : Result T Halt) : Type 0 where
  pub noted : HasNoted g old new disk disk_now commands result
  pub memory : ¬ IsErrOf result stop.OutOfMemory

-- What a command needs to be noted: the notes are ready, and its condition holds.
pub record MayNote {D : Type 0} (g : Ghosts D) (notes : NotesState) (disk : D) (command : NotesCommand)
    : Type 0 where
  pub ready : IsReady g notes disk
  pub allowed : IsTrue (is_allowed notes.lists command)

-- an answer of notes that hadn't failed, as one of a job
abbrev pub IsAnswer : Result ⊤ JournalFault → Result ⊤ Halt → Type 0
IsAnswer (Ok done) result = result ≡ Ok tt
IsAnswer (Err fault.Disk) result = result ≡ Err stop.Disk
IsAnswer (Err fault.Failed) result = ⊥

-- the same of a call that takes memory
abbrev pub IsAnswerOf : Result ⊤ NotesRefusal → Result ⊤ Halt → Type 0
IsAnswerOf (Ok done) result = result ≡ Ok tt
IsAnswerOf (Err refusal.Disk) result = result ≡ Err stop.Disk
IsAnswerOf (Err refusal.OutOfMemory) result = result ≡ Err stop.OutOfMemory
IsAnswerOf (Err refusal.Failed) result = ⊥
IsAnswerOf (Err refusal.Full) result = ⊥
IsAnswerOf (Err (refusal.Changed kept_length digest)) result = ⊥

-- it is none of those that notes give only that had failed, or to a start
abbrev pub IsOfNoting : Result ⊤ NotesRefusal → Type 0
IsOfNoting (Ok done) = ⊤
IsOfNoting (Err refusal.Disk) = ⊤
IsOfNoting (Err refusal.OutOfMemory) = ⊤
IsOfNoting (Err refusal.Failed) = ⊥
IsOfNoting (Err refusal.Full) = ⊥
IsOfNoting (Err (refusal.Changed kept_length digest)) = ⊥
