-- The answers of the notes' calls, and where each comes.
use Rattle.std.specs.Prelude.{◌≡◌, ◌⊎◌, ℕ, ◌+◌, List, IsTrue, IfErr, IsErr, OnOk, Bool, true, false, Option, None, Some, Result, Ok, Err}
use Rattle.std.specs.Option.{option_and_then, option_map}
use Rattle.px_base.specs.CallSign.{CallSign}
use Rattle.disk_model.specs.declared.disk.Disk.{Ghosts}
use Rattle.client_notes.specs.Command.{NotesCommand, start}
use Rattle.client_notes.specs.Notes.{Lists, Task, is_of_file, last_task, task_count, task_of}
use Rattle.client_notes.specs.OnDisk.{Does, Untouched}
use Rattle.client_notes.specs.State.{HasFailed, NotesState, StandsOn}
use Rattle.client_notes.specs.declared.answers.Begun.{Begun}
use Rattle.client_notes.specs.declared.answers.Begun.TheVariants as begun
use Rattle.client_notes.specs.declared.answers.Noted.{Noted}
use Rattle.client_notes.specs.declared.answers.Noted.TheVariants as noted
use Rattle.client_notes.specs.Limits.{most_tasks}
use Rattle.client_notes.specs.declared.progress.Progress.{Progress}
use Rattle.client_notes.specs.declared.progress.Progress.TheVariants as progress
use Rattle.client_notes.specs.declared.refusals.NotesRefusal.{NotesRefusal}
use Rattle.client_notes.specs.declared.refusals.NotesRefusal.TheVariants as refusal

-- how the task of this number stands, which has this number on the server and has come so far
abbrev pub noted_by : ℕ → ℕ → Progress → Noted
noted_by task number progress.Going = noted.Going task number
noted_by task number progress.Acked = noted.Acked task number
noted_by task number (progress.Refused code) = noted.Refused task code

abbrev pub noted_as : ℕ → Task → Noted
noted_as task entry = noted_by task entry.number entry.progress

-- how the task of this number stands, if there is one
abbrev pub noted_at : Lists → ℕ → Option Noted
noted_at lists task = option_map (noted_as task) (task_of lists task)

-- how the last task of this server, caller and name stands; none where there is no such task
abbrev pub noted_of : Lists → CallSign → CallSign → List ℕ → Option Noted
noted_of lists server caller name = option_and_then (noted_at lists) (last_task lists server caller name)

-- What is answered of the task of this number for a file of this length and digest: none, where a fresh task is wanted.
-- It was acknowledged with the same file, or with another one; it is unfinished with the same file, or with another one;
-- or it was refused.
abbrev pub answer_by : ℕ → Task → Bool → Progress → Result (Option Begun) NotesRefusal
answer_by task entry true progress.Acked = Ok (Some (begun.Already entry.number))
answer_by task entry false progress.Acked = Ok None
answer_by task entry true progress.Going = Ok (Some (begun.Going task entry.number))
answer_by task entry false progress.Going = Err (refusal.Changed entry.length entry.digest)
answer_by task entry true (progress.Refused code) = Ok None
answer_by task entry false (progress.Refused code) = Ok None

abbrev pub answer_at : ℕ → ℕ → List ℕ → Option Task → Result (Option Begun) NotesRefusal
answer_at task file_length digest None = Ok None
answer_at task file_length digest (Some entry) =
    answer_by task entry (is_of_file file_length digest entry) entry.progress

abbrev pub answer_last : Lists → ℕ → List ℕ → Option ℕ → Result (Option Begun) NotesRefusal
answer_last lists file_length digest None = Ok None
answer_last lists file_length digest (Some task) = answer_at task file_length digest (task_of lists task)

-- What is answered of the last task of this server, caller and name for a file of this length and digest.
abbrev pub answer_of : Lists → CallSign → CallSign → List ℕ → ℕ → List ℕ → Result (Option Begun) NotesRefusal
answer_of lists server caller name file_length digest =
    answer_last lists file_length digest (last_task lists server caller name)

-- 65,536 tasks stand
abbrev pub IsFull : Lists → Type 0
IsFull lists = task_count lists ≡ most_tasks

-- Where a fresh task isn't noted: exactly one cause is each one's, but want of memory and a fault of the disk come only
-- where no other does.
abbrev pub RefusesFresh : NotesState → NotesRefusal → Type 0
RefusesFresh self (refusal.Changed kept_length digest) = ⊥
RefusesFresh self refusal.Full = IsFull self.lists
RefusesFresh self refusal.Failed = ¬ IsFull self.lists × HasFailed self
RefusesFresh self refusal.Disk = ¬ IsFull self.lists × ¬ HasFailed self
RefusesFresh self refusal.OutOfMemory = ¬ IsFull self.lists × ¬ HasFailed self

-- where a fresh task is noted: its number is one more than that of the last one
abbrev pub IsFresh : NotesState → Begun → Type 0
IsFresh self begun_now = RefusesFresh self refusal.Disk × (begun_now ≡ begun.Fresh (task_count self.lists + 1))

-- what a start answers, by what is answered of the last task: that, or what becomes of the fresh task that is wanted
abbrev pub StartsBy : NotesState → Result (Option Begun) NotesRefusal → Result Begun NotesRefusal → Type 0
StartsBy self (Ok None) (Ok begun_now) = IsFresh self begun_now
StartsBy self (Ok None) (Err refused_now) = RefusesFresh self refused_now
StartsBy self (Ok (Some kept)) result = result ≡ Ok kept
StartsBy self (Err refused_now) result = result ≡ Err refused_now

-- the command by which a fresh task is noted
abbrev pub fresh_task : Lists → CallSign → CallSign → List ℕ → ℕ → List ℕ → NotesCommand
fresh_task lists server caller name file_length digest =
    start (task_count lists + 1) server caller name file_length digest

-- Where a command that takes memory isn't noted.
abbrev pub RefusesNoting : NotesState → NotesRefusal → Type 0
RefusesNoting self (refusal.Changed kept_length digest) = ⊥
RefusesNoting self refusal.Full = ⊥
RefusesNoting self refusal.Failed = HasFailed self
RefusesNoting self refusal.Disk = ¬ HasFailed self
RefusesNoting self refusal.OutOfMemory = ¬ HasFailed self

-- a start reached the disk: it noted a fresh task, or the disk failed in that
abbrev pub start_reaches : Result Begun NotesRefusal → Bool
start_reaches (Ok (begun.Fresh task)) = true
start_reaches (Ok (begun.Already number)) = false
start_reaches (Ok (begun.Going task number)) = false
start_reaches (Err refusal.Disk) = true
start_reaches (Err refusal.Full) = false
start_reaches (Err refusal.Failed) = false
start_reaches (Err refusal.OutOfMemory) = false
start_reaches (Err (refusal.Changed kept_length digest)) = false

-- a noting did: it is done, or the disk failed in it
abbrev pub noting_reaches : {T : Type 0} → Result T NotesRefusal → Bool
noting_reaches (Ok done) = true
noting_reaches (Err refusal.Disk) = true
noting_reaches (Err refusal.Full) = false
noting_reaches (Err refusal.Failed) = false
noting_reaches (Err refusal.OutOfMemory) = false
noting_reaches (Err (refusal.Changed kept_length digest)) = false

-- What a call answers that notes one command and takes memory: `Failed` exactly where the notes had failed; a fault of
-- the disk and want of memory only where they hadn't. It did the command, or the disk failed in it, or nothing is touched.
pub record Noting {D T : Type 0} (g : Ghosts D) (old new : NotesState) (disk disk_now : D) (command : NotesCommand)
    (result : Result T NotesRefusal) : Type 0 where
  pub refused : IfErr result (RefusesNoting old)
  pub can : OnOk result (¬ HasFailed old)
  pub untouched : IsTrue (noting_reaches result) ⊎ Untouched old new disk disk_now
  pub does : IsTrue (noting_reaches result) → Does g (IsErr result) old new disk disk_now command
  pub stands_on : StandsOn g new disk_now
