-- How `send` ends.
use Rattle.std.specs.Prelude.{◌≡◌, ◌⊎◌, ℕ, ◌+◌, List, [], ◌∷◌, Option, None, Some, IfOk, IfSome, IsErrAnd, IsErrOf}
use Rattle.std.specs.Prelude.{MatchResult, Result, Ok, Err}
use Rattle.px_base.specs.Shelves.{Holding, content_of}
use Rattle.disk_model.specs.declared.disk.Disk.{Ghosts}
use Rattle.turn_loop.specs.Lent.{Lent, Seen}
use Rattle.file_journal.specs.Through.{CountsWrites, StandsThrough}
use Rattle.client_notes.specs.Answers.{IsFull, answer_of, fresh_task}
use Rattle.client_notes.specs.Command.{NotesCommand}
use Rattle.client_notes.specs.Notes.{Lists, last_task, task_count}
use Rattle.client_notes.specs.OnDisk.{EachImage}
use Rattle.client_notes.specs.Records.{notes_form}
use Rattle.client_notes.specs.declared.answers.Begun.{Begun}
use Rattle.client_notes.specs.declared.answers.Begun.TheVariants as begun
use Rattle.client_notes.specs.declared.refusals.NotesRefusal.{NotesRefusal}
use Rattle.ftl0_client.specs.Work.TheVariants as work
use Rattle.ftl0_client.specs.JobLaws.{IsAckedIn}
use Rattle.ftl0_client.specs.Table.{JobState, new_job}
use Rattle.ftl0_client.specs.Upload.{new_upload}
use Rattle.ftl0_client.specs.Outcome.{Outcome}
use Rattle.ftl0_client.specs.Outcome.TheVariants as outcome
use Rattle.uploader.specs.declared.stop.SendStop.{SendStop}
use Rattle.uploader.specs.declared.stop.SendStop.TheVariants as stop
use Rattle.uploader.specs.declared.sum.FileSum.{FileSum}
use Rattle.uploader.specs.declared.terms.ClientTerms.{ClientTerms}
use Rattle.uploader.specs.declared.terms.Sent.{Sent}
use Rattle.uploader.specs.Carried.{Carries, IsUnrecovered, RecoversTo, asked_of}
use Rattle.uploader.specs.Loading.{IsSendable, IsUnfit, sum_of}
use Rattle.uploader.specs.Stops.{stop_of_start}

-- The file isn't sent, by what the shelf has under its name, by a fault of the shelf or for want of memory. Nothing
-- else was touched.
pub record IsUnloaded {A C D : Type 0} (old new : Lent D A C) (held : Option Holding) (name : List ℕ)
    (why : SendStop) : Type 0 where
  pub untouched : new ≡ old
  pub cause : IsUnfit held name why

-- what the notes answer of the last task of this name for a file of this sum
abbrev pub last_answer : ClientTerms → Lists → List ℕ → FileSum → Result (Option Begun) NotesRefusal
last_answer terms lists name sum = answer_of lists terms.server terms.me name sum.length sum.digest

-- the command by which a fresh task for it is noted
abbrev pub first_command : ClientTerms → Lists → List ℕ → FileSum → NotesCommand
first_command terms lists name sum = fresh_task lists terms.server terms.me name sum.length sum.digest

-- Why a fresh task that is wanted isn't noted: 65,536 tasks stand; or, where fewer do, the disk failed in its command,
-- or there was no memory.
abbrev pub IsUnnoted : Lists → NotesCommand → SendStop → List NotesCommand → Type 0
IsUnnoted lists command stop.NotesFull cut = IsFull lists × (cut ≡ [])
IsUnnoted lists command stop.Disk cut = ¬ IsFull lists × (cut ≡ command ∷ [])
IsUnnoted lists command stop.OutOfMemory cut = ¬ IsFull lists × (cut ≡ [])
IsUnnoted lists command why cut = ⊥

-- How a start ends that gives no task to carry out, by what the notes answer of the last task: the file was
-- acknowledged before; the task can't be started, or no fresh one is noted. These are the commands in one of which
-- the disk failed.
abbrev pub EndsAtStart :
    Lists → NotesCommand → FileSum → Result (Option Begun) NotesRefusal → Result Sent SendStop → List NotesCommand
    → Type 0
EndsAtStart lists command sum (Ok None) result cut = IsErrAnd result (λ why. IsUnnoted lists command why cut)
EndsAtStart lists command sum (Ok (Some (begun.Already number))) result cut =
    (result ≡ Ok (record { number = number })) × (cut ≡ [])
EndsAtStart lists command sum (Ok (Some (begun.Fresh task))) result cut = ⊥
EndsAtStart lists command sum (Ok (Some (begun.Going task number))) result cut = ⊥
EndsAtStart lists command sum (Err refused) result cut = (result ≡ Err (stop_of_start sum refused)) × (cut ≡ [])

-- the last task of this name, in each image, was acknowledged with this number
abbrev pub IsLastAcked : {D : Type 0} → Ghosts D → D → ClientTerms → Lists → List ℕ → ℕ → Type 0
IsLastAcked g disk terms lists name number =
    (task : ℕ) × (last_task lists terms.server terms.me name ≡ Some task) × EachImage g disk (IsAckedIn task number)

-- The notes were recovered, and no job was asked: nothing was heard or said, and the clock wasn't asked. But for a
-- fault of the disk in a fresh task's command the disk is as the recovery left it, and no count of its faults rose.
pub record IsUnstarted {A C D : Type 0} (g : Ghosts D) (old new : Lent D A C) (terms : ClientTerms)
    (name file : List ℕ) (result : Result Sent SendStop) : Type 0 where
  pub start : Lists
  pub recovered : D
  pub recovers : RecoversTo g old.disk recovered start
  pub air : new.air ≡ old.air
  pub clock : new.clock ≡ old.clock
  pub cut : List NotesCommand
  pub ends :
      EndsAtStart start (first_command terms start name (sum_of file)) (sum_of file)
      (last_answer terms start name (sum_of file)) result cut
  pub stands : StandsThrough g notes_form (IsErrOf result stop.Disk) start [] cut old.disk new.disk
  pub ready : stands.ready ≡ g.moment recovered
  pub counts : CountsWrites g (IsErrOf result stop.Disk) old.disk new.disk
  pub none : cut ≡ [] → new.disk ≡ recovered
  pub acked : IfOk result (λ sent. IsLastAcked g new.disk terms start name sent.number)

-- The task that the file is uploaded by, the number that it is known to have on the server, or 0, and the commands that
-- begin it: a fresh one, or the last one, which is unfinished.
abbrev pub IsTaskFor : ClientTerms → Lists → List ℕ → FileSum → ℕ → ℕ → List NotesCommand → Type 0
IsTaskFor terms lists name sum task number first =
    ((last_answer terms lists name sum ≡ Ok None) × ¬ IsFull lists × (task ≡ task_count lists + 1)
    × (number ≡ 0) × (first ≡ first_command terms lists name sum ∷ []))
    ⊎ ((last_answer terms lists name sum ≡ Ok (Some (begun.Going task number))) × (first ≡ []))

-- the upload of a file by a task, which was just asked
abbrev pub upload_of : ℕ → ℕ → List ℕ → JobState
upload_of task number file = new_job (work.Upload (new_upload task number file))

-- The file was uploaded, as far as that came. It is sent exactly where the outcome is that it was acknowledged, and in
-- each image its task then was, with the same number.
pub record Uploads {A C D : Type 0} (see : Seen D A C) (old new : Lent D A C) (terms : ClientTerms)
    (name file : List ℕ) (result : Result Sent SendStop) : Type 0 where
  pub start : Lists
  pub task : ℕ
  pub number : ℕ
  pub first : List NotesCommand
  pub task_for : IsTaskFor terms start name (sum_of file) task number first
  pub came : Result Outcome SendStop
  pub carries : Carries see old new (asked_of terms start first (upload_of task number file)) came
  pub answer : MatchResult result (λ sent. came ≡ Ok (outcome.Acked sent.number)) (λ why. came ≡ Err why)
  pub acked : IfOk result (λ sent. EachImage see.disk new.disk (IsAckedIn task sent.number))

-- The file may be sent, and is what the shelf has under the name. Then the notes weren't recovered; or no job was
-- asked; or it was uploaded.
pub record Sends {A C D : Type 0} (see : Seen D A C) (old new : Lent D A C) (held : Option Holding)
    (terms : ClientTerms) (name : List ℕ) (result : Result Sent SendStop) : Type 0 where
  pub file : List ℕ
  pub sendable : IsSendable file
  pub there : IfSome held (λ shelf. content_of shelf name ≡ Some file)
  pub ends :
      IsErrAnd result (IsUnrecovered see.disk old new)
      ⊎ IsUnstarted see.disk old new terms name file result
      ⊎ Uploads see old new terms name file result

-- The file wasn't loaded, or it was.
abbrev pub SendEnds :
    {A C D : Type 0} → Seen D A C → Lent D A C → Lent D A C → Option Holding → ClientTerms → List ℕ
    → Result Sent SendStop → Type 0
SendEnds see old new held terms name result =
    IsErrAnd result (IsUnloaded old new held name) ⊎ Sends see old new held terms name result
