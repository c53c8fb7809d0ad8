-- How the code's job answers a packet, and what that does to the disk.
use Rattle.std.specs.Prelude.{◌≡◌, List, ℕ, [], Option, Result, Ok, Err, IsErrOf, IsTrue, ⊤}
use Rattle.disk_model.specs.declared.disk.Disk.{Ghosts}
use Rattle.ftl0_packets.specs.Items.{texts}
use Rattle.ftl0_packets.specs.Layout.{Item}
use Rattle.client_notes.specs.State.{NotesState}
use Rattle.px_base.specs.declared.memory.OutOfMemory.{OutOfMemory}
use Rattle.ftl0_client_job.specs.declared.ending.Ending.{Ending}
use Rattle.disk_model.specs.declared.halt.Halt.{Halt}
use Rattle.disk_model.specs.declared.halt.Halt.TheVariants as stop
use Rattle.ftl0_client_job.specs.declared.work.Work.{Work}
use Rattle.ftl0_client_job.specs.Noting.{HasNoted}
use Rattle.ftl0_client_job.specs.Row.{Row}
use Rattle.ftl0_client_job.specs.Table.{JobState, job_row, takes_memory}

-- what the row gives is the state, the replies and the ending now
abbrev pub Gives : {S : Type 0} → Row S → S → List ℕ → Option Ending → Type 0
Gives row now replies ending = (now ≡ row.state) × (replies ≡ texts row.replies) × (ending ≡ row.ending)

-- a state, the notes that go with it, and the disk that they are on
pub record WithNotes (S D : Type 0) : Type 0 where
  pub state : S
  pub notes : NotesState
  pub disk : D

abbrev pub with_notes : {S D : Type 0} → S → NotesState → D → WithNotes S D
with_notes state notes disk = record { state = state; notes = notes; disk = disk }

-- A packet with this row was answered as the row says; or the disk failed in one of the row's commands, or there was no
-- memory, and then the state is as it was, and nothing is replied.
abbrev pub Answers : {S : Type 0} → Row S → S → S → List ℕ → Result (Option Ending) Halt → Type 0
Answers row before now replies (Ok ending) = Gives row now replies ending
Answers row before now replies (Err why) = (now ≡ before) × (replies ≡ [])

-- What a packet with this row does: its answer, and what the row's commands do to the notes and their disk.
pub record TakesRow {D S : Type 0} (g : Ghosts D) (row : Row S) (before now : WithNotes S D) (replies : List ℕ)
    (result : Result (Option Ending) Halt) : Type 0 where
  pub answers : Answers row before.state now.state replies result
  pub noted : HasNoted g before.notes now.notes before.disk now.disk row.commands result

-- The same of a row that takes no memory.
pub record TakesAtOnce {D S : Type 0} (g : Ghosts D) (row : Row S) (before now : WithNotes S D) (replies : List ℕ)
    (result : Result (Option Ending) Halt) : Type 0 where
  pub takes : TakesRow g row before now replies result
  pub memory : ¬ IsErrOf result stop.OutOfMemory

-- what makes no commands and may find no memory
abbrev pub AnswersAlone : {S : Type 0} → Row S → S → S → List ℕ → Result (Option Ending) OutOfMemory → Type 0
AnswersAlone row before now replies (Ok ending) = Gives row now replies ending
AnswersAlone row before now replies (Err refused) = (now ≡ before) × (replies ≡ [])

-- the same for a job, whose ending is part of it
abbrev pub JobAnswers : Row Work → JobState → JobState → List ℕ → Result ⊤ Halt → Type 0
JobAnswers row before now replies (Ok done) = Gives row now.work replies now.ending
JobAnswers row before now replies (Err why) = (now ≡ before) × (replies ≡ [])

-- there was no memory, and the job takes some
abbrev pub StopsAt : {T : Type 0} → Work → Result T Halt → Type 0
StopsAt doing (Ok done) = ⊤
StopsAt doing (Err stop.Disk) = ⊤
StopsAt doing (Err stop.OutOfMemory) = IsTrue (takes_memory doing)

-- the row of a packet over the notes that go with a job
abbrev pub row_over : {D : Type 0} → WithNotes JobState D → Item → Row Work
row_over before item = job_row before.notes.lists before.state item

-- A job takes a packet, malformed or not: its row of the table.
pub record TakesPacket {D : Type 0} (g : Ghosts D) (item : Item) (before now : WithNotes JobState D)
    (replies : List ℕ) (result : Result ⊤ Halt) : Type 0 where
  pub answers : JobAnswers (row_over before item) before.state now.state replies result
  pub noted : HasNoted g before.notes now.notes before.disk now.disk (row_over before item).commands result
  pub stops : StopsAt before.state.work result
