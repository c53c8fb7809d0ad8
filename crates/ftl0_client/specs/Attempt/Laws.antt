-- Laws of an attempt: what is due is queued, an outcome stays, and what was acknowledged is noted.
use Rattle.std.specs.Prelude.{◌≡◌, ◌⊎◌, ℕ, ◌≢◌, ◌<◌, ◌≤◌, List, [], ◌∷◌, ◌++◌, length, None, Some}
use Rattle.px_base.specs.CallSign.{CallSign}
use Rattle.ax25_frames.specs.FrameText.{FrameValue}
use Rattle.ax25_link.specs.declared.state.LinkState.TheVariants.{Up, Down}
use Rattle.ax25_link.specs.declared.state.Why.{Why}
use Rattle.ax25_link.specs.Ends.{free_octets}
use Rattle.ax25_link.specs.Window.{Window}
use Rattle.packet_link.specs.Queuing.{enough_free}
use Rattle.client_notes.specs.Command.{NotesCommand, acked}
use Rattle.ftl0_client_job.specs.Faults.{fault_code}
use Rattle.client_notes.specs.Laws.{AreAllowed, after_all}
use Rattle.client_notes.specs.Notes.{Lists, got_of}
use Rattle.client_notes.specs.Several.{MakesBetween}
use Rattle.ftl0_client_job.specs.declared.ending.Ending.{Ending}
use Rattle.ftl0_client_job.specs.declared.ending.Outcome.{Outcome}
use Rattle.ftl0_client_job.specs.declared.ending.Outcome.TheVariants as outcome
use Rattle.ftl0_client_job.specs.declared.work.Work.{Work}
use Rattle.ftl0_client_job.specs.declared.work.Work.TheVariants as work
use Rattle.ftl0_client_job.specs.Download.{Download}
use Rattle.ftl0_client_job.specs.Due.{next_due}
use Rattle.ftl0_client_job.specs.JobState.{HasGot, HasTask, IsNew, NotesGoWith}
use Rattle.ftl0_client_job.specs.Laws.{IsAckedIn}
use Rattle.ftl0_client_job.specs.Promises.{JobStands}
use Rattle.ftl0_client_job.specs.Table.{JobState, new_job}
use Rattle.ftl0_client_job.specs.Upload.{Upload}
use Rattle.ftl0_client.specs.Attempt.Attempted.{Attempted, calling, outcome_of}
use Rattle.ftl0_client.specs.Attempt.Hearing.{hearing, ticking}
use Rattle.ftl0_client.specs.Attempt.Settling.{settled}

-- nothing is due, or fewer octets are free than are needed
abbrev pub IsQueued : Attempted → Type 0
IsQueued a = (next_due a.job ≡ None) ⊎ (free_octets a.end < enough_free)

-- At the end of an event at which the link is up all that is due was queued, as far as there was room.
abbrev pub QueuedLaw : Type 0
QueuedLaw = (a : Attempted) → a.end.state ≡ Up → IsQueued (settled a)

-- Once a job has an outcome no frame and no tick changes it, and no command is noted.
abbrev pub StaysLaw : Type 0
StaysLaw =
    (w : Window) (lists : Lists) (a : Attempted) (frame : FrameValue) (ending : Ending) → a.job.ending ≡ Some ending
    → ((hearing w lists a frame).after.job ≡ a.job) × ((hearing w lists a frame).noted ≡ [])
    × ((ticking a).job ≡ a.job)

-- if an attempt has it that its link went down before an outcome, its end of the link is down
abbrev pub IsToldDown : Attempted → Type 0
IsToldDown a = (why : Why) → a.down ≡ Some why → a.end.state ≡ Down

-- what became of an attempt, if anything did, is what became of it then
abbrev pub StaysReached : Attempted → Attempted → Type 0
StaysReached before now = (reached : Outcome) → outcome_of before ≡ Some reached → outcome_of now ≡ Some reached

-- Once something became of an attempt, no frame and no tick changes it.
abbrev pub OutcomeLaw : Type 0
OutcomeLaw =
    (w : Window) (lists : Lists) (a : Attempted) (frame : FrameValue) → IsToldDown a
    → (IsToldDown (hearing w lists a frame).after × StaysReached a (hearing w lists a frame).after)
    × (IsToldDown (ticking a) × StaysReached a (ticking a))

-- These commands of an event note last that the task was acknowledged. In each image that stands for the notes after at
-- least all of them, whatever commands come later, it was, with this number.
pub record AcknowledgesIn (lists : Lists) (task number : ℕ) (noted : List NotesCommand) : Type 0 where
  pub before : List NotesCommand
  pub last : noted ≡ before ++ acked task ∷ []
  pub stands :
      (others : List NotesCommand) (least most : ℕ) (image : List ℕ) → AreAllowed lists (noted ++ others)
      → length noted ≤ least → MakesBetween least most lists (noted ++ others) image → IsAckedIn task number image

-- The frame by which an upload of a task's file reaches the outcome that it was acknowledged has that noted.
abbrev pub AckedLaw : Type 0
AckedLaw =
    (w : Window) (lists : Lists) (a : Attempted) (frame : FrameValue) (at : Upload) (number : ℕ)
    → a.job ≡ new_job (work.Upload at) → HasTask lists at
    → outcome_of (hearing w lists a frame).after ≡ Some (outcome.Acked number)
    → AcknowledgesIn lists at.task number (hearing w lists a frame).noted

-- the file has this number, and after these commands its octets are noted, and have no fault
abbrev pub IsFetchedBy : ℕ → Lists → Download → List NotesCommand → Type 0
IsFetchedBy number lists at noted =
    (number ≡ at.number) × (fault_code (got_of (after_all lists noted) at.server at.number) ≡ None)

-- The frame by which a download reaches the outcome that its file was fetched leaves the file noted, without fault.
abbrev pub FetchedLaw : Type 0
FetchedLaw =
    (w : Window) (lists : Lists) (a : Attempted) (frame : FrameValue) (at : Download) (number : ℕ)
    → a.job ≡ new_job (work.Download at) → HasGot lists at
    → outcome_of (hearing w lists a frame).after ≡ Some (outcome.Fetched number)
    → IsFetchedBy number lists at (hearing w lists a frame).noted

-- Once something became of an attempt, no frame has anything noted.
abbrev pub QuietLaw : Type 0
QuietLaw =
    (w : Window) (lists : Lists) (a : Attempted) (frame : FrameValue) → IsToldDown a → outcome_of a ≢ None
    → (hearing w lists a frame).noted ≡ []

-- What is true of an attempt of which this work was asked, over these notes, after each event: what is true of its job;
-- and its end of the link is down if it went down before an outcome, and only if something became of the attempt.
pub record AttemptStands (asked : Work) (lists : Lists) (a : Attempted) : Type 0 where
  pub job : JobStands asked lists a.job
  pub told_down : IsToldDown a
  pub down_told : a.end.state ≡ Down → outcome_of a ≢ None

-- It is true of an attempt that begins with a job that was just made, over notes that go with it.
abbrev pub CallingLaw : Type 0
CallingLaw =
    (me server : CallSign) (lists : Lists) (job : JobState) → IsNew job → NotesGoWith lists job
    → AttemptStands job.work lists (calling me server job)

-- If it is true before a frame or a tick, it is true after it.
abbrev pub StandsLaw : Type 0
StandsLaw =
    (asked : Work) (w : Window) (lists : Lists) (a : Attempted) (frame : FrameValue) → AttemptStands asked lists a
    → AttemptStands asked (after_all lists (hearing w lists a frame).noted) (hearing w lists a frame).after
    × AttemptStands asked lists (ticking a)
