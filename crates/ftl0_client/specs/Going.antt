-- How a client goes on over events, and what is true of it between them.
use Rattle.std.specs.Prelude.{◌≡◌, ◌≢◌, ℕ, List, [], ◌∷◌, ◌++◌, Bool, true, Option, None, Some, ⊤}
use Rattle.std.specs.List.{AllByRecursion}
use Rattle.ax25_frames.specs.FrameText.{FrameValue}
use Rattle.ax25_link.specs.declared.state.LinkState.TheVariants.{Down}
use Rattle.ax25_link.specs.Timer.{is_down}
use Rattle.client_notes.specs.Command.{NotesCommand}
use Rattle.client_notes.specs.Laws.{after_all}
use Rattle.client_notes.specs.Notes.{Lists}
use Rattle.ftl0_client_job.specs.declared.ending.Outcome.{Outcome}
use Rattle.ftl0_client_job.specs.declared.ending.Outcome.TheVariants.{LinkDown}
use Rattle.ftl0_client_job.specs.declared.work.Work.{Work}
use Rattle.ftl0_client_job.specs.JobState.{IsNew, NotesGoWith}
use Rattle.ftl0_client_job.specs.Promises.{EndPromises, IsFilled, IsOfSame, WorkPromises}
use Rattle.ftl0_client_job.specs.Table.{JobState, listing_of}
use Rattle.ftl0_client.specs.Attempt.Attempted.{Attempted, outcome_of}
use Rattle.ftl0_client.specs.Attempt.Laws.{IsToldDown}
use Rattle.ftl0_client.specs.Client.{Client, ClientEvent, asks, hears, ticks}
use Rattle.ftl0_client.specs.ClientStep.{ClientStep}
use Rattle.ftl0_client.specs.Outcomes.{outcome_by}

-- Over these events, one after another, the first client becomes the second: it sends these frames and notes these
-- commands.
abbrev pub GoesOver : Client → List ClientEvent → List FrameValue → List NotesCommand → Client → Type 0
GoesOver client [] frames commands now = (frames ≡ []) × (commands ≡ []) × (now ≡ client)
GoesOver client (event ∷ events) frames commands now =
    (noted : List NotesCommand) × (sent : List FrameValue) × (next : Client) × (others : List NotesCommand)
    × (more : List FrameValue) × ClientStep client event noted sent next
    × (frames ≡ sent ++ more) × (commands ≡ noted ++ others) × GoesOver next events more others now

-- the link of an attempt is down, or there is none yet
abbrev pub is_over_at : Option Attempted → Bool
is_over_at None = true
is_over_at (Some a) = is_down a.end.state

-- its link is down, or there is none yet: once it has sent all, it is done with the air
abbrev pub is_over : Client → Bool
is_over client = is_over_at client.attempt

-- a frame or a tick, and nothing that is asked
abbrev pub AsksNothing : ClientEvent → Type 0
AsksNothing (asks job) = ⊥
AsksNothing (hears frame) = ⊤
AsksNothing ticks = ⊤

-- What an outcome of this work promises, by the notes and the list that came: what its job does. What is under way, or
-- whose link went down, promises nothing.
abbrev pub Promises : Lists → Work → List ℕ → Option Outcome → Type 0
Promises lists asked listing None = ⊤
Promises lists asked listing (Some (LinkDown why)) = ⊤
Promises lists asked listing (Some reached) = WorkPromises lists asked listing reached

-- What is true of a client of which this work was asked, at the end of each event: its attempt is of the same work, and
-- the notes go with its job; its end of the link is down if it went down before an outcome, and only if something
-- became of what was asked; and what became of it keeps what it promises, as the outcome of its job does.
pub record Stands (asked : Work) (client : Client) : Type 0 where
  pub a : Attempted
  pub is_attempt : client.attempt ≡ Some a
  pub same : IsOfSame asked a.job.work
  pub go_with : NotesGoWith client.lists a.job
  pub filled : IsFilled a.job.work
  pub told_down : IsToldDown a
  pub down_told : a.end.state ≡ Down → outcome_of a ≢ None
  pub ended : EndPromises client.lists asked (listing_of a.job.work) a.job.ending
  pub promises : Promises client.lists asked (listing_of a.job.work) (outcome_by client.attempt)

-- What frames and ticks make of a client that was asked for a job.
pub record Comes (base : Client) (job : JobState) (commands : List NotesCommand) (now : Client) : Type 0 where
  pub lists : now.lists ≡ after_all base.lists commands
  pub stands : Stands job.work now
  pub over : is_over now ≡ true → outcome_by now.attempt ≢ None

-- Frames and ticks make this of a client that is asked for a job that was just made, over notes that go with it.
abbrev pub GoesLaw : Type 0
GoesLaw =
    (base : Client) (job : JobState) (events : List ClientEvent) (frames : List FrameValue)
    (commands : List NotesCommand) (now : Client) → IsNew job → NotesGoWith base.lists job
    → AllByRecursion AsksNothing events → GoesOver base (asks job ∷ events) frames commands now
    → Comes base job commands now

-- Once something became of what was asked nothing more is noted, and it stays, the link's going down included.
abbrev pub SettledLaw : Type 0
SettledLaw =
    (asked : Work) (old : Client) (events : List ClientEvent) (frames : List FrameValue)
    (commands : List NotesCommand) (now : Client) → Stands asked old → outcome_by old.attempt ≢ None
    → AllByRecursion AsksNothing events → GoesOver old events frames commands now
    → (commands ≡ []) × (outcome_by now.attempt ≡ outcome_by old.attempt)

-- What became of what was asked stays, once anything did, over all later frames and ticks, whatever the notes are.
abbrev pub StaysLaw : Type 0
StaysLaw =
    (base : Client) (job : JobState) (events others : List ClientEvent) (frames more : List FrameValue)
    (commands further : List NotesCommand) (mid now : Client)
    → AllByRecursion AsksNothing events → AllByRecursion AsksNothing others
    → GoesOver base (asks job ∷ events) frames commands mid → GoesOver mid others more further now
    → outcome_by mid.attempt ≢ None → outcome_by now.attempt ≡ outcome_by mid.attempt
