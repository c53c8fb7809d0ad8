-- Laws of a client's steps, and of what becomes of what is asked.
use Rattle.std.specs.Prelude.{◌≡◌, ◌≢◌, ℕ, List, Option, None, Some, ⊤}
use Rattle.std.specs.Option.{option_map}
use Rattle.ax25_frames.specs.FrameText.{FrameValue}
use Rattle.ax25_link.specs.declared.state.LinkState.TheVariants.{Down}
use Rattle.ax25_link.specs.Ends.{IsEnd, LinkEnd}
use Rattle.ax25_link.specs.Rows.{after_frame}
use Rattle.ax25_link.specs.Sending.{IsQuiet, Sending, next_sending}
use Rattle.ax25_link.specs.Window.{Window}
use Rattle.client_notes.specs.Command.{NotesCommand}
use Rattle.ftl0_client_job.specs.declared.ending.Outcome.TheVariants as outcome
use Rattle.ftl0_client_job.specs.declared.work.Work.TheVariants as work
use Rattle.ftl0_client_job.specs.Download.{Download}
use Rattle.ftl0_client_job.specs.JobState.{HasGot, HasTask}
use Rattle.ftl0_client_job.specs.Table.{new_job}
use Rattle.ftl0_client_job.specs.Upload.{Upload}
use Rattle.ftl0_client.specs.Attempt.Attempted.{Attempted}
use Rattle.ftl0_client.specs.Attempt.Laws.{AcknowledgesIn, IsFetchedBy, IsToldDown}
use Rattle.ftl0_client.specs.Client.{Client, ClientEvent, ClientSends, IsSilent, client_hearing, client_next}
use Rattle.ftl0_client.specs.Client.{client_ticking, hearing_stranger}
use Rattle.ftl0_client.specs.ClientStep.{ClientStep}
use Rattle.ftl0_client.specs.Outcomes.{outcome_by}

-- what a step gives
pub record SameStep (noted those_noted : List NotesCommand) (frames those : List FrameValue) (new that : Client)
    : Type 0 where
  pub commands : noted ≡ those_noted
  pub sent : frames ≡ those
  pub client : new ≡ that

-- An event has at most one step.
abbrev pub OneStepLaw : Type 0
OneStepLaw =
    (old : Client) (event : ClientEvent) (noted those_noted : List NotesCommand) (frames those : List FrameValue)
    (new that : Client)
    → ClientStep old event noted frames new → ClientStep old event those_noted those that
    → SameStep noted those_noted frames those new that

-- the end of the attempt's link, if there is one, is such as frames and ticks bring about
abbrev pub EndFits : Window → Option Attempted → Type 0
EndFits w None = ⊤
EndFits w (Some a) = IsEnd w a.end

-- The client has nothing to send, and the end of its link is such as frames and ticks bring about.
pub record MayStep (client : Client) : Type 0 where
  pub silent : IsSilent client
  pub fits : EndFits client.window client.attempt

-- A step of the client for this event, after which it may step again.
pub record HasStep (old : Client) (event : ClientEvent) : Type 0 where
  pub noted : List NotesCommand
  pub frames : List FrameValue
  pub new : Client
  pub step : ClientStep old event noted frames new
  pub may_step : MayStep new

-- Each event has a step.
abbrev pub SomeStepLaw : Type 0
SomeStepLaw = (old : Client) (event : ClientEvent) → MayStep old → HasStep old event

-- if it has it that the link went down before an outcome, the end of the attempt's link is down
abbrev pub IsToldDownOf : Option Attempted → Type 0
IsToldDownOf None = ⊤
IsToldDownOf (Some a) = IsToldDown a

-- what became of what was asked, if anything did, is what became of it then; and nothing was asked if nothing was
pub record KeepsOutcome (old new : Client) : Type 0 where
  pub down : IsToldDownOf new.attempt
  pub stays : outcome_by old.attempt ≢ None → outcome_by new.attempt ≡ outcome_by old.attempt
  pub idle : old.attempt ≡ None → new.attempt ≡ None

-- Once something became of what was asked, no frame and no tick changes it.
abbrev pub OutcomeLaw : Type 0
OutcomeLaw =
    (client : Client) (frame : FrameValue) → IsToldDownOf client.attempt
    → KeepsOutcome client (client_hearing client frame).after × KeepsOutcome client (client_ticking client)

-- The frame by which an upload of a task's file reaches the outcome that it was acknowledged has that noted.
abbrev pub AckedLaw : Type 0
AckedLaw =
    (client : Client) (frame : FrameValue) (a : Attempted) (at : Upload) (number : ℕ)
    → client.attempt ≡ Some a → a.job ≡ new_job (work.Upload at) → HasTask client.lists at
    → outcome_by (client_hearing client frame).after.attempt ≡ Some (outcome.Acked number)
    → AcknowledgesIn client.lists at.task number (client_hearing client frame).noted

-- The frame by which a download reaches the outcome that its file was fetched leaves the file noted, without fault.
abbrev pub FetchedLaw : Type 0
FetchedLaw =
    (client : Client) (frame : FrameValue) (a : Attempted) (at : Download) (number : ℕ)
    → client.attempt ≡ Some a → a.job ≡ new_job (work.Download at) → HasGot client.lists at
    → outcome_by (client_hearing client frame).after.attempt ≡ Some (outcome.Fetched number)
    → IsFetchedBy number client.lists at (client_hearing client frame).noted

-- A station with which there is no link hears what an end to it that is down would say.
abbrev pub StrangerLaw : Type 0
StrangerLaw =
    (client : Client) (frame : FrameValue) (w : Window) (end : LinkEnd)
    → end.state ≡ Down → end.me ≡ client.me → end.peer ≡ frame.src → IsQuiet w end → IsSilent client
    → option_map (λ (sends : ClientSends). sends.frame) (client_next (hearing_stranger client frame))
    ≡ option_map (λ (sending : Sending). sending.frame) (next_sending w (after_frame w end frame))
