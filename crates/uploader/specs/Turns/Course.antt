-- The course of a client's station: over which events it comes from where to where, what it says, and how it stops.
use Rattle.std.specs.Prelude.{◌≡◌, ◌≢◌, ℕ, List, [], ◌++◌, Bool, true, false, Option, None, Some, IsErrOf, Err}
use Rattle.px_base.specs.Octets.{IsFront}
use Rattle.disk_model.specs.declared.disk.Disk.{Ghosts}
use Rattle.ax25_frames.specs.FrameText.{FrameValue}
use Rattle.client_notes.specs.Command.{NotesCommand}
use Rattle.client_notes.specs.Several.{CutsOff, DoesSeveral}
use Rattle.turn_loop.specs.Course.{AtDisk, Course, stop_of}
use Rattle.turn_loop.specs.Events.{NodeEvent}
use Rattle.turn_loop.specs.declared.finished.Finished.{Finished}
use Rattle.disk_model.specs.declared.halt.Halt.{Halt}
use Rattle.turn_loop.specs.declared.stop.NodeStop.{NodeStop}
use Rattle.turn_loop.specs.declared.stop.NodeStop.TheVariants as stop
use Rattle.ftl0_client.specs.Client.{Client, ClientEvent, IsSilent}
use Rattle.ftl0_client.specs.ClientState.{ClientState, IsClient, MayHear, client_closed, client_most, client_pending}
use Rattle.ftl0_client.specs.ClientState.{listing_in, outcome_in}
use Rattle.ftl0_client.specs.ClientStep.{Empties}
use Rattle.ftl0_client.specs.Going.{GoesOver}
use Rattle.ftl0_client.specs.JobState.{IsNew, NotesGoWith}
use Rattle.ftl0_client.specs.Outcomes.{outcome_by}
use Rattle.ftl0_client.specs.Table.{JobState}
use Rattle.ftl0_client.specs.Outcome.{Outcome}
use Rattle.uploader.specs.Turns.Came.{CameWith, TellsOf}
use Rattle.uploader.specs.Turns.Carried.{asked_first}
use Rattle.uploader.specs.Turns.Carrying.{StopsBehind, text_of}
use Rattle.uploader.specs.declared.turns.station.ClientStation.{ClientStation}

-- What went before: a client that stood for the base, and its disk; the job that it was asked for, the events that
-- its node then brought, and the text that was said. A stop is behind those events that are whole.
pub record Past (D : Type 0) : Type 0 where
  pub client : ClientState
  pub disk : D
  pub base : Client
  pub job : JobState
  pub whole : List ClientEvent
  pub events : List NodeEvent
  pub text : List ℕ

-- the events of a client that was asked and heard so much
abbrev pub all_events : {D : Type 0} → Past D → List ClientEvent
all_events past = asked_first past.job past.events

-- the same with further events, and with more said
abbrev pub further : {D : Type 0} → Past D → List NodeEvent → List ℕ → Past D
further past events text = record past { events = past.events ++ events; text = past.text ++ text }

-- Over these events the base sent these frames so far, noted these commands, and is this one now. Once it has sent
-- what is left it has gone over them; where a put of what is left fails, it stops there, behind the whole ones.
pub record Owes (whole : List ClientEvent) (base : Client) (events : List ClientEvent) (frames : List FrameValue)
    (commands : List NotesCommand) (now : Client) : Type 0 where
  pub between : List ClientEvent
  pub in_order : events ≡ whole ++ between
  pub goes_on :
      (rest : List FrameValue) (last : Client) → Empties now rest last
      → GoesOver base events (frames ++ rest) commands last
  pub cut_off :
      (rest : List FrameValue) (last : Client) (text : List ℕ) → Empties now rest last → rest ≢ []
      → IsFront text (text_of rest)
      → StopsBehind whole base events stop.AirWrite (outcome_by last.attempt) (text_of frames ++ text) commands []

-- The station is what came of that: it may have still to send of what the events bring; their commands are noted on
-- the disk.
pub record CameOf {D : Type 0} (g : Ghosts D) (past : Past D) (a : AtDisk ClientStation D) : Type 0 where
  pub just : IsNew past.job
  pub go_with : NotesGoWith past.base.lists past.job
  pub frames : List FrameValue
  pub commands : List NotesCommand
  pub now : Client
  pub owes : Owes past.whole past.base (all_events past) frames commands now
  pub text_is : past.text ≡ text_of frames
  pub is : IsClient a.it.client now
  pub does : DoesSeveral g ⊥ past.client.notes a.it.client.notes past.disk a.disk commands

-- what it came to behind some of these events, the first at least
abbrev pub CameToSome : ClientState → Client → List ClientEvent → Option Outcome → Type 0
CameToSome new base events reached =
    (came : CameWith base events (listing_in new.attempt) reached) × (came.some ≢ []) × TellsOf new came.now

-- It stopped at one of those events, behind those that are whole, and this had become of the job.
pub record StoppedAt {D : Type 0} (g : Ghosts D) (past : Past D) (why : NodeStop) (a : AtDisk ClientStation D)
    : Type 0 where
  pub done : List NotesCommand
  pub cut : List NotesCommand
  pub reached : Option Outcome
  pub stops : StopsBehind past.whole past.base (all_events past) why reached past.text done cut
  pub cuts :
      CutsOff g (IsErrOf {T = Finished} (Err why) stop.Disk) past.client.notes a.it.client.notes past.disk a.disk done
      cut
  pub tells : outcome_in a.it.client.attempt ≡ reached
  pub came : reached ≢ None → CameToSome a.it.client past.base (all_events past) reached

-- Nothing is to be sent, whichever client it stands for.
pub record IsQuiet (self : ClientState) : Type 0 where
  pub quiet : client_pending self ≡ false
  pub silent : (client : Client) → IsClient self client → IsSilent client

-- The station may hear a frame, and has nothing to send.
pub record IsFit {D : Type 0} (g : Ghosts D) (a : AtDisk ClientStation D) : Type 0 where
  pub awake : a.it.halted ≡ false
  pub may : MayHear g a.it.client a.disk
  pub nothing : IsQuiet a.it.client

-- It took these events and may have still to send; or it halted at one of them, and sends nothing more.
abbrev pub OwesBy :
    {D : Type 0} → Ghosts D → AtDisk ClientStation D → List NodeEvent → Option Halt → List ℕ → AtDisk ClientStation D
    → Type 0
OwesBy {D} g old events None said new =
    (new.it.halted ≡ false) × MayHear g new.it.client new.disk
    × ((past : Past D) → CameOf g past old → CameOf g (further past events said) new)
OwesBy {D} g old events (Some why) said new =
    (new.it.halted ≡ true)
    × ((past : Past D) → CameOf g past old → StoppedAt g (further past events said) (stop_of why) new)

-- It stopped at one of these events; a put failed only where that is why.
abbrev pub HaltsBy :
    {D : Type 0} → Ghosts D → AtDisk ClientStation D → List NodeEvent → NodeStop → Bool → List ℕ
    → AtDisk ClientStation D → Type 0
HaltsBy {D} g old events why unsaid text new =
    (unsaid ≡ true → why ≡ stop.AirWrite)
    × ((past : Past D) → CameOf g past old → StoppedAt g (further past events text) why new)

-- the course of a client's station: it came of whatever went before, and of these events
abbrev pub client_course : {D : Type 0} → Ghosts D → Course ClientStation D NodeEvent
client_course {D} g =
    record {
      is_fit = λ a. IsFit g a;
      goes = λ old events text new.
          IsQuiet new.it.client × ((past : Past D) → CameOf g past old → CameOf g (further past events text) new);
      owes = λ old events why said new. OwesBy g old events why said new;
      halts = λ old events why unsaid text new. HaltsBy g old events why unsaid text new;
      most = λ it. client_most it.client;
      is_over = λ it. client_closed it.client;
    }
