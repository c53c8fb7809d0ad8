-- How a client goes on over the events of its node: which frames it says, and which commands it notes, up to a stop.
use Rattle.std.specs.Prelude.{◌≡◌, ◌≢◌, ℕ, List, [], ◌∷◌, ◌++◌, Bool, true, Option, None}
use Rattle.px_base.specs.Octets.{IsFront}
use Rattle.ax25_frames.specs.FrameText.{FrameValue}
use Rattle.client_notes.specs.Command.{NotesCommand}
use Rattle.turn_loop.specs.Events as node
use Rattle.turn_loop.specs.Events.{NodeEvent}
pub use Rattle.turn_loop.specs.Said.{text_of}
use Rattle.turn_loop.specs.declared.stop.NodeStop.{NodeStop}
use Rattle.turn_loop.specs.declared.stop.NodeStop.TheVariants as stop
use Rattle.ftl0_client.specs.Client.{Client, ClientEvent, asks, hears, ticks}
use Rattle.ftl0_client.specs.ClientStep.{ClientStep, happening}
use Rattle.ftl0_client.specs.Outcome.{Outcome}
use Rattle.ftl0_client.specs.Outcomes.{is_under_way, outcome_by}
use Rattle.ftl0_client.specs.Going.{GoesOver, is_over}

-- what an event of its node is to a client, which keeps no moments
abbrev pub event_of : NodeEvent → ClientEvent
event_of (node.hears frame moment) = hears frame
event_of (node.ticks moment) = ticks

-- This client may find no memory at this event, these commands of which are noted before: at the asking, before
-- anything is noted; and at a frame, where nothing had become of the job before it came. A tick takes no memory.
abbrev pub MayFindNoMemory : Client → ClientEvent → List NotesCommand → Type 0
MayFindNoMemory client (asks job) done = done ≡ []
MayFindNoMemory client (hears frame) done = is_under_way client.attempt ≡ true
MayFindNoMemory client ticks done = ⊥

-- A stop at this event: what had become of the job, what was said of the event's frames, which of its commands are
-- noted, and in which the disk failed. Where saying failed its commands are noted, and a front of its frames' text was
-- said. Where the disk failed, or there was no memory, nothing of it was said, and nothing had become of the job: of
-- its commands the first are noted, in others behind them the disk failed, and there may be more. There is no memory
-- only at an event that may find none.
abbrev pub StopsAt :
    NodeStop → Client → ClientEvent → Option Outcome → List ℕ → List NotesCommand → List NotesCommand → Type 0
StopsAt stop.AirWrite client event reached text done cut =
    (frames : List FrameValue) × (next : Client) × ClientStep client event done frames next
    × (frames ≢ []) × IsFront text (text_of frames) × (cut ≡ []) × (reached ≡ outcome_by next.attempt)
StopsAt stop.Disk client event reached text done cut =
    (behind : List NotesCommand) × ((happening client event).noted ≡ done ++ (cut ++ behind))
    × (cut ≢ []) × (text ≡ []) × (reached ≡ None)
StopsAt stop.OutOfMemory client event reached text done cut =
    (behind : List NotesCommand) × ((happening client event).noted ≡ done ++ behind)
    × MayFindNoMemory client event done × (text ≡ []) × (cut ≡ []) × (reached ≡ None)
StopsAt stop.AirRead client event reached text done cut = ⊥
StopsAt stop.Spent client event reached text done cut = ⊥
StopsAt (stop.NotAStore found) client event reached text done cut = ⊥
StopsAt (stop.Damaged at) client event reached text done cut = ⊥

-- The client stopped at one of these events. At none of those before it did it stop: all their frames were said and all
-- their commands noted; of those after it nothing was taken.
pub record StopsOver (client : Client) (events : List ClientEvent) (why : NodeStop) (reached : Option Outcome)
    (text : List ℕ) (done cut : List NotesCommand) : Type 0 where
  pub before : List ClientEvent
  pub next : ClientEvent
  pub later : List ClientEvent
  pub events_are : events ≡ before ++ next ∷ later
  pub frames : List FrameValue
  pub commands : List NotesCommand
  pub client_then : Client
  pub goes : GoesOver client before frames commands client_then
  pub last : List ℕ
  pub more : List NotesCommand
  pub stops : StopsAt why client_then next reached last more cut
  pub text_is : text ≡ text_of frames ++ last
  pub done_is : done ≡ commands ++ more

-- The same, where all of these events were taken before the stop.
pub record StopsBehind (least : List ClientEvent) (client : Client) (events : List ClientEvent) (why : NodeStop)
    (reached : Option Outcome) (text : List ℕ) (done cut : List NotesCommand) : Type 0 where
  pub stops : StopsOver client events why reached text done cut
  pub between : List ClientEvent
  pub in_order : stops.before ≡ least ++ between

-- All events were taken, all frames were said, and all commands noted. That became of the job then, and whether the
-- client is over is told.
abbrev pub TakesAll :
    Client → List ClientEvent → Bool → Option Outcome → List ℕ → List NotesCommand → List NotesCommand → Type 0
TakesAll client events over reached text done cut =
    (frames : List FrameValue) × (now : Client) × GoesOver client events frames done now
    × (text ≡ text_of frames) × (cut ≡ []) × (reached ≡ outcome_by now.attempt) × (is_over now ≡ over)
