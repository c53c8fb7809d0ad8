-- What the definition makes of a job over all that was heard, and that a command comes to exactly that.
use Rattle.std.specs.Prelude.{◌≡◌, ◌⊎◌, ℕ, List, ◌++◌, Bool, true, false, Option, None, Some, Result, Ok, Err}
use Rattle.px_base.specs.declared.air.Turn.{Turn}
use Rattle.ax25_frames.specs.FrameText.{FrameValue}
use Rattle.turn_loop.specs.Events.{NodeEvent, NodeEvents}
use Rattle.turn_loop.specs.Lent.{Lent, Seen}
use Rattle.turn_loop.specs.Turns.{TurnsBy}
use Rattle.turn_loop.specs.declared.finished.Finished.{Finished}
use Rattle.turn_loop.specs.declared.finished.Finished.TheVariants as finished
use Rattle.turn_loop.specs.declared.stop.NodeStop.{NodeStop}
use Rattle.turn_loop.specs.declared.stop.NodeStop.TheVariants as node
use Rattle.client_notes.specs.Command.{NotesCommand}
use Rattle.ftl0_client.specs.Table.{JobState}
use Rattle.ftl0_client.specs.Client.{Client}
use Rattle.ftl0_client.specs.Going.{GoesOver}
use Rattle.ftl0_client.specs.Outcomes.{outcome_by}
use Rattle.ftl0_client.specs.Outcome.{Outcome}
use Rattle.uploader.specs.declared.stop.SendStop.{SendStop}
use Rattle.uploader.specs.declared.stop.SendStop.TheVariants as stop
use Rattle.uploader.specs.Carried.{Asked, Carries, client_of}
use Rattle.uploader.specs.Stops.{by_outcome, stop_of_turns}
use Rattle.uploader.specs.Turns.Carried.{asked_first}

-- The definition leads this client that is asked for this job to this outcome, over all that these turns bring at these
-- moments.
pub record LeadsTo (client : Client) (job : JobState) (turns : List Turn) (moments : List ℕ)
    (reached : Option Outcome) : Type 0 where
  pub events : List NodeEvent
  pub brings : NodeEvents client.me turns moments events
  pub frames : List FrameValue
  pub commands : List NotesCommand
  pub now : Client
  pub goes : GoesOver client (asked_first job events) frames commands now
  pub reached_is : outcome_by now.attempt ≡ reached

-- What is told of a command: what its air heard, and at which moments.
pub record IsToldOf {A C D : Type 0} (see : Seen D A C) (old new : Lent D A C) (turns : List Turn)
    (moments : List ℕ) : Type 0 where
  pub before : List Turn
  pub heard : see.air.heard old.air ≡ Some before
  pub heard_now : see.air.heard new.air ≡ Some (before ++ turns)
  pub earlier : List ℕ
  pub told : see.given old.clock ≡ Some earlier
  pub told_now : see.given new.clock ≡ Some (earlier ++ moments)

-- What is told leads the client that is asked, by the definition, to this outcome.
pub record IsLedTo {A C D : Type 0} (see : Seen D A C) (old new : Lent D A C) (asked : Asked) (turns : List Turn)
    (reached : Option Outcome) : Type 0 where
  pub moments : List ℕ
  pub told : IsToldOf see old new turns moments
  pub leads : LeadsTo (client_of asked) asked.job turns moments reached

-- whether the turns themselves end a command so: a poll failed, the end of the air was read, or as many polls were made
-- as may be
abbrev pub is_of_turns : Result Finished NodeStop → Bool
is_of_turns (Ok (finished.Over count)) = false
is_of_turns (Ok (finished.Closed count)) = true
is_of_turns (Err node.AirRead) = true
is_of_turns (Err node.Spent) = true
is_of_turns (Err node.AirWrite) = false
is_of_turns (Err node.Disk) = false
is_of_turns (Err node.OutOfMemory) = false
is_of_turns (Err (node.NotAStore found)) = false
is_of_turns (Err (node.Damaged at)) = false

-- Nothing became of the job, and the turns, of which there are at most so many, ended so.
pub record EndsWithTurns (polls : ℕ) (turns : List Turn) (reached : Option Outcome)
    (came : Result Outcome SendStop) : Type 0 where
  pub ended : Result Finished NodeStop
  pub of_turns : is_of_turns ended ≡ true
  pub working : reached ≡ None
  pub ends : TurnsBy ended polls turns
  pub came_is : came ≡ Err (stop_of_turns ended)

-- A put failed, or the disk did, or there was no memory.
abbrev pub IsCutShort : Result Outcome SendStop → Type 0
IsCutShort came = (came ≡ Err stop.AirWrite) ⊎ ((came ≡ Err stop.Disk) ⊎ (came ≡ Err stop.OutOfMemory))

-- What a command comes to, over these turns, of which there are at most so many, where the definition leads it to this
-- outcome: that, if something became of the job by it; else it ended with its turns. Or it was cut short.
abbrev pub ComesBy : ℕ → List Turn → Option Outcome → Result Outcome SendStop → Type 0
ComesBy polls turns reached came =
    ((some : Outcome) × (reached ≡ Some some) × (came ≡ by_outcome some))
    ⊎ (EndsWithTurns polls turns reached came ⊎ IsCutShort came)

-- A command that carried out a job comes to what the definition makes of it over what is told.
abbrev pub LedLaw : {A C D : Type 0} → Seen D A C → Type 0
LedLaw {A} {C} {D} see =
    (old new : Lent D A C) (asked : Asked) (came : Result Outcome SendStop) (turns : List Turn)
    (reached : Option Outcome) → Carries see old new asked came → IsLedTo see old new asked turns reached
    → ComesBy asked.terms.polls turns reached came
