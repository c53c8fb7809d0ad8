-- What a client says over its turns, what it does to its disk, why the turns end, and what the answer is.
use Rattle.std.specs.Prelude.{◌≡◌, ◌≢◌, ℕ, ◌≤◌, List, [], ◌∷◌, ◌++◌, length, map, true, false}
use Rattle.std.specs.Prelude.{Option, None, Result, Ok, Err, IsErrOf}
use Rattle.px_base.specs.Octets.{IsFront}
use Rattle.px_base.specs.Outside.{Gains, Grows, Rose}
use Rattle.px_base.specs.Polling.{HearsAll, IsButLast}
use Rattle.px_base.specs.declared.air.Turn.{Turn}
use Rattle.disk_model.specs.declared.disk.Disk.{Ghosts}
use Rattle.ax25_frames.specs.FrameText.{FrameValue}
use Rattle.client_notes.specs.Command.{NotesCommand}
use Rattle.client_notes.specs.Notes.{Lists}
use Rattle.client_notes.specs.State.{IsReady}
use Rattle.client_notes.specs.Several.{CutsOff}
use Rattle.turn_loop.specs.Events.{NodeEvent, NodeEvents}
use Rattle.turn_loop.specs.Lent.{Seen}
use Rattle.turn_loop.specs.Turns.{LentParty, TurnsBy}
use Rattle.turn_loop.specs.declared.finished.Finished.{Finished}
use Rattle.turn_loop.specs.declared.finished.Finished.TheVariants as finished
use Rattle.turn_loop.specs.declared.stop.NodeStop.{NodeStop}
use Rattle.turn_loop.specs.declared.stop.NodeStop.TheVariants as stop
use Rattle.ftl0_client.specs.Table.{JobState}
use Rattle.ftl0_client.specs.Client.{Client, ClientEvent, asks}
use Rattle.ftl0_client.specs.ClientState.{ClientState, IsFree, IsOwn, client_pending, listing_in}
use Rattle.ftl0_client.specs.JobState.{IsNew, NotesGoWith}
use Rattle.ftl0_client.specs.Going.{GoesOver, Promises, is_over}
use Rattle.ftl0_client.specs.Outcome.{Outcome}
use Rattle.uploader.specs.Stops.{answer_of}
use Rattle.uploader.specs.Turns.Came.{CameWith}
use Rattle.uploader.specs.Turns.Carrying.{StopsBehind, TakesAll, event_of, text_of}
use Rattle.uploader.specs.declared.stop.SendStop.{SendStop}

-- What a client needs for its turns: its notes are ready, and nothing is to be sent.
pub record MayCarryOut {D : Type 0} (g : Ghosts D) (self : ClientState) (disk : D) : Type 0 where
  pub ready : IsReady g self.notes disk
  pub quiet : client_pending self ≡ false

-- What a client needs to be asked for this job: nothing is under way, and the job was just made, goes with the notes,
-- and is one of this client.
pub record MayBeAsked (self : ClientState) (job : JobState) : Type 0 where
  pub free : IsFree self
  pub new : IsNew job
  pub go_with : NotesGoWith self.notes.lists job
  pub own : IsOwn self job.work

-- A client's turns: what was heard at which moments and how they ended, the text that was said, what became of the job,
-- if anything did, and which commands were noted, then those in one of which the disk failed, if it did.
pub record Run : Type 0 where
  pub turns : List Turn
  pub moments : List ℕ
  pub ended : Result Finished NodeStop
  pub text : List ℕ
  pub reached : Option Outcome
  pub done : List NotesCommand
  pub cut : List NotesCommand

-- What was said to these events, which commands were noted, and what became of the job, by how the turns ended: all of
-- them were taken where the client was closed, or isn't though the end of the air was read, a poll failed, or as many
-- polls were made as may be; else those up to a stop behind the least of them.
abbrev pub EndsOver :
    Result Finished NodeStop → List ClientEvent → Client → List ClientEvent → Option Outcome → List ℕ
    → List NotesCommand → List NotesCommand → Type 0
EndsOver (Ok (finished.Over count)) least client events reached text done cut =
    TakesAll client events true reached text done cut
EndsOver (Ok (finished.Closed count)) least client events reached text done cut =
    TakesAll client events false reached text done cut
EndsOver (Err stop.AirRead) least client events reached text done cut =
    TakesAll client events false reached text done cut
EndsOver (Err stop.Spent) least client events reached text done cut =
    TakesAll client events false reached text done cut
EndsOver (Err stop.AirWrite) least client events reached text done cut =
    StopsBehind least client events stop.AirWrite reached text done cut
EndsOver (Err stop.Disk) least client events reached text done cut =
    StopsBehind least client events stop.Disk reached text done cut
EndsOver (Err stop.OutOfMemory) least client events reached text done cut =
    StopsBehind least client events stop.OutOfMemory reached text done cut
EndsOver (Err (stop.NotAStore found)) least client events reached text done cut = ⊥
EndsOver (Err (stop.Damaged at)) least client events reached text done cut = ⊥

-- the events of a client's run: what is asked comes first, and then what its turns bring
abbrev pub asked_first : JobState → List NodeEvent → List ClientEvent
asked_first job events = asks job ∷ map event_of events

-- those before the last turn: what is asked, and what the earlier turns bring; none where there is no turn
abbrev pub before_last : List Turn → JobState → List NodeEvent → List ClientEvent
before_last [] job events = []
before_last (next ∷ turns) job events = asked_first job events

-- Before each of these turns the client wasn't over, after what is asked and what the turns before it bring; what it
-- had said by then is a front of this text.
abbrev pub IsOpenBeforeEach : Client → JobState → List ℕ → List Turn → List ℕ → Type 0
IsOpenBeforeEach base job moments turns text =
    (earlier : List Turn) (next : Turn) (later : List Turn) (before behind : List ℕ) (events : List NodeEvent)
    (frames : List FrameValue) (commands : List NotesCommand) (client : Client)
    → turns ≡ earlier ++ next ∷ later → moments ≡ before ++ behind → length before ≡ length earlier
    → NodeEvents base.me earlier before events → GoesOver base (asked_first job events) frames commands client
    → (is_over client ≡ false) × IsFront (text_of frames) text

-- A client that was asked for a job took these turns, of which there are at most so many: this was said and noted, they
-- ended so, and this became of the job. Nothing was heard after what ended them: a stop is at an event that only the
-- last turn brings, behind all those that the others bring, or there is no turn, and it is at the asking.
pub record ClientRan (base : Client) (job : JobState) (polls : ℕ) (run : Run) : Type 0 where
  pub one_each : length run.moments ≡ length run.turns
  pub events : List NodeEvent
  pub brings : NodeEvents base.me run.turns run.moments events
  pub bound : length run.turns ≤ polls
  pub ends : TurnsBy run.ended polls run.turns
  pub open_before : IsOpenBeforeEach base job run.moments run.turns run.text
  pub earlier : List Turn
  pub but_last : IsButLast run.turns earlier
  pub earlier_moments : List ℕ
  pub later_moments : List ℕ
  pub split : run.moments ≡ earlier_moments ++ later_moments
  pub least : List NodeEvent
  pub brought : NodeEvents base.me earlier earlier_moments least
  pub ends_over :
      EndsOver run.ended (before_last run.turns job least) base (asked_first job events) run.reached run.text run.done
      run.cut

-- A count of faults rose where that failed, and stands as it stood where it didn't.
pub record CountsWhere (before now : ℕ) (failed : Type 0) : Type 0 where
  pub rose : failed → Rose before now
  pub same : ¬ failed → now ≡ before

-- Over a run this was heard, given and said. Where hearing or saying failed the air's count of such faults rose, and
-- each other is as it was.
pub record TakesAir {A C D : Type 0} (see : Seen D A C) (air air_now : A) (clock clock_now : C) (run : Run)
    : Type 0 where
  pub turns_heard : HearsAll (see.air.heard air) (see.air.heard air_now) run.turns
  pub moments_given : Grows (see.given clock) (see.given clock_now) run.moments
  pub text_said : Gains (see.air.said air) (see.air.said air_now) run.text
  pub reads : CountsWhere (see.air.read_faults air) (see.air.read_faults air_now) (IsErrOf run.ended stop.AirRead)
  pub writes : CountsWhere (see.air.write_faults air) (see.air.write_faults air_now) (IsErrOf run.ended stop.AirWrite)

-- What a run of these events comes to: once something became of the job, this list came, and what the outcome promises
-- stands of these notes. A client that was closed came so far.
pub record Became (base : Client) (job : JobState) (events : List NodeEvent) (listing : List ℕ) (lists : Lists)
    (run : Run) : Type 0 where
  pub over : (count : ℕ) → run.ended ≡ Ok (finished.Over count) → run.reached ≢ None
  pub came : run.reached ≢ None → CameWith base (asked_first job events) listing run.reached
  pub promises : run.reached ≢ None → Promises lists job.work listing run.reached

-- A client that stands for this one was asked for a job, and took turns: what was heard, given and said, what was
-- noted, why the turns ended, what became of the job, and what a command makes of that.
pub record CarriesOut {A C D : Type 0} (see : Seen D A C) (old new : LentParty ClientState D A C) (job : JobState)
    (polls : ℕ) (base : Client) (result : Result Outcome SendStop) : Type 0 where
  pub run : Run
  pub answer : result ≡ answer_of run.ended run.reached
  pub air : TakesAir see old.air new.air old.clock new.clock run
  pub ran : ClientRan base job polls run
  pub cuts :
      CutsOff see.disk (IsErrOf run.ended stop.Disk) old.party.notes new.party.notes old.disk new.disk run.done run.cut
  pub became : Became base job ran.events (listing_in new.party.attempt) new.party.notes.lists run
