-- The course of a session's server: which packets it takes, and what it says and does by them.
use Rattle.std.specs.Prelude.{◌≡◌, ◌≢◌, ◌⊎◌, ℕ, ◌+◌, List, [], ◌∷◌, ◌++◌, length, Bool, true, false}
use Rattle.std.specs.Prelude.{Option, None, Some, ⊤}
use Rattle.px_base.specs.CallSign.{CallSign}
use Rattle.px_base.specs.Octets.{IsFront, IsOctets}
use Rattle.disk_model.specs.declared.disk.Disk.{Ghosts}
use Rattle.ftl0_packets.specs.Items.{texts}
use Rattle.ftl0_packets.specs.Layout.{PacketValue}
use Rattle.ftl0_session.specs.Lists.Lists.{CallerList}
use Rattle.file_store.specs.Command.{Command}
use Rattle.file_store.specs.State.{IsKnown, IsReady, store_in, store_on}
use Rattle.file_store.specs.Working.{CutsOffAmongReads, DoesAmongReads, PutsAmongReads}
use Rattle.ftl0_session.specs.Uploads.Events.{Event}
use Rattle.ftl0_session.specs.Run.{Event as MetEvent, Session, event_row}
use Rattle.ftl0_session.specs.Answering.{IsAnswering, met_with, octets_left}
use Rattle.ftl0_session.specs.Downloads.Sending.{is_due}
use Rattle.ftl0_session.specs.Table.{Row, State, download_part, failed_reads_told, fault_reply}
use Rattle.turn_loop.specs.Course.{AtDisk, Course, at}
use Rattle.turn_loop.specs.Inputs.{Input, octets_in}
use Rattle.disk_model.specs.declared.halt.Halt.{Halt}
use Rattle.disk_model.specs.declared.halt.Halt.TheVariants as halt
use Rattle.turn_loop.specs.declared.stop.NodeStop.{NodeStop}
use Rattle.turn_loop.specs.declared.stop.NodeStop.TheVariants as stop
use Rattle.server_node.specs.Sessions.Packets.{Hears, events_to}
use Rattle.server_node.specs.Sessions.Running.{session_steps}
use Rattle.server_node.specs.Steps.{RunsOn, Service, StopsOn}
use Rattle.server_node.specs.Sessions.ServerState.{ServerState}

-- the server, with how much it has still to say: of the replies, and of what is due behind them
abbrev pub most_left : ServerState → ℕ
most_left server = length server.replies + octets_left (store_in server.store) (download_part server.state)

-- nothing is due in this state
abbrev pub NoneDue : State → Type 0
NoneDue state = is_due (download_part state) ≡ false

-- Its store is ready, it goes on, and it has nothing to say.
pub record AwaitsInput {D : Type 0} (g : Ghosts D) (now : AtDisk ServerState D) : Type 0 where
  pub up : IsReady g now.it.store now.disk
  pub goes_on : now.it.halted ≡ false
  pub silent : now.it.replies ≡ []
  pub none_due : NoneDue now.it.state

-- its session, over the store on its disk
abbrev pub session_in : {D : Type 0} → Ghosts D → AtDisk ServerState D → Session
session_in g now =
    record { store = store_on g now.it.store now.disk; lists = now.it.lists; state = now.it.state }

-- how a session's server of this caller serves packets on a disk
abbrev pub session_service : {D : Type 0} → Ghosts D → CallSign → Service ServerState Session Event D
session_service g caller =
    record {
      disk = g;
      steps = session_steps caller;
      store = λ it. it.store;
      stands = λ now session. session ≡ session_in g now;
    }

-- It went over the packets that these inputs bring, behind what it had to say at the start, and all was said. Where it
-- is known what octets the files have, what was said and done is what the table gives.
pub record GoesOver {D : Type 0} (g : Ghosts D) (old : AtDisk ServerState D) (inputs : List Input) (text : List ℕ)
    (new : AtDisk ServerState D) : Type 0 where
  pub hears : Hears old.it inputs new.it
  pub silent : new.it.replies ≡ []
  pub replies : List ℕ
  pub text_is : text ≡ old.it.replies ++ replies
  pub runs : RunsOn (session_service g old.it.caller) old new (events_to old.it inputs) replies

-- ---- what it has still to say

-- the row of an event's packet
abbrev pub IsRowOf : {D : Type 0} → Ghosts D → AtDisk ServerState D → MetEvent → Row → Type 0
IsRowOf g old met row =
    event_row old.it.caller (store_on g old.it.store old.disk) old.it.lists old.it.state met ≡ row

-- No packet was taken, and nothing more is said than at the start; or one was, where nothing else was to be said.
abbrev pub TakesAtMostOne : ServerState → ServerState → List Event → List ℕ → Type 0
TakesAtMostOne old new [] replies = (replies ≡ []) × NoneDue new.state
TakesAtMostOne old new (event ∷ others) replies = (others ≡ []) × (old.replies ≡ [])

-- the same, and this is the answer to the packet so far
abbrev pub IsAnswered :
    {D : Type 0} → Ghosts D → AtDisk ServerState D → List CallerList → State → List Event → List PacketValue
    → List Command → Type 0
IsAnswered g old lists state [] said commands =
    (said ≡ []) × (commands ≡ []) × (lists ≡ old.it.lists) × (state ≡ old.it.state)
IsAnswered g old lists state (event ∷ others) said commands =
    IsAnswering old.it.caller (session_in g old) event said commands lists state

-- This is the text of the answer so far to the packet that was taken, if one was, and its commands are done.
pub record Answers {D : Type 0} (g : Ghosts D) (old new : AtDisk ServerState D) (events : List Event)
    (replies : List ℕ) : Type 0 where
  pub said : List PacketValue
  pub replies_are : replies ≡ texts said
  pub commands : List Command
  pub answered : IsAnswered g old new.it.lists new.it.state events said commands
  pub does : DoesAmongReads g ⊥ (failed_reads_told said) old.it.store new.it.store old.disk new.disk commands

-- It took the packet that these inputs bring, if they bring one. This is the text of what it had to say at the start
-- and of the answer so far; maybe more is due behind it. The answer is the table's where it is known what octets the
-- files have.
pub record IsUnderWay {D : Type 0} (g : Ghosts D) (old : AtDisk ServerState D) (inputs : List Input) (text : List ℕ)
    (new : AtDisk ServerState D) : Type 0 where
  pub hears : Hears old.it inputs new.it
  pub goes_on : new.it.halted ≡ false
  pub ready : IsReady g new.it.store new.disk
  pub replies : List ℕ
  pub text_is : text ≡ old.it.replies ++ replies
  pub one : TakesAtMostOne old.it new.it (events_to old.it inputs) replies
  pub puts : PutsAmongReads g ⊥ old.disk new.disk
  pub answers : IsKnown g old.disk → Answers g old new (events_to old.it inputs) replies

-- It halted at this event by its row of the table: the disk failed in one of the row's commands.
pub record HaltsAt {D : Type 0} (g : Ghosts D) (old : AtDisk ServerState D) (event : Event)
    (new : AtDisk ServerState D) : Type 0 where
  pub parts : List ℕ
  pub row : Row
  pub is_row : IsRowOf g old (met_with event parts) row
  pub cuts :
      CutsOffAmongReads g ⊤ (failed_reads_told row.replies) (at old.it.store old.disk) (at new.it.store new.disk) []
      row.commands

-- It halted at the packet that these inputs bring, where the disk failed, of whose answer this is the text.
pub record IsHalting {D : Type 0} (g : Ghosts D) (old : AtDisk ServerState D) (inputs : List Input) (why : Halt)
    (text : List ℕ) (new : AtDisk ServerState D) : Type 0 where
  pub are_octets : IsOctets (octets_in inputs)
  pub by : why ≡ halt.Disk
  pub halted : new.it.halted ≡ true
  pub silent : old.it.replies ≡ []
  pub event : Event
  pub only : events_to old.it inputs ≡ event ∷ []
  pub text_is : text ≡ texts (fault_reply old.it.state ∷ [])
  pub puts : PutsAmongReads g ⊤ old.disk new.disk
  pub halts : IsKnown g old.disk → HaltsAt g old event new

-- the server at its disk, with nothing to say but what is due
abbrev pub silenced : {D : Type 0} → AtDisk ServerState D → AtDisk ServerState D
silenced now = at (record (now.it) { replies = [] }) now.disk

-- with this whole text it goes on, or it halts
abbrev pub OwesAll :
    {D : Type 0} → Ghosts D → AtDisk ServerState D → List Input → Option Halt → List ℕ → AtDisk ServerState D → Type 0
OwesAll g old inputs None text new = IsUnderWay g old inputs text new
OwesAll g old inputs (Some why) text new = IsHalting g old inputs why text new

-- the same, where this was said of that text, and the rest is still to be said
abbrev pub Owes :
    {D : Type 0} → Ghosts D → AtDisk ServerState D → List Input → Option Halt → List ℕ → AtDisk ServerState D → Type 0
Owes g old inputs why text new = OwesAll g old inputs why (text ++ new.it.replies) (silenced new)

-- ---- how it stops

-- What it had to say at the start couldn't be said whole, and no packet was taken.
pub record IsUnsaidFirst {D : Type 0} (g : Ghosts D) (old : AtDisk ServerState D) (why : NodeStop) (text : List ℕ)
    (new : AtDisk ServerState D) : Type 0 where
  pub some : old.it.replies ≢ []
  pub front : IsFront text old.it.replies
  pub why_is : why ≡ stop.AirWrite
  pub puts : PutsAmongReads g ⊥ old.disk new.disk
  pub does : IsKnown g old.disk → DoesAmongReads g ⊥ 0 old.it.store new.it.store old.disk new.disk []

-- It stopped at one of the packets that these inputs bring, behind what it had to say at the start; at its row of the
-- table where it is known what octets the files have.
pub record IsStopped {D : Type 0} (g : Ghosts D) (old : AtDisk ServerState D) (inputs : List Input) (why : NodeStop)
    (unsaid : Bool) (text : List ℕ) (new : AtDisk ServerState D) : Type 0 where
  pub some : events_to old.it inputs ≢ []
  pub replies : List ℕ
  pub text_is : text ≡ old.it.replies ++ replies
  pub stops : StopsOn (session_service g old.it.caller) old new (events_to old.it inputs) why unsaid replies

-- Either of the two.
pub record HaltsOver {D : Type 0} (g : Ghosts D) (old : AtDisk ServerState D) (inputs : List Input) (why : NodeStop)
    (unsaid : Bool) (text : List ℕ) (new : AtDisk ServerState D) : Type 0 where
  pub are_octets : IsOctets (octets_in inputs)
  pub stops : IsUnsaidFirst g old why text new ⊎ IsStopped g old inputs why unsaid text new

-- the course of a session's server
abbrev pub session_course : {D : Type 0} → Ghosts D → Course ServerState D Input
session_course g =
    record {
      is_fit = λ now. AwaitsInput g now;
      goes = λ old inputs text new. GoesOver g old inputs text new;
      owes = λ old inputs why text new. Owes g old inputs why text new;
      halts = λ old inputs why unsaid text new. HaltsOver g old inputs why unsaid text new;
      most = most_left;
      is_over = λ it. false;
    }
