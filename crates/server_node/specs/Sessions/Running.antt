-- How a session goes over events: what it says, and which commands of the store it does, up to a stop.
use Rattle.std.specs.Prelude.{◌≡◌, ◌≢◌, ℕ, List, [], ◌∷◌, ◌++◌, map, Bool, true, false}
use Rattle.px_base.specs.CallSign.{CallSign}
use Rattle.px_base.specs.Octets.{IsFront}
use Rattle.ftl0_packets.specs.Items.{texts}
use Rattle.ftl0_packets.specs.Layout.{PacketValue}
use Rattle.file_store.specs.Command.{Command, after_all}
use Rattle.file_store.specs.Store.{Store}
use Rattle.ftl0_session.specs.Uploads.Events.{Event}
use Rattle.ftl0_session.specs.Answering.{SendsSome}
use Rattle.ftl0_session.specs.Run.{Event as MetEvent, RunsOver, Session, event_row, heard_of}
use Rattle.ftl0_session.specs.Table.{Row, command, failed_reads_told, fault_reply}
use Rattle.turn_loop.specs.declared.stop.NodeStop.{NodeStop}
use Rattle.turn_loop.specs.declared.stop.NodeStop.TheVariants as stop
use Rattle.server_node.specs.Steps.{Made, Steps}

-- The text was said whole; or, where a put failed, a front of it was.
abbrev pub IsSaid : Bool → List ℕ → List ℕ → Type 0
IsSaid false reply text = text ≡ reply
IsSaid true reply text = IsFront text reply

-- before its first packet, over this store and no lists
abbrev pub first_session : Store → Session
first_session store = record { store = store; lists = []; state = command }

-- A stop at an event with this row of its packet: what was said and done at it, and the commands in one of which the
-- disk failed. Where saying failed, the commands are done, and a front of the replies and of what is due behind them
-- was said, of which there is some. Where the disk failed at a write or a sync, the one reply with code 3 was said, and
-- nothing is due behind it. It never stops for want of memory.
abbrev pub StopsAt : NodeStop → Bool → Session → MetEvent → Row → Made → List Command → Type 0
StopsAt stop.AirWrite unsaid now event row all cut =
    (sent : List PacketValue) × SendsSome (after_all now.store row.commands) row.state event.failures 1 sent
    × (texts (row.replies ++ sent) ≢ []) × IsFront all.text (texts (row.replies ++ sent)) × (all.done ≡ row.commands)
    × (all.missed ≡ failed_reads_told (row.replies ++ sent)) × (cut ≡ [])
StopsAt stop.Disk unsaid now event row all cut =
    IsSaid unsaid (texts (fault_reply now.state ∷ [])) all.text × (all.done ≡ [])
    × (all.missed ≡ failed_reads_told row.replies) × (cut ≡ row.commands)
StopsAt stop.OutOfMemory unsaid now event row all cut = ⊥
StopsAt stop.AirRead unsaid now event row all cut = ⊥
StopsAt stop.Spent unsaid now event row all cut = ⊥
StopsAt (stop.NotAStore found) unsaid now event row all cut = ⊥
StopsAt (stop.Damaged at) unsaid now event row all cut = ⊥

-- The session ran over these events, at some of which reads failed, or at none: all that the table gives was said, and
-- it tells of so many that failed.
pub record RunsAs (caller : CallSign) (start : Session) (events : List Event) (all : Made) (now : Session) :
    Type 0 where
  pub met : List MetEvent
  pub heard : map heard_of met ≡ events
  pub said : List PacketValue
  pub text_is : all.text ≡ texts said
  pub missed_is : all.missed ≡ failed_reads_told said
  pub runs : RunsOver caller start met said all.done now

-- The session stopped at this event, at some parts of which reads failed, or at none.
pub record StopsAs (caller : CallSign) (why : NodeStop) (unsaid : Bool) (now : Session) (event : Event) (all : Made)
    (cut : List Command) : Type 0 where
  pub met : MetEvent
  pub heard : heard_of met ≡ event
  pub stops : StopsAt why unsaid now met (event_row caller now.store now.lists now.state met) all cut

-- a session over its events
abbrev pub session_steps : CallSign → Steps Session Event
session_steps caller =
    record {
      goes = λ start events all now. RunsAs caller start events all now;
      stops = λ why unsaid now event all cut. StopsAs caller why unsaid now event all cut;
    }
