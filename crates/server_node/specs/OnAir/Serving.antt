-- How a server goes on over the events of its node: which frames it says, and which commands of the store it does, up
-- to a stop.
use Rattle.std.specs.Prelude.{◌≡◌, ◌≢◌, ℕ, List, [], ◌++◌, Bool}
use Rattle.px_base.specs.Octets.{IsFront}
use Rattle.ax25_frames.specs.FrameText.{FrameValue}
use Rattle.file_store.specs.Command.{Command}
use Rattle.turn_loop.specs.Events.{NodeEvent}
pub use Rattle.turn_loop.specs.Said.{text_of}
use Rattle.turn_loop.specs.declared.stop.NodeStop.{NodeStop}
use Rattle.turn_loop.specs.declared.stop.NodeStop.TheVariants as stop
use Rattle.ftl0_server.specs.Failures.{failed_reads, failed_write}
use Rattle.ftl0_server.specs.Connection.Taking.{fails}
use Rattle.ftl0_server.specs.Server.{Server}
use Rattle.ftl0_server.specs.ServerStep.{ServerStep, stepped}
use Rattle.ftl0_server.specs.Serving.{ServesOver, TakesEvent}
use Rattle.server_node.specs.Sessions.Running.{IsSaid}
use Rattle.server_node.specs.Steps.{Made, Steps}

-- Over these events, at none of which it stops, the server comes from one to another, by all that was said and done.
pub record ServesAs (server : Server) (events : List NodeEvent) (all : Made) (now : Server) : Type 0 where
  pub frames : List FrameValue
  pub text_is : all.text ≡ text_of frames
  pub serves : ServesOver server events frames all.done all.missed now

-- A stop at this event: what was said and done at it, the commands in one of which the disk failed, and how many parts
-- told that a read failed. Where saying failed the event's commands are done, and a front of its frames' text was said.
-- Where the disk failed, at a write or a sync of one of its packets and nowhere else, the frames of that step were
-- said. It never stops for want of memory.
abbrev pub StopsAt : NodeStop → Bool → Server → NodeEvent → Made → List Command → Type 0
StopsAt stop.AirWrite unsaid server event all cut =
    (frames : List FrameValue) × (next : Server) × TakesEvent server event frames all.done all.missed next
    × (frames ≢ []) × IsFront all.text (text_of frames) × (cut ≡ [])
StopsAt stop.Disk unsaid server event all cut =
    (part : ℕ) × (parts : List ℕ) × (frames : List FrameValue) × (next : Server)
    × ServerStep server event (failed_write part ++ failed_reads parts)
    (stepped all.done cut all.missed fails frames next)
    × IsSaid unsaid (text_of frames) all.text
StopsAt stop.OutOfMemory unsaid server event all cut = ⊥
StopsAt stop.AirRead unsaid server event all cut = ⊥
StopsAt stop.Spent unsaid server event all cut = ⊥
StopsAt (stop.NotAStore found) unsaid server event all cut = ⊥
StopsAt (stop.Damaged at) unsaid server event all cut = ⊥

-- a server over the events of its node
abbrev pub server_steps : Steps Server NodeEvent
server_steps =
    record {
      goes = λ server events all now. ServesAs server events all now;
      stops = λ why unsaid server event all cut. StopsAt why unsaid server event all cut;
    }
