-- The course of a server as a node drives it: which events it takes, what it says to them, and what it does on its
-- disk.
use Rattle.std.specs.Prelude.{◌≡◌, ◌≢◌, ℕ, List, [], ◌++◌, true, false, Option, None, Some}
use Rattle.px_base.specs.Octets.{IsFront}
use Rattle.disk_model.specs.declared.disk.Disk.{Ghosts}
use Rattle.ax25_frames.specs.FrameText.{FrameValue}
use Rattle.file_store.specs.State.{IsKnown, IsReady, store_on}
use Rattle.file_store.specs.Store.{Store}
use Rattle.file_store.specs.Working.{PutsAmongReads}
use Rattle.turn_loop.specs.Course.{AtDisk, Course, at, stop_at_put, stop_of}
use Rattle.turn_loop.specs.Events.{NodeEvent}
use Rattle.disk_model.specs.declared.halt.Halt.{Halt}
use Rattle.turn_loop.specs.declared.stop.NodeStop.TheVariants as stop
use Rattle.ftl0_server.specs.Calls.{AwaitsEvent}
use Rattle.ftl0_server.specs.Server.{IsSilent, Server, settled}
use Rattle.ftl0_server.specs.ServerState.{IsServer, SendsFor, ServerState, server_most}
use Rattle.ftl0_server.specs.ServerStep.{Empties}
use Rattle.server_node.specs.Steps.{RunsOn, RunsTo, Service, StopsOn, StopsTo}
use Rattle.server_node.specs.Stops.{FailsBy}
use Rattle.server_node.specs.OnAir.Serving.{server_steps, text_of}
use Rattle.server_node.specs.declared.on_air.station.ServerStation.{ServerStation}

-- The server stands for that one, over this store of files, and has nothing to send.
pub record IsServing (files : Store) (self : ServerState) (server : Server) : Type 0 where
  pub is : IsServer files self server
  pub silent : IsSilent server

-- the store with the octets that its files have on its disk
abbrev pub files_at : {D : Type 0} → Ghosts D → AtDisk ServerStation D → Store
files_at g a = store_on g a.it.server.store a.disk

-- the server stands for that one, over the store on its disk, and has nothing to send
abbrev pub ServesAt : {D : Type 0} → Ghosts D → AtDisk ServerStation D → Server → Type 0
ServesAt g a server = IsServing (files_at g a) a.it.server server

-- the server may take an event
abbrev pub IsUp : {D : Type 0} → Ghosts D → AtDisk ServerStation D → Type 0
IsUp g a = AwaitsEvent g a.it.server a.disk

-- how a server serves events on a disk
abbrev pub server_service : {D : Type 0} → Ghosts D → Service ServerStation Server NodeEvent D
server_service g =
    record {
      disk = g;
      steps = server_steps;
      store = λ it. it.server.store;
      stands = λ a server. ServesAt g a server;
    }

-- ---- what it has still to say

-- with this server in place of its own
abbrev pub with_server : {D : Type 0} → AtDisk ServerStation D → ServerState → AtDisk ServerStation D
with_server a self = at (record { server = self }) a.disk

-- what it stands for while it sends, over this store: after a fault of the disk only as far as frames go
abbrev pub StandsBy : Store → Option Halt → ServerState → Server → Type 0
StandsBy files None = IsServer files
StandsBy files (Some why) = SendsFor

-- what comes of it once all is said, and it stands for the server that has sent all: it ran on, or it stopped
abbrev pub WholeBy : {D : Type 0} → Ghosts D → Server → AtDisk ServerStation D → List NodeEvent → Option Halt → Server
    → List ℕ → AtDisk ServerStation D → Type 0
WholeBy g server old events None last text new =
    IsServer (files_at g new) new.it.server last → IsServer (files_at g new) new.it.server (settled last)
    → RunsTo (server_service g) server old new events text
WholeBy g server old events (Some why) last text new =
    StopsTo (server_service g) server old new events (stop_of why) false text

-- It took these events, and so far said this of what they give; what it has still to say are the frames that this
-- server sends. And what comes of it where all of them are said, or where saying them fails behind a front of their
-- text.
pub record OwesRest {D : Type 0} (g : Ghosts D) (server : Server) (old : AtDisk ServerStation D)
    (events : List NodeEvent) (why : Option Halt) (said : List ℕ) (now : AtDisk ServerStation D) : Type 0 where
  pub made : Server
  pub stands : StandsBy (files_at g now) why now.it.server made
  pub whole :
      (frames : List FrameValue) (last : Server) (self : ServerState) → Empties made frames last
      → self.store ≡ now.it.server.store
      → WholeBy g server old events why last (said ++ text_of frames) (with_server now self)
  pub front :
      (frames : List FrameValue) (last : Server) (self : ServerState) (text : List ℕ) → Empties made frames last
      → self.store ≡ now.it.server.store → frames ≢ [] → IsFront text (text_of frames)
      → StopsTo (server_service g) server old (with_server now self) events (stop_at_put why) true (said ++ text)

-- It took these events, and so far said this of what they give. It doesn't halt for want of memory. Where it goes on
-- its store is ready. Where it is known what octets the files have it owes the rest, whichever server it stood for.
pub record OwesOver {D : Type 0} (g : Ghosts D) (old : AtDisk ServerStation D) (events : List NodeEvent)
    (why : Option Halt) (said : List ℕ) (now : AtDisk ServerStation D) : Type 0 where
  pub puts : PutsAmongReads g (FailsBy (stop_at_put why)) old.disk now.disk
  pub memory : stop_at_put why ≢ stop.OutOfMemory
  pub ready : why ≡ None → IsReady g now.it.server.store now.disk
  pub rest :
      IsKnown g old.disk → (server : Server) → ServesAt g old server → OwesRest g server old events why said now

-- the course of a server, whichever one of the definitions it stands for
abbrev pub server_course : {D : Type 0} → Ghosts D → Course ServerStation D NodeEvent
server_course g =
    record {
      is_fit = λ a. IsUp g a;
      goes = λ old events text new. RunsOn (server_service g) old new events text;
      owes = λ old events why said new. OwesOver g old events why said new;
      halts = λ old events why unsaid text new. StopsOn (server_service g) old new events why unsaid text;
      most = λ it. server_most it.server;
      is_over = λ it. false;
    }
