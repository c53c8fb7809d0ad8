-- A server over events, one after another, at none of which a write or a sync fails.
use Rattle.std.specs.Prelude.{◌≡◌, ℕ, ◌+◌, List, [], ◌∷◌, ◌++◌}
use Rattle.ax25_frames.specs.FrameText.{FrameValue}
use Rattle.file_store.specs.Command.{Command, after_all}
use Rattle.turn_loop.specs.Events.{NodeEvent}
use Rattle.ftl0_session.specs.Uploads.Failures.{failed_reads}
use Rattle.ftl0_server.specs.Connection.Taking.{goes_on}
use Rattle.ftl0_server.specs.Server.{Server}
use Rattle.ftl0_server.specs.ServerStep.{ServerStep, happening, stepped}

-- The server takes an event at which no write and no sync fails: it sends these frames and does these commands. Reads
-- fail at some parts of the event, or at none, and this many parts report one.
pub record TakesEvent (server : Server) (event : NodeEvent) (sent : List FrameValue) (done : List Command)
    (told : ℕ) (next : Server) : Type 0 where
  pub parts : List ℕ
  pub step : ServerStep server event (failed_reads parts) (stepped done [] told goes_on sent next)

-- Over these events, at none of which it stops, the server comes from one to another, says these frames and does these
-- commands; this many parts of them report that a read failed.
abbrev pub ServesOver : Server → List NodeEvent → List FrameValue → List Command → ℕ → Server → Type 0
ServesOver server [] frames commands missed now =
    (frames ≡ []) × (commands ≡ []) × (missed ≡ 0) × (now ≡ server)
ServesOver server (event ∷ events) frames commands missed now =
    (done : List Command) × (sent : List FrameValue) × (told : ℕ) × (next : Server) × (others : List Command)
    × (more : List FrameValue) × (later : ℕ) × TakesEvent server event sent done told next
    × (frames ≡ sent ++ more) × (commands ≡ done ++ others) × (missed ≡ (told + later))
    × ServesOver next events more others later now

-- The server reached this event after the earlier ones, and reads failed at some parts of it, or at none. Its commands
-- come after theirs, and others come after them.
pub record ServerComesTo (server : Server) (earlier : List NodeEvent) (next : NodeEvent) (commands : List Command) :
    Type 0 where
  pub frames : List FrameValue
  pub before : List Command
  pub missed : ℕ
  pub server_then : Server
  pub serves : ServesOver server earlier frames before missed server_then
  pub parts : List ℕ
  pub others : List Command
  pub commands_are : commands ≡ before ++ ((happening server_then next (failed_reads parts)).done ++ others)

-- What a server went over: the store that it ended with is the one after its commands, and so it was at each event.
pub record ServesLaw : Type 0 where
  pub store :
      (server : Server) (events : List NodeEvent) (frames : List FrameValue) (commands : List Command)
      (missed : ℕ) (now : Server) → ServesOver server events frames commands missed now
      → now.store ≡ after_all server.store commands
  pub comes_to :
      (server : Server) (earlier : List NodeEvent) (next : NodeEvent) (later : List NodeEvent)
      (frames : List FrameValue) (commands : List Command) (missed : ℕ) (now : Server)
      → ServesOver server (earlier ++ next ∷ later) frames commands missed now
      → ServerComesTo server earlier next commands
