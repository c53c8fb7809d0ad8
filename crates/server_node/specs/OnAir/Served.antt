-- What a server says over its turns, and why it ends.
use Rattle.std.specs.Prelude.{◌≡◌, ℕ, ◌≤◌, List, ◌++◌, length, None, Result}
use Rattle.px_base.specs.declared.air.Turn.{Turn}
use Rattle.file_store.specs.State.{IsKnown}
use Rattle.file_store.specs.Store.{Store}
use Rattle.ftl0_server.specs.Server.{Server, new_server}
use Rattle.ftl0_server.specs.Window.{window_of}
use Rattle.turn_loop.specs.Events.{NodeEvent, NodeEvents}
use Rattle.turn_loop.specs.Lent.{Lent, Seen}
use Rattle.px_base.specs.Polling.{IsButLast}
use Rattle.turn_loop.specs.declared.stop.NodeStop.{NodeStop}
use Rattle.server_node.specs.declared.terms.Served.{Served}
use Rattle.server_node.specs.declared.terms.ServerTerms.{ServerTerms}
use Rattle.server_node.specs.Served.{Ends, Run, TurnsBy}
use Rattle.server_node.specs.Steps.{EndsOver}
use Rattle.server_node.specs.OnAir.Serving.{server_steps}

-- a server of these terms, without sessions and without lists, over this store
abbrev pub server_from : ServerTerms → Store → Server
server_from terms start = new_server terms.me (window_of terms.k) start

-- A server came to this run, of at most so many turns, and ended so. Where it is known what octets the store's files
-- have, what it said and did is what its events give, and nothing was heard after what ended it: a stop is at an event
-- that only the last turn brings, behind all those that the others bring.
pub record ServerRan (known : Type 0) (server : Server) (polls : ℕ) (run : Run) (result : Result Served NodeStop) :
    Type 0 where
  pub one_each : length run.moments ≡ length run.turns
  pub events : List NodeEvent
  pub brings : NodeEvents server.me run.turns run.moments events
  pub bound : length run.turns ≤ polls
  pub ends : TurnsBy result polls run.turns
  pub earlier : List Turn
  pub but_last : IsButLast run.turns earlier
  pub before : List ℕ
  pub behind : List ℕ
  pub split : run.moments ≡ before ++ behind
  pub least : List NodeEvent
  pub brought : NodeEvents server.me earlier before least
  pub ends_over : known → EndsOver result least server_steps server events run.unsaid run.all run.cut

-- how a server of these terms ends
abbrev pub ServerEnds :
    {A C D : Type 0} → Seen D A C → Lent D A C → Lent D A C → ServerTerms → Result Served NodeStop → Type 0
ServerEnds seen old new terms result =
    Ends seen terms.limits.blocks None
    (λ start run. ServerRan (IsKnown seen.disk old.disk) (server_from terms start) terms.polls run result) old new
    result
