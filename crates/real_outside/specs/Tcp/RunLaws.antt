-- What the calls of an air add up to over a whole run.
use Rattle.std.specs.Prelude.{◌⊎◌, ⊤, ℕ, ◌+◌, ◌≤◌, List, [], ◌∷◌, Bool, Ok, Err}
use Rattle.px_base.specs.declared.air.Turn.{Turn}
use Rattle.real_outside.specs.Tcp.Connections.{Polls, Puts}
use Rattle.real_outside.specs.declared.tcp.connection.ConnectionCall.{ConnectionCall}
use Rattle.real_outside.specs.declared.tcp.connection.ConnectionCall.TheVariants as call
use Rattle.real_outside.specs.declared.tcp.connection_air.Stage.{Stage}

-- a call of an air: what it asked of the connection, and how far the air was after it
pub record AirCall : Type 0 where
  pub calls : List ConnectionCall
  pub after : Stage

-- it was a poll or a put of an air at this stage
abbrev pub IsAirCall : Stage → AirCall → Type 0
IsAirCall before made =
    ((next : Turn) × Polls before next made.after made.calls)
    ⊎ ((octets : List ℕ) × (done : Bool) × Puts before octets done made.after made.calls)

-- these were the calls of an air at this stage, one after the other
abbrev pub IsRun : Stage → List AirCall → Type 0
IsRun before [] = ⊤
IsRun before (made ∷ later) = IsAirCall before made × IsRun made.after later

-- how many connections a call made
abbrev pub connections_of : ConnectionCall → ℕ
connections_of (call.Connect (Ok done)) = 1
connections_of (call.Connect (Err failed)) = 0
connections_of (call.NoDelay answer) = 0
connections_of (call.ReadLimit milliseconds answer) = 0
connections_of (call.Read count answer) = 0
connections_of (call.Write octets answer) = 0
connections_of (call.Flush answer) = 0

-- how many these calls made
abbrev pub all_connections : List ConnectionCall → ℕ
all_connections [] = 0
all_connections (next ∷ later) = connections_of next + all_connections later

-- how many were made in a run
abbrev pub run_connections : List AirCall → ℕ
run_connections [] = 0
run_connections (made ∷ later) = all_connections made.calls + run_connections later

-- However often an air is called, it makes one connection at most.
abbrev pub IsOneConnection : Type 0
IsOneConnection = (before : Stage) (run : List AirCall) → IsRun before run → run_connections run ≤ 1
