-- What an air over a connection asks of it, and what it makes of its answers.
use Rattle.std.specs.Prelude.{◌≡◌, ◌⊎◌, ⊤, ℕ, ◌<◌, List, [], ◌∷◌, ◌++◌, length, drop, Bool, true, false, if◌then◌else◌}
use Rattle.std.specs.Prelude.{Option, None, Some, Result, Ok, Err, IsErr, is_ok}
use Rattle.std.specs.declared.io.ErrorKind.{ErrorKind}
use Rattle.std.specs.declared.io.ErrorKind.TheVariants as reason
use Rattle.px_base.specs.declared.air.AirDown.{AirDown}
use Rattle.px_base.specs.declared.air.Polled.{Polled}
use Rattle.px_base.specs.declared.air.Polled.TheVariants as polled
use Rattle.px_base.specs.declared.air.Turn.{Turn}
use Rattle.px_base.specs.declared.air.Turn.TheVariants as turn
use Rattle.real_outside.specs.declared.system_error.SystemError.{SystemError}
use Rattle.real_outside.specs.declared.tcp.connection.ConnectionCall.{ConnectionCall}
use Rattle.real_outside.specs.declared.tcp.connection.ConnectionCall.TheVariants as call
use Rattle.real_outside.specs.declared.tcp.connection_air.Stage.{Stage}
use Rattle.real_outside.specs.declared.tcp.connection_air.Stage.TheVariants as stage

-- An air over a connection: how far it is, and its counts of faults.
pub record ConnectionAirState (C : Type 0) : Type 0 where
  pub connection : C
  pub stage : Stage
  pub read_faults : ℕ
  pub write_faults : ℕ

-- what can be observed of a stream, if there is one
abbrev pub told_of : {S : Type 0} → (S → Option (List ℕ)) → Option S → Option (List ℕ)
told_of told None = None
told_of told (Some stream) = told stream

-- Calls that have P, and then calls that have Q.
abbrev pub Then : (List ConnectionCall → Type 0) → (List ConnectionCall → Type 0) → List ConnectionCall → Type 0
Then P Q calls = (first later : List ConnectionCall) × (calls ≡ first ++ later) × P first × Q later

-- a connection was to be made: whether it is there
abbrev pub Connects : Bool → List ConnectionCall → Type 0
Connects done calls = (answer : Result Unit SystemError) × (calls ≡ call.Connect answer ∷ []) × (done ≡ is_ok answer)

-- it was to send at once
abbrev pub SendsAtOnce : Bool → List ConnectionCall → Type 0
SendsAtOnce done calls =
    (answer : Result Unit SystemError) × (calls ≡ call.NoDelay answer ∷ []) × (done ≡ is_ok answer)

-- each read of it was to wait 100 milliseconds at most
abbrev pub LimitsReads : Bool → List ConnectionCall → Type 0
LimitsReads done calls =
    (answer : Result Unit SystemError) × (calls ≡ call.ReadLimit 100 answer ∷ []) × (done ≡ is_ok answer)

-- What an air asks for at its first call, and how far it is then: one connection, which is to send at once, and whose
-- reads are to be limited. No call follows one that failed.
abbrev pub Opens : Stage → List ConnectionCall → Type 0
Opens stage.Unmade = Connects false
Opens stage.Open = Then (Connects true) (Then (SendsAtOnce true) (LimitsReads true))
Opens stage.Ended = λ _. ⊥
Opens stage.Broken = λ calls.
    Then (Connects true) (SendsAtOnce false) calls
    ⊎ Then (Connects true) (Then (SendsAtOnce true) (LimitsReads false)) calls

-- An air at this stage got to that one before it heard or said octets: it is to be connected only if it never was.
abbrev pub Readies : Stage → Stage → List ConnectionCall → Type 0
Readies stage.Unmade ready calls = Opens ready calls
Readies stage.Open ready calls = (ready ≡ stage.Open) × (calls ≡ [])
Readies stage.Ended ready calls = (ready ≡ stage.Ended) × (calls ≡ [])
Readies stage.Broken ready calls = (ready ≡ stage.Broken) × (calls ≡ [])

-- The air got to a stage first, and the calls after those for that have P.
abbrev pub ReadiesThen : Stage → (Stage → List ConnectionCall → Type 0) → List ConnectionCall → Type 0
ReadiesThen before P calls = (ready : Stage) × Then (Readies before ready) (P ready) calls

-- nothing came in time, in either word that systems have for it, or a signal came first
abbrev pub is_quiet : ErrorKind → Bool
is_quiet reason.WouldBlock = true
is_quiet reason.TimedOut = true
is_quiet reason.Interrupted = true
is_quiet _ = false

-- what a poll finds, if reading answers so
abbrev pub IsPollAnswer : Result ℕ SystemError → Result Polled AirDown → Type 0
IsPollAnswer (Ok count) result = (count ≡ 0 → result ≡ Ok polled.End) × (0 < count → result ≡ Ok (polled.Bytes count))
IsPollAnswer (Err failed) result =
    (is_quiet failed.kind ≡ true → result ≡ Ok polled.Quiet) × (is_quiet failed.kind ≡ false → IsErr result)

-- the turn that a read which gave this brings
abbrev pub turn_for : Result (List ℕ) SystemError → Turn
turn_for (Ok []) = turn.End
turn_for (Ok (octet ∷ octets)) = turn.Bytes (octet ∷ octets)
turn_for (Err failed) = if is_quiet failed.kind then turn.Quiet else turn.Fail

-- What an air at this stage hears: the answer of one read, into 512 octets of room, of a connection that is open; and
-- nothing else is asked for.
abbrev pub HearsAt : Stage → Turn → List ConnectionCall → Type 0
HearsAt stage.Unmade next calls = (next ≡ turn.Fail) × (calls ≡ [])
HearsAt stage.Open next calls =
    (answer : Result (List ℕ) SystemError) × (next ≡ turn_for answer) × (calls ≡ call.Read 512 answer ∷ [])
HearsAt stage.Ended next calls = (next ≡ turn.End) × (calls ≡ [])
HearsAt stage.Broken next calls = (next ≡ turn.Fail) × (calls ≡ [])

-- how far an air is after a poll
abbrev pub stage_after_turn : Stage → Turn → Stage
stage_after_turn stage.Unmade next = stage.Unmade
stage_after_turn stage.Open (turn.Bytes octets) = stage.Open
stage_after_turn stage.Open turn.Quiet = stage.Open
stage_after_turn stage.Open turn.Fail = stage.Broken
stage_after_turn stage.Open turn.End = stage.Ended
stage_after_turn stage.Ended next = stage.Ended
stage_after_turn stage.Broken next = stage.Broken

-- what a poll asks for, and how far the air is after it
abbrev pub Polls : Stage → Turn → Stage → List ConnectionCall → Type 0
Polls before next after =
    ReadiesThen before (λ ready calls. HearsAt ready next calls × (after ≡ stage_after_turn ready next))

-- the air hears nothing more of the connection
abbrev pub IsShut : Stage → Type 0
IsShut stage.Unmade = ⊥
IsShut stage.Open = ⊥
IsShut stage.Ended = ⊤
IsShut stage.Broken = ⊤

-- how many octets were taken, if writing answers so: none is a fault
abbrev pub IsTaken : Result ℕ SystemError → Result ℕ AirDown → Type 0
IsTaken (Ok count) result = (count ≡ 0 → IsErr result) × (0 < count → result ≡ Ok count)
IsTaken (Err failed) result = IsErr result

-- one write of these octets
abbrev pub WritesOnce : List ℕ → Result ℕ AirDown → List ConnectionCall → Type 0
WritesOnce octets result calls =
    (answer : Result ℕ SystemError) × (calls ≡ call.Write octets answer ∷ []) × IsTaken answer result

-- Octets are sent: each write is of all that are left after those taken before it; once none is left the connection is
-- flushed, and that it answers so is the answer. A write that fails, or takes none, is the last call, and they aren't
-- sent.
abbrev pub Sends : List ℕ → Bool → List ConnectionCall → Type 0
Sends left done [] = ⊥
Sends left done (call.Connect answer ∷ calls) = ⊥
Sends left done (call.NoDelay answer ∷ calls) = ⊥
Sends left done (call.ReadLimit milliseconds answer ∷ calls) = ⊥
Sends left done (call.Read count answer ∷ calls) = ⊥
Sends left done (call.Write octets (Ok count) ∷ calls) =
    (0 < length left)
    × (octets ≡ left)
    × (((count ≡ 0) × (calls ≡ []) × (done ≡ false)) ⊎ ((0 < count) × Sends (drop count left) done calls))
Sends left done (call.Write octets (Err failed) ∷ calls) =
    (0 < length left) × (octets ≡ left) × (calls ≡ []) × (done ≡ false)
Sends left done (call.Flush answer ∷ calls) = (left ≡ []) × (calls ≡ []) × (done ≡ is_ok answer)

-- What an air at this stage says: all of the octets on its connection, if it has one.
abbrev pub SaysAt : Stage → List ℕ → Bool → List ConnectionCall → Type 0
SaysAt stage.Unmade octets done calls = (done ≡ false) × (calls ≡ [])
SaysAt stage.Open octets done calls = Sends octets done calls
SaysAt stage.Ended octets done calls = Sends octets done calls
SaysAt stage.Broken octets done calls = (done ≡ false) × (calls ≡ [])

-- how far an air is after saying octets
abbrev pub stage_after_saying : Stage → Bool → Stage
stage_after_saying stage.Unmade done = stage.Unmade
stage_after_saying stage.Open done = if done then stage.Open else stage.Broken
stage_after_saying stage.Ended done = if done then stage.Ended else stage.Broken
stage_after_saying stage.Broken done = stage.Broken

-- what a put asks for, and how far the air is after it
abbrev pub Puts : Stage → List ℕ → Bool → Stage → List ConnectionCall → Type 0
Puts before octets done after =
    ReadiesThen before (λ ready calls. SaysAt ready octets done calls × (after ≡ stage_after_saying ready done))
