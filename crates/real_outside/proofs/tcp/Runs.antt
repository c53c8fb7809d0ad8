-- How many connections an air makes.
use Rattle.std.proofs.Common.{◌≡◌, ⊎_elim, ℕ, ◌+◌, ◌≤◌, List, [], ◌∷◌, ◌++◌, Bool, true, false, Ok, Err, refl, sym, ◌∙◌}
use Rattle.std.proofs.Common.{ap, arith}
use Rattle.px_base.specs.declared.air.Turn.{Turn}
use Rattle.px_base.specs.declared.air.Turn.TheVariants as turn
use Rattle.real_outside.specs.Tcp.RunLaws.{AirCall, IsAirCall, IsRun, all_connections, run_connections}
use Rattle.real_outside.specs.declared.tcp.connection.ConnectionCall.TheVariants as call
use Rattle.real_outside.specs.declared.tcp.connection_air.Stage.{Stage}
use Rattle.real_outside.specs.declared.tcp.connection_air.Stage.TheVariants as stage
use Rattle.real_outside.proofs.Names.{false≢true, Connects, HearsAt, LimitsReads, Opens, Readies, SaysAt, Sends, SendsAtOnce, Then, stage_after_saying, stage_after_turn, ConnectionCall}

-- how many connections an air at this stage made
abbrev made : Stage → ℕ
made stage.Unmade = 0
made stage.Open = 1
made stage.Ended = 1
made stage.Broken = 1

made_most : (s : Stage) → made s ≤ 1
made_most stage.Unmade = omega arith
made_most stage.Open = omega arith
made_most stage.Ended = omega arith
made_most stage.Broken = omega arith

connections_append : (first later : List ConnectionCall) → all_connections (first ++ later) ≡ all_connections first + all_connections later
connections_append [] later = omega arith
connections_append (next ∷ first) later = let rest = connections_append first later in omega (arith, rest)

-- those of calls and then others
connections_then : (P Q : List ConnectionCall → Type 0) (m n : ℕ) (calls : List ConnectionCall) → ((first : List ConnectionCall) → P first → all_connections first ≡ m) → ((later : List ConnectionCall) → Q later → all_connections later ≡ n) → Then P Q calls → all_connections calls ≡ m + n
connections_then P Q m n calls first later both =
    let whole : all_connections calls ≡ all_connections (both.0 ++ both.1) = ap all_connections both.2 in
    omega (arith, whole, connections_append both.0 both.1, first both.0 both.3, later both.1 both.4)

connects_none : (calls : List ConnectionCall) → Connects false calls → all_connections calls ≡ 0
connects_none calls (Ok done, is, failed) = absurd (false≢true failed)
connects_none calls (Err failed, is, answers) = ap all_connections is

connects_one : (calls : List ConnectionCall) → Connects true calls → all_connections calls ≡ 1
connects_one calls (Ok done, is, answers) = ap all_connections is
connects_one calls (Err failed, is, answers) = absurd (false≢true (sym answers))

at_once_none : (done : Bool) (calls : List ConnectionCall) → SendsAtOnce done calls → all_connections calls ≡ 0
at_once_none done calls asks = ap all_connections asks.1

limits_none : (done : Bool) (calls : List ConnectionCall) → LimitsReads done calls → all_connections calls ≡ 0
limits_none done calls asks = ap all_connections asks.1

opens_made : (ready : Stage) (calls : List ConnectionCall) → Opens ready calls → all_connections calls ≡ made ready
opens_made stage.Unmade calls opens = connects_none calls opens
opens_made stage.Open calls opens =
    connections_then (Connects true) (Then (SendsAtOnce true) (LimitsReads true)) 1 0 calls connects_one
    (λ later. connections_then (SendsAtOnce true) (LimitsReads true) 0 0 later (at_once_none true) (limits_none true)) opens
opens_made stage.Ended calls opens = absurd opens
opens_made stage.Broken calls opens =
    ⊎_elim
    (λ cut. connections_then (Connects true) (SendsAtOnce false) 1 0 calls connects_one (at_once_none false) cut)
    (λ cut.
    connections_then (Connects true) (Then (SendsAtOnce true) (LimitsReads false)) 1 0 calls connects_one
    (λ later. connections_then (SendsAtOnce true) (LimitsReads false) 0 0 later (at_once_none true) (limits_none false)) cut)
    opens

-- an air that stays at its stage asks for nothing
stays : (before ready : Stage) (calls : List ConnectionCall) → ready ≡ before → calls ≡ [] → all_connections calls + made before ≡ made ready
stays before ready calls same none = let a = ap all_connections none in let b = ap made same in omega (arith, a, b)

readies_made : (before ready : Stage) (calls : List ConnectionCall) → Readies before ready calls → all_connections calls + made before ≡ made ready
readies_made stage.Unmade ready calls readies = let a = opens_made ready calls readies in omega (arith, a)
readies_made stage.Open ready calls readies = stays stage.Open ready calls readies.0 readies.1
readies_made stage.Ended ready calls readies = stays stage.Ended ready calls readies.0 readies.1
readies_made stage.Broken ready calls readies = stays stage.Broken ready calls readies.0 readies.1

hears_none : (ready : Stage) (next : Turn) (calls : List ConnectionCall) → HearsAt ready next calls → all_connections calls ≡ 0
hears_none stage.Unmade next calls hears = ap all_connections hears.1
hears_none stage.Open next calls hears = ap all_connections hears.2
hears_none stage.Ended next calls hears = ap all_connections hears.1
hears_none stage.Broken next calls hears = ap all_connections hears.1

made_after_turn : (ready : Stage) (next : Turn) → made (stage_after_turn ready next) ≡ made ready
made_after_turn stage.Unmade next = refl
made_after_turn stage.Open (turn.Bytes octets) = refl
made_after_turn stage.Open turn.Quiet = refl
made_after_turn stage.Open turn.Fail = refl
made_after_turn stage.Open turn.End = refl
made_after_turn stage.Ended next = refl
made_after_turn stage.Broken next = refl

sends_none : (left : List ℕ) (done : Bool) (calls : List ConnectionCall) → Sends left done calls → all_connections calls ≡ 0
sends_none left done [] sends = absurd sends
sends_none left done (call.Connect answer ∷ later) sends = absurd sends
sends_none left done (call.NoDelay answer ∷ later) sends = absurd sends
sends_none left done (call.ReadLimit milliseconds answer ∷ later) sends = absurd sends
sends_none left done (call.Read count answer ∷ later) sends = absurd sends
sends_none left done (call.Write octets (Ok count) ∷ later) sends =
    ⊎_elim (λ stop. let a = ap all_connections stop.1 in omega (arith, a))
    (λ goes. let a = sends_none _ done later goes.1 in omega (arith, a)) sends.2
sends_none left done (call.Write octets (Err failed) ∷ later) sends = let a = ap all_connections sends.2 in omega (arith, a)
sends_none left done (call.Flush answer ∷ later) sends = let a = ap all_connections sends.1 in omega (arith, a)

says_none : (ready : Stage) (octets : List ℕ) (done : Bool) (calls : List ConnectionCall) → SaysAt ready octets done calls → all_connections calls ≡ 0
says_none stage.Unmade octets done calls says = ap all_connections says.1
says_none stage.Open octets done calls says = sends_none octets done calls says
says_none stage.Ended octets done calls says = sends_none octets done calls says
says_none stage.Broken octets done calls says = ap all_connections says.1

made_after_saying : (ready : Stage) (done : Bool) → made (stage_after_saying ready done) ≡ made ready
made_after_saying stage.Unmade done = refl
made_after_saying stage.Open true = refl
made_after_saying stage.Open false = refl
made_after_saying stage.Ended true = refl
made_after_saying stage.Ended false = refl
made_after_saying stage.Broken done = refl

-- a call of an air makes a connection exactly if the air has one from then on
call_made : (before : Stage) (one : AirCall) → IsAirCall before one → all_connections one.calls + made before ≡ made one.after
call_made before one is =
    ⊎_elim
    (λ polls.
    let ready = polls.1.0 in
    let both = polls.1.1 in
    let a : all_connections one.calls ≡ all_connections (both.0 ++ both.1) = ap all_connections both.2 in
    let b = readies_made before ready both.0 both.3 in
    let c = hears_none ready polls.0 both.1 both.4.0 in
    let d : made one.after ≡ made ready = ap made both.4.1 ∙ made_after_turn ready polls.0 in
    omega (arith, a, connections_append both.0 both.1, b, c, d))
    (λ puts.
    let ready = puts.2.0 in
    let both = puts.2.1 in
    let a : all_connections one.calls ≡ all_connections (both.0 ++ both.1) = ap all_connections both.2 in
    let b = readies_made before ready both.0 both.3 in
    let c = says_none ready puts.0 puts.1 both.1 both.4.0 in
    let d : made one.after ≡ made ready = ap made both.4.1 ∙ made_after_saying ready puts.1 in
    omega (arith, a, connections_append both.0 both.1, b, c, d))
    is

run_made : (before : Stage) (run : List AirCall) → IsRun before run → run_connections run + made before ≤ 1
run_made before [] is = let most = made_most before in omega (arith, most)
run_made before (one ∷ later) is =
    let now = call_made before one is.0 in
    let rest = run_made one.after later is.1 in
    omega (arith, now, rest)

-- one at most
pub one_connection : (before : Stage) (run : List AirCall) → IsRun before run → run_connections run ≤ 1
one_connection before run is = let all = run_made before run is in omega (arith, all)
