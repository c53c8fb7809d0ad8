-- What short writes add up to.
use Rattle.std.specs.Prelude.{◌≡◌, ℕ, List, [], ◌∷◌, ◌++◌, take, Bool, true, Ok, Err}
use Rattle.px_base.specs.Octets.{IsFront}
use Rattle.real_outside.specs.Tcp.Connections.{Sends}
use Rattle.real_outside.specs.declared.tcp.connection.ConnectionCall.{ConnectionCall}
use Rattle.real_outside.specs.declared.tcp.connection.ConnectionCall.TheVariants as call

-- the octets that a call took: none, if it is no write or failed
abbrev pub octets_taken : ConnectionCall → List ℕ
octets_taken (call.Connect answer) = []
octets_taken (call.NoDelay answer) = []
octets_taken (call.ReadLimit milliseconds answer) = []
octets_taken (call.Read count answer) = []
octets_taken (call.Write octets (Ok count)) = take count octets
octets_taken (call.Write octets (Err failed)) = []
octets_taken (call.Flush answer) = []

-- the octets that these calls took, in order
abbrev pub all_taken : List ConnectionCall → List ℕ
all_taken [] = []
all_taken (next ∷ later) = octets_taken next ++ all_taken later

-- Octets that are sent, in however short writes, were taken once each, in order.
abbrev pub IsWholeSend : Type 0
IsWholeSend = (octets : List ℕ) (calls : List ConnectionCall) → Sends octets true calls → all_taken calls ≡ octets

-- Of octets that aren't, a prefix was.
abbrev pub IsCutSend : Type 0
IsCutSend =
    (octets : List ℕ) (done : Bool) (calls : List ConnectionCall) → Sends octets done calls → IsFront (all_taken calls) octets
