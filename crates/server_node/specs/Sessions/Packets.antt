-- The packets that a node's octets bring to a session, each at the moment at which its last octet comes.
use Rattle.std.specs.Prelude.{◌≡◌, ℕ, List, [], ◌∷◌, ◌++◌}
use Rattle.px_base.specs.Octets.{IsOctets}
use Rattle.ftl0_packets.specs.Reading.{packets_of, rest_of}
use Rattle.ftl0_session.specs.Uploads.Events.{Event, at_moment}
use Rattle.turn_loop.specs.Inputs.{Input, octet, octets_in, tick}
use Rattle.server_node.specs.Sessions.ServerState.{ServerState}

-- the packets that are finished by what is handed over behind these octets that wait; ticks bring nothing
abbrev pub events_behind : List ℕ → List Input → List Event
events_behind waiting [] = []
events_behind waiting (octet o moment ∷ inputs) =
    at_moment moment (packets_of (waiting ++ o ∷ [])) ++ events_behind (rest_of (waiting ++ o ∷ [])) inputs
events_behind waiting (tick moment ∷ inputs) = events_behind waiting inputs

-- the octets that wait then
abbrev pub waiting_behind : List ℕ → List Input → List ℕ
waiting_behind waiting [] = waiting
waiting_behind waiting (octet o moment ∷ inputs) = waiting_behind (rest_of (waiting ++ o ∷ [])) inputs
waiting_behind waiting (tick moment ∷ inputs) = waiting_behind waiting inputs

-- the packets that these inputs bring to a server
abbrev pub events_to : ServerState → List Input → List Event
events_to server inputs = events_behind server.octets inputs

-- These inputs were handed to one caller's server, and what is less than a whole packet waits.
pub record Hears (old : ServerState) (inputs : List Input) (new : ServerState) : Type 0 where
  pub caller : new.caller ≡ old.caller
  pub are_octets : IsOctets (octets_in inputs)
  pub waits : new.octets ≡ waiting_behind old.octets inputs
