-- The events of a session over an air: the packets that its turns bring, each with its moment.
use Rattle.std.specs.Prelude.{◌≡◌, ℕ, List, [], ◌∷◌, ◌++◌, map}
use Rattle.px_base.specs.CallSign.{CallSign}
use Rattle.px_base.specs.Polling.{octets_of_turn}
use Rattle.px_base.specs.declared.air.Turn.{Turn}
use Rattle.ftl0_packets.specs.Layout.{Item}
use Rattle.ftl0_packets.specs.Stream.{Stream}

-- a packet, malformed or not, and the moment in which it is taken
pub record Event : Type 0 where
  pub moment : ℕ
  pub packet : Item

-- a packet of this caller, malformed or not, and the moment in which it is taken
pub record CallerPacket : Type 0 where
  pub caller : CallSign
  pub moment : ℕ
  pub item : Item

-- by its parts
abbrev pub packet_of : CallSign → ℕ → Item → CallerPacket
packet_of caller moment item = record { caller = caller; moment = moment; item = item }

-- these packets, all at this moment
abbrev pub at_moment : ℕ → List Item → List Event
at_moment moment packets = map (λ packet. record { moment = moment; packet = packet }) packets

-- the packets of these events
abbrev pub packets_in : List Event → List Item
packets_in events = map (λ event. event.packet) events

-- What turns at these moments, one each, bring after octets that wait for the end of their packet: the octets that wait
-- and those of the turn are a stream of packets, which all have the turn's moment, and what is left waits for the next
-- turn. In the end this rest waits.
abbrev pub Brings : List ℕ → List Turn → List ℕ → List Event → List ℕ → Type 0
Brings waiting [] moments events rest = (events ≡ []) × (rest ≡ waiting)
Brings waiting (next ∷ turns) [] events rest = ⊥
Brings waiting (next ∷ turns) (moment ∷ moments) events rest =
    (packets : List Item) × (left : List ℕ) × (later : List Event)
    × Stream (waiting ++ octets_of_turn next) packets left
    × (events ≡ at_moment moment packets ++ later) × Brings left turns moments later rest
