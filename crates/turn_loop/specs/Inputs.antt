-- What a node hands to its party: octets that are heard, and the clock's going on, by the turns of its air and their
-- moments.
use Rattle.std.specs.Prelude.{ℕ, ◌==◌, ◌<◌, List, [], ◌∷◌, ◌++◌, map, if◌then◌else◌, ⊤}
use Rattle.px_base.specs.Polling.{octets_of_turn}
use Rattle.px_base.specs.declared.air.Turn.{Turn}
use Rattle.px_base.specs.declared.air.Turn.TheVariants as turn

-- an octet is heard at a moment; or the clock went on to this moment
pub data Input : Type 0 where
  octet : ℕ → ℕ → Input
  tick : ℕ → Input

-- these octets, all heard at this moment
abbrev pub octets_at : ℕ → List ℕ → List Input
octets_at moment octets = map (λ o. octet o moment) octets

-- this one, where the moment isn't the one of the last tick
abbrev pub unless_same : {T : Type 0} → ℕ → ℕ → T → List T
unless_same last moment one = if moment == last then [] else one ∷ []

-- a tick, where the moment isn't the one of the last tick
abbrev pub tick_after : ℕ → ℕ → List Input
tick_after last moment = unless_same last moment (tick moment)

-- a tick of a turn: none at the end of the air, nor where the poll failed
abbrev pub turn_tick : Turn → ℕ → ℕ → List Input
turn_tick (turn.Bytes octets) last moment = tick_after last moment
turn_tick turn.Quiet last moment = tick_after last moment
turn_tick turn.Fail last moment = []
turn_tick turn.End last moment = []

-- what one turn hands over at its moment: its octets, and then a tick
abbrev pub turn_inputs : Turn → ℕ → ℕ → List Input
turn_inputs next last moment = octets_at moment (octets_of_turn next) ++ turn_tick next last moment

-- what turns at these moments, one each, hand over since a last tick
abbrev pub inputs_since : ℕ → List Turn → List ℕ → List Input
inputs_since last [] moments = []
inputs_since last (next ∷ turns) [] = []
inputs_since last (next ∷ turns) (moment ∷ moments) = turn_inputs next last moment ++ inputs_since moment turns moments

-- What a node's turns hand over. The last tick's moment is the first turn's at the start, so that turn never ticks.
abbrev pub inputs_of : List Turn → List ℕ → List Input
inputs_of turns [] = []
inputs_of turns (first ∷ moments) = inputs_since first turns (first ∷ moments)

-- the octets among what is handed over, in order
abbrev pub octets_in : List Input → List ℕ
octets_in [] = []
octets_in (octet o moment ∷ inputs) = o ∷ octets_in inputs
octets_in (tick moment ∷ inputs) = octets_in inputs

-- what may be handed over: an octet is a number below 256
abbrev pub IsInput : Input → Type 0
IsInput (octet o moment) = o < 256
IsInput (tick moment) = ⊤
