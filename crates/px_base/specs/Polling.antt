-- The answers of an air's polls.
use Rattle.std.specs.Prelude.{◌≡◌, ◌⊎◌, ℕ, ◌≤◌, List, [], ◌∷◌, ◌++◌, length, take, Option, Result, Ok, Err, ⊤}
use Rattle.std.specs.List.{AllByRecursion}
use Rattle.px_base.specs.Outside.{Grows}
use Rattle.px_base.specs.declared.air.Polled.{Polled}
use Rattle.px_base.specs.declared.air.Polled.TheVariants as polled
use Rattle.px_base.specs.declared.air.Turn.{Turn}
use Rattle.px_base.specs.declared.air.Turn.TheVariants as turn
use Rattle.px_base.specs.declared.air.AirDown.{AirDown}

-- from 1 to 512 octets were heard, where any were
abbrev pub IsPolled : Polled → Type 0
IsPolled (polled.Bytes count) = (1 ≤ count) × (count ≤ 512)
IsPolled polled.Quiet = ⊤
IsPolled polled.End = ⊤

-- the answer with its octets, which are the first of the room
abbrev pub turn_of : Result Polled AirDown → List ℕ → Turn
turn_of (Ok (polled.Bytes count)) room = turn.Bytes (take count room)
turn_of (Ok polled.Quiet) room = turn.Quiet
turn_of (Ok polled.End) room = turn.End
turn_of (Err down) room = turn.Fail

-- one turn more was heard
abbrev pub Hears : Option (List Turn) → Option (List Turn) → Turn → Type 0
Hears before now next = Grows before now (next ∷ [])

-- these turns more were heard
abbrev pub HearsAll : Option (List Turn) → Option (List Turn) → List Turn → Type 0
HearsAll before now turns = Grows before now turns

-- the octets of a turn
abbrev pub octets_of_turn : Turn → List ℕ
octets_of_turn (turn.Bytes octets) = octets
octets_of_turn turn.Quiet = []
octets_of_turn turn.Fail = []
octets_of_turn turn.End = []

-- the octets that were heard in these turns, in order
abbrev pub octets_heard : List Turn → List ℕ
octets_heard [] = []
octets_heard (next ∷ turns) = octets_of_turn next ++ octets_heard turns

-- from 1 to 512 octets, where the turn brings any
abbrev pub IsTurn : Turn → Type 0
IsTurn (turn.Bytes octets) = (1 ≤ length octets) × (length octets ≤ 512)
IsTurn turn.Quiet = ⊤
IsTurn turn.Fail = ⊤
IsTurn turn.End = ⊤

-- the turn left the air open
abbrev pub IsOpen : Turn → Type 0
IsOpen (turn.Bytes octets) = ⊤
IsOpen turn.Quiet = ⊤
IsOpen turn.Fail = ⊥
IsOpen turn.End = ⊥

-- the turns are open ones, and then this last one
abbrev pub EndsWith : List Turn → Turn → Type 0
EndsWith turns last = (earlier : List Turn) × (turns ≡ earlier ++ last ∷ []) × AllByRecursion IsOpen earlier

-- The others are all of the list but its last one; of none, none.
abbrev pub IsButLast : {X : Type 0} → List X → List X → Type 0
IsButLast {X} all others = ((all ≡ []) × (others ≡ [])) ⊎ ((last : X) × (all ≡ others ++ last ∷ []))

-- the end of the air is among the turns
abbrev pub HasEnd : List Turn → Type 0
HasEnd [] = ⊥
HasEnd ((turn.Bytes octets) ∷ turns) = HasEnd turns
HasEnd (turn.Quiet ∷ turns) = HasEnd turns
HasEnd (turn.Fail ∷ turns) = HasEnd turns
HasEnd (turn.End ∷ turns) = ⊤
