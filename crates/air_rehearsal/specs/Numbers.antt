-- What has a number: clients and transmissions are numbered from 1 on.
use Rattle.std.specs.Prelude.{ℕ, zero, suc, List, Option, None, Some}
use Rattle.std.specs.List.{slice_get}
use Rattle.std.specs.Option.{option_and_then}

-- the place of what has this number; none has number 0
abbrev pub place_numbered : ℕ → Option ℕ
place_numbered zero = None
place_numbered (suc place) = Some place

-- the one of this number, of these
abbrev pub numbered : {X : Type 0} → ℕ → List X → Option X
numbered number items = option_and_then (slice_get items) (place_numbered number)
