-- A station's reader of frames as contracts see it.
use Rattle.std.specs.Prelude.{ℕ, List, Option}
use Rattle.px_base.specs.CallSign.{CallSign}

-- whose frames it finds; octets that stand for all that it has heard; and the octets of the frame of KISS text that
-- the last octet ended, if it ended one
pub record StationValue : Type 0 where
  pub me : CallSign
  pub heard : List ℕ
  pub ended : Option (List ℕ)
