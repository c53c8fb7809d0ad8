-- What contracts see of the forms over streams.
use Rattle.std.specs.Prelude.{ℕ, List, [], Option}
use Rattle.std.specs.Io.KnownBytes.{Consumes, IsAtEnd, Keeps}
use Rattle.px_base.specs.declared.air.Turn.{Turn}
use Rattle.px_base.specs.declared.air.Turn.TheVariants as turn

-- the streams of an air, and its counts of faults
pub record AirStreams (R W : Type 0) : Type 0 where
  pub input : R
  pub output : W
  pub read_faults : ℕ
  pub write_faults : ℕ

-- the stream of an output, and its count of faults
pub record OutState (W : Type 0) : Type 0 where
  pub output : W
  pub faults : ℕ

-- What a reader has left before and after an answer: octets that were heard are its next ones, and the air is closed
-- only if the reader has ended. It is never quiet.
abbrev pub HearsFrom : Option (List ℕ) → Option (List ℕ) → Turn → Type 0
HearsFrom before now (turn.Bytes octets) = Consumes before now octets
HearsFrom before now turn.Quiet = ⊥
HearsFrom before now turn.Fail = Keeps before now
HearsFrom before now turn.End = Consumes before now [] × IsAtEnd now
