-- What the system's clock makes of a reading.
use Rattle.std.specs.Prelude.{◌≡◌, ◌/◌, ℕ, min, List, [], ◌∷◌, Option, Result, Ok, Err}
use Rattle.std.specs.Duration.{as_nanos}
use Rattle.std.specs.declared.time.Duration.{Duration}
use Rattle.px_base.specs.Outside.{Grows}
use Rattle.px_base.specs.CallRecords.{CallRecordState}
use Rattle.real_outside.specs.declared.system_error.SystemError.{SystemError}

-- a reading of the time since 1 January 1970
abbrev pub Reading : Type 0
Reading = Result Duration SystemError

-- the moment of a reading: whole seconds up to 2^32 - 1, and 0 if the time can't be read
abbrev pub moment_of : Reading → ℕ
moment_of (Ok since) = min (as_nanos since / 1000000000) 4294967295
moment_of (Err refused) = 0

-- The time is read once, and the moment is that of this reading.
abbrev pub ReadsOnce : Option (List Reading) → Option (List Reading) → ℕ → Type 0
ReadsOnce before now moment = (reading : Reading) × Grows before now (reading ∷ []) × (moment ≡ moment_of reading)

-- a time in memory: the readings to come, the one that every later call gives, and those that were made
pub record MemoryTimeState : Type 0 where
  pub coming : List Reading
  pub last : Reading
  pub made : CallRecordState Reading

-- the first of these readings, or this one if there is none
abbrev pub first_reading : List Reading → Reading → Reading
first_reading [] last = last
first_reading (reading ∷ readings) last = reading
