-- A system in memory: a script of answers, and the calls that reached it.
use Rattle.std.specs.Prelude.{◌≡◌, List, ℕ, Option, None, Some, Result, Err}
use Rattle.px_base.specs.CallRecords.{CallRecordState, told}
use Rattle.pacsat_cli.specs.Start.{Follows}
use Rattle.pacsat_cli.specs.declared.startup.host.HostCall.{HostCall}
use Rattle.pacsat_cli.specs.declared.startup.host.NotHeld.{NotHeld}
use Rattle.pacsat_cli.specs.declared.startup.host.WordsRefusal.{WordsRefusal}
use Rattle.pacsat_cli.specs.declared.startup.host.WordsRefusal.TheVariants as refusal
use Rattle.pacsat_cli.specs.declared.status.Status.{Status}

-- A system in memory: how its streams are held, its words until they are asked for, the status of each run, and its
-- calls.
pub record MemoryHostState : Type 0 where
  pub held : Result Unit NotHeld
  pub words : Option (Result (List (List ℕ)) WordsRefusal)
  pub status : Status
  pub made : CallRecordState HostCall

-- this call reached it, and nothing else of it changed
abbrev pub IsCalled : MemoryHostState → MemoryHostState → HostCall → Type 0
IsCalled before now made = Follows (told before.made) (told now.made) made × (now ≡ record before { made = now.made })

-- the same of a call that is a run, which ends with its status
abbrev pub IsRun : MemoryHostState → MemoryHostState → Status → HostCall → Type 0
IsRun before now ends made = IsCalled before now made × (ends ≡ before.status)

-- what it answers where it is asked for its words: there is no memory for them a second time
abbrev pub words_given : Option (Result (List (List ℕ)) WordsRefusal) → Result (List (List ℕ)) WordsRefusal
words_given None = Err refusal.OutOfMemory
words_given (Some words) = words
