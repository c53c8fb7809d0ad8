-- Why a line wasn't read.
use Rattle.std.specs.Prelude.{⊤}
use Rattle.hex.specs.declared.error.FromHexError.{FromHexError}
use Rattle.hex.specs.declared.error.FromHexError.TheVariants.{OutOfMemory as hex_memory}
use Rattle.air_schedule.specs.declared.fault.LineFault.{LineFault}
use Rattle.air_schedule.specs.declared.fault.LineFault.TheVariants.{NoLine, OutOfMemory}

-- what a word that isn't read as hexadecimal is: there was no memory, or it is none
abbrev pub fault_of_hex : FromHexError → LineFault
fault_of_hex hex_memory = OutOfMemory
fault_of_hex _ = NoLine

-- if the cause is that there is no such line, there is none
abbrev pub IsCause : Type 0 → LineFault → Type 0
IsCause none NoLine = none
IsCause none OutOfMemory = ⊤
