-- What the command `pfh-body` keeps, and why it ends.
use Rattle.std.specs.Prelude.{◌≡◌, ℕ, ◌≤◌, List, length, nat_le, if◌then◌else◌, Option, None, Some, IfSome}
use Rattle.px_base.specs.Shelves.{Holding, content_of}
use Rattle.header_tool.specs.Bodies.{HasBody}
use Rattle.header_tool.specs.Faults.{fault_code}
use Rattle.pacsat_cli.specs.declared.status.RefusedBy.TheVariants.{Fault}
use Rattle.pacsat_cli.specs.declared.status.Status.{Status}
use Rattle.pacsat_cli.specs.declared.status.Status.TheVariants.{Done, NoSuch, Refused, TooLong}
use Rattle.pacsat_cli.specs.Files.{most_octets}
use Rattle.pacsat_cli.specs.Making.{IsOrHindered, MakeEnd}

-- This is the body of the content of NAME, where it is told what the shelf holds.
pub record IsBodyOf (name : List ℕ) (held : Option Holding) (body : List ℕ) : Type 0 where
  pub octets : List ℕ
  pub there : IfSome held (λ shelf. content_of shelf name ≡ Some octets)
  pub most : length octets ≤ most_octets
  pub has : HasBody octets body

-- How it ended, by what the shelf held and what it holds now: as a make does, or the file was refused by a fault, and
-- all stays. No other status comes.
abbrev pub BodyEnd : (List ℕ → Type 0) → List ℕ → Option Holding → Option Holding → Status → Type 0
BodyEnd IsFile name before now (Refused (Fault code)) = now ≡ before
BodyEnd IsFile name before now status = MakeEnd IsFile name before now status

-- the status of a file with this fault, and of one without
abbrev pub body_fault : Option ℕ → Status
body_fault None = Done
body_fault (Some code) = Refused (Fault code)

-- The status with this content of NAME, where nothing hinders it: a file that isn't too long is refused by its first
-- fault.
abbrev pub body_status : Option (List ℕ) → Status
body_status None = NoSuch
body_status (Some octets) = if nat_le (length octets) most_octets then body_fault (fault_code octets) else TooLong

-- The body of the content of NAME was asked for, and it ended so: by what the shelf holds, and where that is told, by
-- the content.
pub record BodyRan (name kept : List ℕ) (before now : Option Holding) (status : Status) : Type 0 where
  pub ends : BodyEnd (IsBodyOf name before) kept before now status
  pub told : IfSome before (λ shelf. IsOrHindered (body_status (content_of shelf name)) status)

-- The body of these octets was asked for, and it ended so.
pub record OctetsBody (octets kept : List ℕ) (before now : Option Holding) (status : Status) : Type 0 where
  pub ends : BodyEnd (HasBody octets) kept before now status
  pub told : IsOrHindered (body_fault (fault_code octets)) status
