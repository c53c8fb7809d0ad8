-- What the command `pfh-make` keeps, and why it ends.
use Rattle.std.specs.Prelude.{◌≡◌, ◌⊎◌, ℕ, ◌≤◌, List, [], ◌∷◌, length, Option, None, Some, IfSome}
use Rattle.px_base.specs.Shelves.{Holding, Keeps, KeepsOthers, content_of}
use Rattle.header_tool.specs.Built.{passing_len}
use Rattle.header_tool.specs.Made.{IsMade, MakeValue, made_builder, spec_refusal}
use Rattle.pacsat_cli.specs.declared.status.Status.{Status}
use Rattle.pacsat_cli.specs.declared.status.Status.TheVariants.{Done, NoSuch, OutOfMemory, Shelf, TooLong}
use Rattle.pacsat_cli.specs.Files.{most_octets}
use Rattle.pacsat_cli.specs.Run.{IsUnless}

-- no rule refuses the header of a file that is made so
abbrev pub IsPossible : MakeValue → Type 0
IsPossible spec = spec_refusal spec ≡ None

-- This is the file that is made of the content of BODY, where it is told what the shelf holds.
pub record IsMadeOf (spec : MakeValue) (body : List ℕ) (held : Option Holding) (file : List ℕ) : Type 0 where
  pub octets : List ℕ
  pub there : IfSome held (λ shelf. content_of shelf body ≡ Some octets)
  pub most : length octets ≤ most_octets
  pub made : IsMade spec octets file

-- How a make ended, by what the shelf held and what it holds now. Done: a file is kept under the name, and all else stays.
-- A fault of the shelf that came while a file was kept leaves the content of the name open. Whatever else ends it, all stays.
-- No other status comes.
abbrev pub MakeEnd : (List ℕ → Type 0) → List ℕ → Option Holding → Option Holding → Status → Type 0
MakeEnd IsFile name before now Done = (file : List ℕ) × IsFile file × Keeps before now name file
MakeEnd IsFile name before now Shelf = (now ≡ before) ⊎ ((file : List ℕ) × IsFile file × KeepsOthers before now name)
MakeEnd IsFile name before now NoSuch = now ≡ before
MakeEnd IsFile name before now TooLong = now ≡ before
MakeEnd IsFile name before now OutOfMemory = now ≡ before
MakeEnd IsFile name before now status = ⊥

-- the status by the length that a header or a file can't have, if there is one
abbrev pub length_status : Option ℕ → Status
length_status None = Done
length_status (Some len) = TooLong

-- The status of a make with this content of BODY, where nothing hinders it. A body that is too long for a file makes one that
-- is too long.
abbrev pub make_status : MakeValue → Option (List ℕ) → Status
make_status spec None = NoSuch
make_status spec (Some octets) = length_status (passing_len (made_builder spec) octets)

-- it is this status, but for a fault of the shelf and want of memory
abbrev pub IsOrHindered : Status → Status → Type 0
IsOrHindered status result = IsUnless result status (Shelf ∷ OutOfMemory ∷ [])

-- A make of the content of BODY ended so: by what the shelf holds, and where that is told, by the content.
pub record MakeRan (spec : MakeValue) (body name : List ℕ) (before now : Option Holding) (status : Status) : Type 0 where
  pub ends : MakeEnd (IsMadeOf spec body before) name before now status
  pub told : IfSome before (λ shelf. IsOrHindered (make_status spec (content_of shelf body)) status)

-- A make of these octets ended so.
pub record OctetsMade (spec : MakeValue) (octets name : List ℕ) (before now : Option Holding) (status : Status) : Type 0 where
  pub ends : MakeEnd (IsMade spec octets) name before now status
  pub told : IsOrHindered (make_status spec (Some octets)) status

-- these octets are kept under this name, or keeping failed
abbrev pub FileKept : List ℕ → List ℕ → Option Holding → Option Holding → Status → Type 0
FileKept name file before now status =
    ((status ≡ Done) × Keeps before now name file) ⊎ ((status ≡ Shelf) × KeepsOthers before now name)
