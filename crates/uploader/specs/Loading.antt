-- The file that is sent: what the shelf has under its name, and whether it may be sent.
use Rattle.std.specs.Prelude.{◌≡◌, ◌↔◌, ℕ, ◌<◌, ◌≤◌, List, length, Option, None, Some, IfSome, Result, Ok, Err, Bool, true}
use Rattle.std.specs.Prelude.{false, IfErr, IsErrOf, MatchResult, ⊤}
use Rattle.px_base.specs.Outside.{Rose}
use Rattle.px_base.specs.Shelves.{Holding, LoadResult, content_of}
use Rattle.pfh_reader.specs.Faults.{fault_code}
use Rattle.sha2.specs.Sha256.{sha256}
use Rattle.uploader.specs.declared.stop.SendStop.{SendStop}
use Rattle.uploader.specs.declared.stop.SendStop.TheVariants as stop
use Rattle.uploader.specs.declared.sum.FileSum.{FileSum}
use Rattle.uploader.specs.Stops.{stop_of_load}

-- the most octets of a file that is sent
abbrev pub most_octets : ℕ
most_octets = 4194304

-- a file's length and its SHA-256
abbrev pub sum_of : List ℕ → FileSum
sum_of file = record { length = length file; digest = sha256 file }

-- The file is no longer than may be, and keeps the rules of file headers (PFH 1990).
pub record IsSendable (file : List ℕ) : Type 0 where
  pub most : length file ≤ most_octets
  pub faultless : fault_code file ≡ None

-- The content is longer than may be.
abbrev pub IsLong : Option (List ℕ) → Type 0
IsLong content = (octets : List ℕ) × (content ≡ Some octets) × (most_octets < length octets)

-- The content may be sent by its length, but its first fault has this code.
abbrev pub IsBad : Option (List ℕ) → ℕ → Type 0
IsBad content code =
    (octets : List ℕ) × (content ≡ Some octets) × (length octets ≤ most_octets) × (fault_code octets ≡ Some code)

-- Why the content of a name isn't sent, where it is told what the shelf holds: each stop has its cause, and no other
-- comes.
abbrev pub IsUnfit : Option Holding → List ℕ → SendStop → Type 0
IsUnfit held name stop.NoSuch = IfSome held (λ shelf. content_of shelf name ≡ None)
IsUnfit held name stop.TooLong = IfSome held (λ shelf. IsLong (content_of shelf name))
IsUnfit held name (stop.BadFile code) = IfSome held (λ shelf. IsBad (content_of shelf name) code)
IsUnfit held name stop.Shelf = ⊤
IsUnfit held name stop.OutOfMemory = ⊤
IsUnfit held name why = ⊥

-- what was loaded is the content, or that is why none was
abbrev pub LoadsBy : Option Holding → List ℕ → Result (List ℕ) SendStop → Type 0
LoadsBy held name result =
    MatchResult result (λ file. IfSome held (λ shelf. content_of shelf name ≡ Some file)) (IsUnfit held name)

-- a file without a fault, or the stop of its first fault
abbrev pub checked : List ℕ → Option ℕ → Result (List ℕ) SendStop
checked file None = Ok file
checked file (Some code) = Err (stop.BadFile code)

-- what the shelf's answer to a load comes to
abbrev pub sent_of : LoadResult → Result (List ℕ) SendStop
sent_of (Ok file) = checked file (fault_code file)
sent_of (Err refusal) = Err (stop_of_load refusal)

-- whether a stop is by what the shelf has under the name, or by the shelf
abbrev pub is_of_file : SendStop → Bool
is_of_file stop.NoSuch = true
is_of_file stop.TooLong = true
is_of_file (stop.BadFile code) = true
is_of_file stop.Shelf = true
is_of_file why = false

-- Each stop by what the shelf has under the name comes exactly where it has that.
pub record LoadsExactly {T : Type 0} (content : Option (List ℕ)) (result : Result T SendStop) : Type 0 where
  pub no_such : IsErrOf result stop.NoSuch ↔ (content ≡ None)
  pub too_long : IsErrOf result stop.TooLong ↔ IsLong content
  pub bad_file : (code : ℕ) → IsErrOf result (stop.BadFile code) ↔ IsBad content code

-- the command wasn't stopped by the content of the name
abbrev pub IsPastFile : {T : Type 0} → Result T SendStop → Type 0
IsPastFile result = IfErr result (λ why. is_of_file why ≡ false)

-- but for a fault of the shelf and want of memory, and where it is told what the shelf holds
abbrev pub RefusesFile : {T : Type 0} → Option Holding → List ℕ → Result T SendStop → Type 0
RefusesFile held name result =
    ¬ IsErrOf result stop.Shelf → ¬ IsErrOf result stop.OutOfMemory
    → IfSome held (λ shelf. LoadsExactly (content_of shelf name) result)

-- The shelf's count of faults never falls. It rose where the shelf stopped the command, and stands as it stood where it
-- didn't.
pub record HasShelfCause {T : Type 0} (before now : ℕ) (result : Result T SendStop) : Type 0 where
  pub no_less : before ≤ now
  pub rose : IsErrOf result stop.Shelf → Rose before now
  pub same : ¬ IsErrOf result stop.Shelf → now ≡ before
