-- What a start asks its system for, and the number that the process ends with.
use Rattle.std.specs.Prelude.{◌≡◌, ℕ, List, [], ◌∷◌, Option, None, Some, Result, Ok, Err, slice_get}
use Rattle.command_words.specs.declared.air.AirWord.TheVariants as air
use Rattle.command_words.specs.Airs.{IsAirOf}
use Rattle.px_base.specs.Outside.{Grows}
use Rattle.pacsat_cli.specs.declared.startup.host.HostCall.{HostCall}
use Rattle.pacsat_cli.specs.declared.startup.host.HostCall.TheVariants as call
use Rattle.pacsat_cli.specs.declared.startup.host.WordsRefusal.{WordsRefusal}
use Rattle.pacsat_cli.specs.declared.startup.host.WordsRefusal.TheVariants as refusal
use Rattle.pacsat_cli.specs.declared.status.Status.{Status}
use Rattle.pacsat_cli.specs.declared.status.Status.TheVariants as status
use Rattle.pacsat_cli.specs.Status.{number_of}

-- One call reached the system, with what it answered.
abbrev pub Follows : Option (List HostCall) → Option (List HostCall) → HostCall → Type 0
Follows before now made = Grows before now (made ∷ [])

-- the status of a run that has no words for this reason
abbrev pub status_of_words : WordsRefusal → Status
status_of_words refusal.NotText = status.Usage
status_of_words refusal.OutOfMemory = status.OutOfMemory

-- the word at a place, which is empty where there is none
abbrev pub word_or_empty : Option (List ℕ) → List ℕ
word_or_empty None = []
word_or_empty (Some word) = word

-- the first word
abbrev pub disk_of : List (List ℕ) → List ℕ
disk_of words = word_or_empty (slice_get words 0)

-- the second word
abbrev pub air_of : List (List ℕ) → List ℕ
air_of words = word_or_empty (slice_get words 1)

-- The call is the run of these words that ends with this status: over the disk of the first word, over the connection to the
-- host and port that the second names, or over the standard streams where it is `-`, or else without an air. Text goes to
-- standard error exactly where it is `-`.
abbrev pub IsRunOf : List (List ℕ) → Status → HostCall → Type 0
IsRunOf words ends (call.Holds answer) = ⊥
IsRunOf words ends (call.Reads answer) = ⊥
IsRunOf words ends (call.Ends told) = ⊥
IsRunOf words ends (call.OverConnection given disk at told) =
    (given ≡ words) × (disk ≡ disk_of words) × (at ≡ air_of words) × IsAirOf (air_of words) air.HostPort × (told ≡ ends)
IsRunOf words ends (call.OverStreams given disk told) =
    (given ≡ words) × (disk ≡ disk_of words) × IsAirOf (air_of words) air.Standard × (told ≡ ends)
IsRunOf words ends (call.WithoutAir given disk told) =
    (given ≡ words)
    × (disk ≡ disk_of words)
    × (IsAirOf (air_of words) air.HostPort → ⊥)
    × (IsAirOf (air_of words) air.Standard → ⊥)
    × (told ≡ ends)

-- a run that ends with this status before anything was done, and the number of the process then
abbrev pub EndsWith : Status → ℕ → List HostCall → Type 0
EndsWith ends number calls = (calls ≡ call.Ends ends ∷ []) × (number ≡ number_of ends)

-- what is asked for behind the words, and the number of the process
abbrev pub GoesOn : Result (List (List ℕ)) WordsRefusal → ℕ → List HostCall → Type 0
GoesOn (Err why) number calls = EndsWith (status_of_words why) number calls
GoesOn (Ok words) number calls =
    (made : HostCall) × (ends : Status) × (calls ≡ made ∷ []) × IsRunOf words ends made × (number ≡ number_of ends)

-- the words are asked for first, and done
abbrev pub ReadsFirst : ℕ → List HostCall → Type 0
ReadsFirst number [] = ⊥
ReadsFirst number (call.Holds answer ∷ later) = ⊥
ReadsFirst number (call.Reads answer ∷ later) = GoesOn answer number later
ReadsFirst number (call.Ends told ∷ later) = ⊥
ReadsFirst number (call.OverConnection given disk at told ∷ later) = ⊥
ReadsFirst number (call.OverStreams given disk told ∷ later) = ⊥
ReadsFirst number (call.WithoutAir given disk told ∷ later) = ⊥

-- What a start asks for, and the number of the process: the standard streams are to be open before anything else; where they
-- can't be, the status is that of a disk that fails; then the words are read, and done.
abbrev pub Starts : ℕ → List HostCall → Type 0
Starts number [] = ⊥
Starts number (call.Holds (Err closed) ∷ later) = EndsWith status.Disk number later
Starts number (call.Holds (Ok held) ∷ later) = ReadsFirst number later
Starts number (call.Reads answer ∷ later) = ⊥
Starts number (call.Ends told ∷ later) = ⊥
Starts number (call.OverConnection given disk at told ∷ later) = ⊥
Starts number (call.OverStreams given disk told ∷ later) = ⊥
Starts number (call.WithoutAir given disk told ∷ later) = ⊥
