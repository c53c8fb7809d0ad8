-- What a device over a file asks of the files.
use Rattle.std.specs.Prelude.{◌≡◌, ◌⊎◌, ℕ, List, [], ◌∷◌, ◌++◌, length, Bool, true, false, Option, None, Some, IfSome, MatchOption, Result, Ok, Err, IsErr}
use Rattle.real_outside.specs.Files.{OpensLocked, WritesOnce, octets_read}
use Rattle.real_outside.specs.declared.disk.device.DeviceDown.{DeviceDown}
use Rattle.real_outside.specs.declared.files.file_call.FileCall.{FileCall}
use Rattle.real_outside.specs.declared.files.file_call.FileCall.TheVariants as call
use Rattle.real_outside.specs.declared.system_error.SystemError.{SystemError}

-- a device over a file: the files, its path, the file if it is open, and whether its entry in its folder was synced
pub record FileDeviceState (S F : Type 0) : Type 0 where
  pub files : S
  pub path : List ℕ
  pub file : Option F
  pub has_entry : Bool

-- what the system answered if the device answers so
abbrev pub system_answer_of : {T : Type 0} → Result T DeviceDown → Result T SystemError
system_answer_of (Ok value) = Ok value
system_answer_of (Err down) = Err down.error

-- Its path stays, and if its file was open, that very file is open still.
pub record KeepsFile {S F : Type 0} (before now : FileDeviceState S F) : Type 0 where
  pub path : now.path ≡ before.path
  pub file : IfSome before.file (λ file. now.file ≡ Some file)

-- The open file is taken, or the file of this path is opened and locked; if that fails, the answer says why.
abbrev pub TakesFile : {F : Type 0} → (F → ℕ) → List ℕ → Option F → Result F DeviceDown → List FileCall → Type 0
TakesFile number path before (Ok file) calls =
    ((before ≡ Some file) × (calls ≡ [])) ⊎ ((before ≡ None) × OpensLocked path (Ok (number file)) calls)
TakesFile number path before (Err down) calls = (before ≡ None) × OpensLocked path (Err down.error) calls

-- A call of the device, of which P says what it asks of the file: if the file isn't open, it is opened and locked
-- first, and if that fails, nothing more is asked, and the answer says why.
abbrev pub AfterOpening :
    {S F T : Type 0} → (F → ℕ) → (before now : FileDeviceState S F) → Result T DeviceDown
    → (ℕ → List FileCall → Type 0) → List FileCall → Type 0
AfterOpening {S} {F} number before now result P calls =
    MatchOption now.file
    ((down : DeviceDown) × (result ≡ Err down) × TakesFile number before.path before.file (Err down) calls)
    (λ file.
    (opening later : List FileCall)
    × (calls ≡ opening ++ later)
    × TakesFile number before.path before.file (Ok file) opening
    × P (number file) later)

-- it is asked for its length, and that is the answer
abbrev pub AsksLength : Result ℕ DeviceDown → ℕ → List FileCall → Type 0
AsksLength result file calls = calls ≡ call.Length file (system_answer_of result) ∷ []

-- it is read once at this place, and the beginning of the room is what it gives
abbrev pub Reads : ℕ → List ℕ → Result ℕ DeviceDown → ℕ → List FileCall → Type 0
Reads at room result file calls = calls ≡ call.Read file at (length room) (octets_read (system_answer_of result) room) ∷ []

-- it is written to once at this place, unless the limit forbids that
abbrev pub Writes : ℕ → List ℕ → Result ℕ DeviceDown → ℕ → List FileCall → Type 0
Writes at octets result = WritesOnce at octets (system_answer_of result)

-- The file is synced, and then the folder, unless it was before: done is what both answer so.
abbrev pub SyncsWithEntry : Bool → List ℕ → Result Unit SystemError → ℕ → List FileCall → Type 0
SyncsWithEntry true folder result file calls = calls ≡ call.Sync file result ∷ []
SyncsWithEntry false folder result file calls =
    (IsErr result × (calls ≡ call.Sync file result ∷ []))
    ⊎ (calls ≡ call.Sync file (Ok tt) ∷ call.SyncFolder folder result ∷ [])

abbrev pub SyncsFile : Bool → List ℕ → Result Unit DeviceDown → ℕ → List FileCall → Type 0
SyncsFile has_entry folder result = SyncsWithEntry has_entry folder (system_answer_of result)
