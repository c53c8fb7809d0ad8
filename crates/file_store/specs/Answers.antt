-- The answers of the store's calls, and when each comes.
use Rattle.std.specs.Prelude.{◌≡◌, ℕ, ◌+◌, ◌<◌, List, length, Bool, true, false, if◌then◌else◌, Option, None, Some}
use Rattle.std.specs.Prelude.{Result, Ok, Err}
use Rattle.disk_model.specs.declared.disk.Disk.{Ghosts}
use Rattle.file_store_blocks.specs.Checking.{IsFaultCode}
use Rattle.px_base.specs.CallSign.{CallSign}
use Rattle.file_store_model.specs.Faults.{fault_code}
use Rattle.file_store_model.specs.Bars.{Bars}
use Rattle.file_store_model.specs.Command.{MayBegin}
use Rattle.file_store_model.specs.Info.{is_complete}
use Rattle.file_store_model.specs.Store.{Entry, Store, entry_of}
use Rattle.file_store_model.specs.declared.begin_bar.BeginBar.TheVariants as bar
use Rattle.file_store_model.specs.Command.{Command, last_grow}
use Rattle.file_store_blocks.specs.PlacedFiles.{octets_or_none}
use Rattle.disk_model.specs.Runs.{one_if}
use Rattle.file_store.specs.State.{HasFailed, IsKnown, StoreState, rest_in, store_in, store_on}
use Rattle.file_store.specs.Upload.{Upload, came, held_whole, octets_come, sealing}
use Rattle.file_store.specs.declared.refusals.BeginRefusal.{BeginRefusal}
use Rattle.file_store.specs.declared.refusals.BeginRefusal.TheVariants as begin_refusal
use Rattle.file_store.specs.declared.refusals.ResumeRefusal.{ResumeRefusal}
use Rattle.file_store.specs.declared.refusals.ResumeRefusal.TheVariants as resume_refusal
use Rattle.file_store.specs.declared.refusals.AppendRefusal.{AppendRefusal}
use Rattle.file_store.specs.declared.refusals.AppendRefusal.TheVariants as append_refusal
use Rattle.file_store.specs.declared.refusals.SealRefusal.{SealRefusal}
use Rattle.file_store.specs.declared.refusals.SealRefusal.TheVariants as seal_refusal

-- When a refusal to begin a file of this length comes, in the order in which the causes are looked for. A fault of the
-- disk comes only if nothing else does.
abbrev pub RefusesBegin : StoreState → ℕ → BeginRefusal → Type 0
RefusesBegin self file_length begin_refusal.TooLong = Bars bar.TooLong (store_in self) file_length
RefusesBegin self file_length begin_refusal.TooMany = Bars bar.TooMany (store_in self) file_length
RefusesBegin self file_length begin_refusal.NumbersGone = Bars bar.NumbersGone (store_in self) file_length
RefusesBegin self file_length (begin_refusal.NoRoom blocks free) =
    Bars (bar.NoRoom blocks free) (store_in self) file_length
RefusesBegin self file_length begin_refusal.Failed = MayBegin (store_in self) file_length × HasFailed self
RefusesBegin self file_length begin_refusal.Disk = MayBegin (store_in self) file_length × ¬ HasFailed self

-- the entry of this number is this one
abbrev pub IsEntry : StoreState → ℕ → Entry → Type 0
IsEntry self number entry = entry_of (store_in self) number ≡ Some entry

-- there is an entry of this number, and it is of this caller and this length
abbrev pub IsTheirs : StoreState → ℕ → CallSign → ℕ → Entry → Type 0
IsTheirs self number caller file_length entry =
    IsEntry self number entry × (entry.caller ≡ caller) × (entry.length ≡ file_length)

-- there is an entry of this number, and it isn't of this caller or not of this length
abbrev pub IsAnothers : StoreState → ℕ → CallSign → ℕ → Type 0
IsAnothers self number caller file_length =
    (entry : Entry) × IsEntry self number entry × ¬ ((entry.caller ≡ caller) × (entry.length ≡ file_length))

-- When a refusal to go on with an upload comes: exactly one answer is each store's.
abbrev pub RefusesResume : StoreState → ℕ → CallSign → ℕ → ResumeRefusal → Type 0
RefusesResume self number caller file_length resume_refusal.NoSuch = entry_of (store_in self) number ≡ None
RefusesResume self number caller file_length resume_refusal.Bad = IsAnothers self number caller file_length
RefusesResume self number caller file_length resume_refusal.Complete =
    (entry : Entry) × IsTheirs self number caller file_length entry × (is_complete entry.holding ≡ true)
RefusesResume self number caller file_length resume_refusal.Failed =
    (entry : Entry) × IsTheirs self number caller file_length entry × (is_complete entry.holding ≡ false)
    × HasFailed self

-- the entry with which the upload goes on
abbrev pub Resumes : StoreState → ℕ → CallSign → ℕ → Entry → Type 0
Resumes self number caller file_length entry =
    IsTheirs self number caller file_length entry × (is_complete entry.holding ≡ false) × ¬ HasFailed self

-- more octets would come of the upload's file than it has
abbrev pub IsTooMuch : StoreState → Upload → List ℕ → Type 0
IsTooMuch self up bytes = up.length < came self up + length bytes

-- When a refusal to append these octets comes; the upload that comes back is this one.
abbrev pub RefusesAppend : StoreState → Upload → List ℕ → AppendRefusal → Type 0
RefusesAppend self up bytes (append_refusal.TooMuch back) = IsTooMuch self up bytes × (back ≡ up)
RefusesAppend self up bytes append_refusal.Failed = ¬ IsTooMuch self up bytes × HasFailed self
RefusesAppend self up bytes append_refusal.Disk = ¬ IsTooMuch self up bytes × ¬ HasFailed self

-- fewer octets came than the file has
abbrev pub IsShort : StoreState → Upload → Type 0
IsShort self up = came self up < up.length

-- all octets of the upload's file came, and the store hasn't failed
abbrev pub MaySeal : StoreState → Upload → Type 0
MaySeal self up = ¬ IsShort self up × ¬ HasFailed self

-- the code is that of the first fault of the upload's file, if it is known which octets are held of it
abbrev pub HasFault : {D : Type 0} → Ghosts D → StoreState → D → Upload → ℕ → Type 0
HasFault g self disk up code =
    IsFaultCode code
    × (IsKnown g disk → fault_code (octets_come (store_on g self disk) self up) ≡ Some code)

-- When a refusal to seal comes; the upload that comes back is this one, if a read failed with all of its octets held;
-- and the code is that of the file's first fault.
abbrev pub RefusesSeal : {D : Type 0} → Ghosts D → StoreState → D → Upload → SealRefusal → Type 0
RefusesSeal g self disk up (seal_refusal.Short back) = IsShort self up × (back ≡ up)
RefusesSeal g self disk up (seal_refusal.Header code) = MaySeal self up × HasFault g self disk up code
RefusesSeal g self disk up (seal_refusal.Read back) = MaySeal self up × (back ≡ held_whole up)
RefusesSeal g self disk up seal_refusal.Failed = ¬ IsShort self up × HasFailed self
RefusesSeal g self disk up seal_refusal.Disk = MaySeal self up

-- A call of the store reached the disk: it did its commands, or the disk failed in one.
abbrev pub begin_reaches : {T : Type 0} → Result T BeginRefusal → Bool
begin_reaches (Ok up) = true
begin_reaches (Err begin_refusal.Disk) = true
begin_reaches (Err begin_refusal.TooLong) = false
begin_reaches (Err begin_refusal.TooMany) = false
begin_reaches (Err begin_refusal.NumbersGone) = false
begin_reaches (Err (begin_refusal.NoRoom blocks free)) = false
begin_reaches (Err begin_refusal.Failed) = false

abbrev pub append_reaches : {T : Type 0} → Result T AppendRefusal → Bool
append_reaches (Ok up) = true
append_reaches (Err append_refusal.Disk) = true
append_reaches (Err (append_refusal.TooMuch back)) = false
append_reaches (Err append_refusal.Failed) = false

abbrev pub seal_reaches : {T : Type 0} → Result T SealRefusal → Bool
seal_reaches (Ok receipt) = true
seal_reaches (Err (seal_refusal.Header code)) = true
seal_reaches (Err (seal_refusal.Read back)) = true
seal_reaches (Err seal_refusal.Disk) = true
seal_reaches (Err (seal_refusal.Short back)) = false
seal_reaches (Err seal_refusal.Failed) = false

-- the upload that comes back, if one does
abbrev pub back_of_append : AppendRefusal → Option Upload
back_of_append (append_refusal.TooMuch back) = Some back
back_of_append append_refusal.Failed = None
back_of_append append_refusal.Disk = None

abbrev pub back_of_seal : SealRefusal → Option Upload
back_of_seal (seal_refusal.Short back) = Some back
back_of_seal (seal_refusal.Header code) = None
back_of_seal (seal_refusal.Read back) = Some back
back_of_seal seal_refusal.Failed = None
back_of_seal seal_refusal.Disk = None

-- whether a read failed
abbrev pub seal_misses : {T : Type 0} → Result T SealRefusal → Bool
seal_misses (Ok receipt) = false
seal_misses (Err (seal_refusal.Short back)) = false
seal_misses (Err (seal_refusal.Header code)) = false
seal_misses (Err (seal_refusal.Read back)) = true
seal_misses (Err seal_refusal.Failed) = false
seal_misses (Err seal_refusal.Disk) = false

-- how many reads failed at least
abbrev pub seal_missed : {T : Type 0} → Result T SealRefusal → ℕ
seal_missed result = one_if (seal_misses result)

-- the commands of a call that seals the upload's file: those that wait become held, and if no read fails the file is
-- sealed, or dropped if it has a fault
abbrev pub seal_commands : {T : Type 0} → Result T SealRefusal → Store → StoreState → Upload → ℕ → List Command
seal_commands result store self up moment =
    if seal_misses result then last_grow up.number (octets_or_none (rest_in self up.number))
    else sealing store self up moment
