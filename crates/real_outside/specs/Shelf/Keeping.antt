-- What a shelf over a folder asks of the files when it keeps the octets of one.
use Rattle.std.specs.Prelude.{◌≡◌, ◌⊎◌, ◌↔◌, ℕ, ◌+◌, ◌<◌, List, [], ◌∷◌, ◌++◌, length, take, drop, codes}
use Rattle.std.specs.Prelude.{Bool, true, false, ◌||◌, Option, None, Some, Result, Ok, Err, IsOk, IsErr}
use Rattle.std.specs.Str.{bytes_eq}
use Rattle.std.specs.declared.io.ErrorKind.TheVariants as reason
use Rattle.real_outside.specs.Files.{OpensLocked, WritesOnce, folder_of}
use Rattle.real_outside.specs.declared.files.file_call.FileCall.{FileCall}
use Rattle.real_outside.specs.declared.files.file_call.FileCall.TheVariants as call
use Rattle.real_outside.specs.declared.files.file_call.Found.{Found}
use Rattle.real_outside.specs.declared.files.file_call.Found.TheVariants as found
use Rattle.real_outside.specs.declared.system_error.SystemError.{SystemError}

-- Steps
--
-- What a step asks for, by its answer. A step that is refused ends what is done, and its refusal is the answer.

-- a step's answer, and the calls that it makes
abbrev pub Step : Type 1
Step = Result Unit SystemError → List FileCall → Type 0

-- one call
abbrev pub Once : (Result Unit SystemError → FileCall) → Step
Once asked result calls = calls ≡ asked result ∷ []

-- first the one step, and if it is done the other
abbrev pub InTurn : Step → Step → Step
InTurn First Next result calls =
    (IsErr result × First result calls)
    ⊎ ((first later : List FileCall) × (calls ≡ first ++ later) × First (Ok tt) first × Next result later)

-- a file is opened, and then asked for a step
abbrev pub OnOpened :
    (Result ℕ SystemError → List FileCall → Type 0) → (Result Unit SystemError → ℕ → List FileCall → Type 0) → Step
OnOpened Opens Next result calls =
    ((error : SystemError) × (result ≡ Err error) × Opens (Err error) calls)
    ⊎ ((file : ℕ) × (first later : List FileCall)
    × (calls ≡ first ++ later)
    × Opens (Ok file) first
    × Next result file later)

-- the file of this path is opened and locked, and then asked for a step
abbrev pub OnLocked : List ℕ → (Result Unit SystemError → ℕ → List FileCall → Type 0) → Step
OnLocked path = OnOpened (OpensLocked path)

-- Writing

-- One write at this place: of none of these octets is a refusal.
abbrev pub WritesSome : ℕ → List ℕ → Result ℕ SystemError → ℕ → List FileCall → Type 0
WritesSome at octets (Ok count) file calls = (0 < count) × WritesOnce at octets (Ok count) file calls
WritesSome at octets (Err error) file calls =
    WritesOnce at octets (Err error) file calls
    ⊎ (WritesOnce at octets (Ok 0) file calls × (error ≡ record { kind = reason.WriteZero; number = None }))

-- These octets are written from this place on, each write after the octets of the one before, until none is left; the
-- first refusal is the answer. Each write is two calls, since the limit is asked for before; only one that the limit
-- forbids is one.
abbrev pub WritesFrom : ℕ → List ℕ → Result Unit SystemError → ℕ → List FileCall → Type 0
WritesFrom at octets result file [] = (octets ≡ []) × (result ≡ Ok tt)
WritesFrom at octets result file (first ∷ []) =
    (error : SystemError)
    × (0 < length octets)
    × WritesSome at octets (Err error) file (first ∷ [])
    × (result ≡ Err error)
WritesFrom at octets result file (first ∷ second ∷ later) =
    (0 < length octets)
    × (((error : SystemError)
    × WritesSome at octets (Err error) file (first ∷ second ∷ [])
    × (later ≡ [])
    × (result ≡ Err error))
    ⊎ ((count : ℕ)
    × WritesSome at octets (Ok count) file (first ∷ second ∷ [])
    × WritesFrom (at + count) (drop count octets) result file later))

-- All of the octets are written from the start of the file, and it is synced.
abbrev pub WritesSynced : List ℕ → Result Unit SystemError → ℕ → List FileCall → Type 0
WritesSynced octets result file =
    InTurn (λ done. WritesFrom 0 octets done file) (Once (call.Sync file)) result

-- Its octets are taken away, and a mode is set if one is given.
abbrev pub Prepares : Option ℕ → Result Unit SystemError → ℕ → List FileCall → Type 0
Prepares None result file = Once (call.Cut file) result
Prepares (Some mode) result file = InTurn (Once (call.Cut file)) (Once (call.SetMode file mode)) result

-- It holds these octets alone, and has the mode that is given, for good.
abbrev pub Fills : Option ℕ → List ℕ → Result Unit SystemError → ℕ → List FileCall → Type 0
Fills mode octets result file =
    InTurn (λ done. Prepares mode done file) (λ done. WritesSynced octets done file) result

-- Keeping

-- A regular file is written to in place, once its lock is taken.
abbrev pub KeepsIn : List ℕ → List ℕ → Step
KeepsIn name octets = OnLocked name (Fills None octets)

-- What was written at the path `part` replaces what is at `path`, while the file that was written and the one that is
-- held are open still.
abbrev pub FillsAndMoves :
    List ℕ → List ℕ → Option ℕ → ℕ → List ℕ → Result Unit SystemError → ℕ → List FileCall → Type 0
FillsAndMoves path part mode held octets result file =
    InTurn (λ done. Fills mode octets done file) (Once (call.Rename file held part path)) result

-- Then the folder is synced; if that wasn't done, the file at `part` is taken away.
abbrev pub MovesFilled :
    List ℕ → List ℕ → Option ℕ → ℕ → List ℕ → Result Unit SystemError → ℕ → List FileCall → Type 0
MovesFilled path part mode held octets result file calls =
    ((first : List FileCall) × (removed : Result Unit SystemError)
    × (calls ≡ first ++ call.Remove part removed ∷ [])
    × IsErr result
    × FillsAndMoves path part mode held octets result file first)
    ⊎ ((first : List FileCall)
    × (calls ≡ first ++ call.SyncFolder (folder_of path) result ∷ [])
    × FillsAndMoves path part mode held octets (Ok tt) file first)

-- something that is no regular file is at the path at which the new content is to be written first
abbrev pub already_there : SystemError
already_there = record { kind = reason.AlreadyExists; number = None }

-- whether a file may be written first at a path at which this was found: a regular file there was left by an earlier
-- call
abbrev pub answer_of_part : Result Found SystemError → Result Unit SystemError
answer_of_part (Ok found.Nothing) = Ok tt
answer_of_part (Ok (found.File mode)) = Ok tt
answer_of_part (Ok found.Link) = Err already_there
answer_of_part (Ok found.Other) = Err already_there
answer_of_part (Err error) = Err error

-- what is at this path is looked at
abbrev pub ChecksPart : List ℕ → Step
ChecksPart part result calls =
    (there : Result Found SystemError) × (calls ≡ call.Look part there ∷ []) × (result ≡ answer_of_part there)

-- The file at `part` is opened and locked for that; before, it is looked at, so that nothing but a regular file is
-- opened.
abbrev pub OpensPart : List ℕ → Result ℕ SystemError → List FileCall → Type 0
OpensPart part result calls =
    ((error : SystemError) × (result ≡ Err error) × ChecksPart part (Err error) calls)
    ⊎ ((first later : List FileCall)
    × (calls ≡ first ++ later)
    × ChecksPart part (Ok tt) first
    × OpensLocked part result later)

-- A file that isn't there yet is written so.
abbrev pub WritesNew : List ℕ → List ℕ → List ℕ → Step
WritesNew path part octets = OnOpened (OpensPart part) (λ done file. MovesFilled path part None file octets done file)

-- One that is there, and is held, is replaced so.
abbrev pub WritesOver : List ℕ → List ℕ → ℕ → ℕ → List ℕ → Step
WritesOver path part mode held octets = OnOpened (OpensPart part) (MovesFilled path part (Some mode) held octets)

-- there is no memory for a path
abbrev pub out_of_memory : SystemError
out_of_memory = record { kind = reason.OutOfMemory; number = None }

-- What is at the path with `.part` appended replaces what is at the path; a regular file that is there is locked
-- before.
abbrev pub Replaces : List ℕ → Option ℕ → List ℕ → Step
Replaces path None octets result calls =
    WritesNew path (path ++ codes ".part") octets result calls ⊎ ((calls ≡ []) × (result ≡ Err out_of_memory))
Replaces path (Some mode) octets result calls =
    OnLocked path (λ done held. WritesOver path (path ++ codes ".part") mode held octets done) result calls
    ⊎ ((calls ≡ []) × (result ≡ Err out_of_memory))

-- the system makes up what has this name
abbrev pub is_of_system : List ℕ → Bool
is_of_system name = bytes_eq (take 5 name) (codes "/dev/") || bytes_eq (take 6 name) (codes "/proc/")

-- what a link led to isn't there any more
abbrev pub led_nowhere : SystemError
led_nowhere = record { kind = reason.NotFound; number = None }

-- a link of this name leads to a path at which this is found
abbrev pub KeepsAt : List ℕ → List ℕ → List ℕ → Found → Step
KeepsAt name path octets (found.File mode) result calls =
    ((is_of_system name ≡ true) × KeepsIn name octets result calls)
    ⊎ ((is_of_system name ≡ false) × Replaces path (Some mode) octets result calls)
KeepsAt name path octets found.Nothing result calls = (calls ≡ []) × (result ≡ Err led_nowhere)
KeepsAt name path octets found.Link result calls = (calls ≡ []) × (result ≡ Err led_nowhere)
KeepsAt name path octets found.Other result calls = Once (call.Pour name octets) result calls

-- what is at this path is looked at, and then asked for a step
abbrev pub OnFound : List ℕ → (Found → Step) → Step
OnFound path Next result calls =
    ((error : SystemError) × (result ≡ Err error) × (calls ≡ call.Look path (Err error) ∷ []))
    ⊎ ((there : Found) × (later : List FileCall)
    × (calls ≡ call.Look path (Ok there) ∷ later)
    × Next there result later)

-- a link of this name leads to this path
abbrev pub KeepsLinked : List ℕ → List ℕ → List ℕ → Step
KeepsLinked name path octets = OnFound path (KeepsAt name path octets)

-- A link leads to no path for this reason: if nothing is there, it is written to in place, and made so; or poured to,
-- if the system made the link.
abbrev pub KeepsUnresolved : List ℕ → List ℕ → SystemError → Step
KeepsUnresolved name octets error result calls =
    ((error.kind ≡ reason.NotFound) × (is_of_system name ≡ true) × Once (call.Pour name octets) result calls)
    ⊎ ((error.kind ≡ reason.NotFound) × (is_of_system name ≡ false) × KeepsIn name octets result calls)
    ⊎ ((error.kind ≡ reason.NotFound → ⊥) × (calls ≡ []) × (result ≡ Err error))

-- A link is followed.
abbrev pub FollowsLink : List ℕ → List ℕ → Step
FollowsLink name octets result calls =
    ((path : List ℕ) × (later : List FileCall)
    × (calls ≡ call.Resolve name (Ok path) ∷ later)
    × KeepsLinked name path octets result later)
    ⊎ ((error : SystemError) × (later : List FileCall)
    × (calls ≡ call.Resolve name (Err error) ∷ later)
    × KeepsUnresolved name octets error result later)

-- a name at which this is found
abbrev pub KeepsFound : List ℕ → List ℕ → Found → Step
KeepsFound name octets found.Nothing = Replaces name None octets
KeepsFound name octets (found.File mode) = Replaces name (Some mode) octets
KeepsFound name octets found.Link = FollowsLink name octets
KeepsFound name octets found.Other = Once (call.Pour name octets)

-- The octets of the file of this name are set.
abbrev pub Keeps : List ℕ → List ℕ → Step
Keeps name octets = OnFound name (KeepsFound name octets)

-- The shelf answers Ok exactly if that was done.
abbrev pub KeepsAs : {E : Type 0} → List ℕ → List ℕ → Result Unit E → List FileCall → Type 0
KeepsAs name octets result calls =
    (kept : Result Unit SystemError) × (IsOk result ↔ IsOk kept) × Keeps name octets kept calls
