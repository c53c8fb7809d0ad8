-- What a file is asked for, step by step.
use Rattle.std.specs.Prelude.{◌≡◌, ◌⊎◌, ℕ, ◌<◌, ◌≤◌, List, [], ◌∷◌, take, codes, length, ◌==◌, if◌then◌else◌, Option, None, Some, Result, Ok, Err, String}
use Rattle.std.specs.Path.{path_parent}
use Rattle.std.specs.String.{string_bytes}
use Rattle.std.specs.declared.io.ErrorKind.TheVariants as reason
use Rattle.real_outside.specs.declared.files.file_call.FileCall.{FileCall}
use Rattle.real_outside.specs.declared.files.file_call.FileCall.TheVariants as call
use Rattle.real_outside.specs.declared.system_error.SystemError.{SystemError}

-- what a call answers that gives a file, which is recorded as its number
abbrev pub file_answer : {F : Type 0} → (F → ℕ) → Result F SystemError → Result ℕ SystemError
file_answer number (Ok file) = Ok (number file)
file_answer number (Err error) = Err error

-- what a call answers that gives a path, which is recorded as its octets
abbrev pub path_answer : {Z : Type 0} → Result (String Z) SystemError → Result (List ℕ) SystemError
path_answer (Ok path) = Ok (string_bytes path)
path_answer (Err error) = Err error

-- whether a call is refused, and why
abbrev pub refusal : {T : Type 0} → Result T SystemError → Result Unit SystemError
refusal (Ok value) = Ok tt
refusal (Err error) = Err error

-- the octets of the room that a read gave
abbrev pub octets_read : {E : Type 0} → Result ℕ E → List ℕ → Result (List ℕ) E
octets_read (Ok count) room = Ok (take count room)
octets_read (Err error) room = Err error

-- The file of this path is opened, and its lock is asked for once it is; if either is refused, there is none.
abbrev pub OpensLocked : List ℕ → Result ℕ SystemError → List FileCall → Type 0
OpensLocked path (Ok file) calls = calls ≡ call.Open path (Ok file) ∷ call.Lock file (Ok tt) ∷ []
OpensLocked path (Err error) calls =
    (calls ≡ call.Open path (Err error) ∷ [])
    ⊎ ((file : ℕ) × (calls ≡ call.Open path (Ok file) ∷ call.Lock file (Err error) ∷ []))

-- a write that would begin at the limit on the sizes of files, or past it
abbrev pub past_limit : SystemError
past_limit = record { kind = reason.FileTooLarge; number = None }

-- The limit is asked for. A write that begins below it is made once, and its answer is the file's; any other isn't made.
abbrev pub WritesOnce : ℕ → List ℕ → Result ℕ SystemError → ℕ → List FileCall → Type 0
WritesOnce at octets result file calls =
    (limit : ℕ)
    × (((at < limit) × (calls ≡ call.Limit limit ∷ call.Write file at octets result ∷ []))
    ⊎ ((limit ≤ at) × (calls ≡ call.Limit limit ∷ []) × (result ≡ Err past_limit)))

-- a folder's path, which is empty if it is the working folder
abbrev pub named_folder : Option (List ℕ) → List ℕ
named_folder None = codes "."
named_folder (Some folder) = if length folder == 0 then codes "." else folder

-- the folder of a path: its parent, or the working folder
abbrev pub folder_of : List ℕ → List ℕ
folder_of path = named_folder (path_parent path)
