-- What contracts see of a shelf over a folder, and what it answers if the system answers so.
use Rattle.std.specs.Prelude.{◌≡◌, ◌≢◌, ◌↔◌, ℕ, List, [], ◌∷◌, Option, Some, Result, Ok, Err, OnOk, IfErr, IfOk, IsErr}
use Rattle.std.specs.IoError.{error_kind}
use Rattle.std.specs.declared.io.Error.{Error}
use Rattle.std.specs.declared.io.ErrorKind.{ErrorKind}
use Rattle.std.specs.declared.io.ErrorKind.TheVariants as reason
use Rattle.px_base.specs.declared.shelf.ShelfRefusal.{ShelfRefusal}
use Rattle.px_base.specs.declared.shelf.ShelfRefusal.TheVariants as refusal
use Rattle.px_base.specs.Outside.{Grows, counted}
use Rattle.real_outside.specs.Files.{refusal as refused}
use Rattle.real_outside.specs.declared.files.file_call.FileCall.{FileCall}
use Rattle.real_outside.specs.declared.files.file_call.FileCall.TheVariants as call
use Rattle.real_outside.specs.declared.system_error.SystemError.{SystemError}
use Rattle.px_base.specs.Shelves.{AnswersOfAll, LoadResult, load_answer}

-- a shelf over a folder: its files, and the count of faults
pub record Folder (S : Type 0) : Type 0 where
  pub files : S
  pub faults : ℕ

-- the count of faults after a load with this answer
abbrev pub counted_after_load : LoadResult → ℕ → ℕ
counted_after_load (Ok content) faults = faults
counted_after_load (Err refusal.NoSuch) faults = faults
counted_after_load (Err refusal.TooLong) faults = faults
counted_after_load (Err refusal.Fault) faults = counted faults
counted_after_load (Err refusal.OutOfMemory) faults = faults

-- A file that can't be read for this reason is refused so.
pub record RefusesReading (kind : ErrorKind) (result : ShelfRefusal) : Type 0 where
  pub memory : (result ≡ refusal.OutOfMemory) ↔ (kind ≡ reason.OutOfMemory)
  pub fault : kind ≢ reason.OutOfMemory → result ≡ refusal.Fault

-- One that can't be opened for this reason is refused so: `NoSuch` exactly if the system says that nothing is there.
pub record RefusesOpening (kind : ErrorKind) (result : ShelfRefusal) : Type 0 where
  pub no_such : (result ≡ refusal.NoSuch) ↔ (kind ≡ reason.NotFound)
  pub memory : (result ≡ refusal.OutOfMemory) ↔ (kind ≡ reason.OutOfMemory)
  pub fault : kind ≢ reason.NotFound → kind ≢ reason.OutOfMemory → result ≡ refusal.Fault

-- what a load of at most this number of octets answers if reading one more answered so, and gave these octets
pub record IsReadingAnswer (read : Result ℕ Error) (octets : List ℕ) (most : ℕ) (result : LoadResult) : Type 0 where
  pub ok : OnOk read (result ≡ load_answer (Some octets) most)
  pub err : IfErr read (λ error. IsErr result × IfErr result (RefusesReading (error_kind error)))

-- what a load answers if opening the file answered so: `NoSuch` only if that says that nothing is there
abbrev pub OpensToLoad : Result Unit SystemError → LoadResult → Type 0
OpensToLoad (Ok done) result = result ≢ Err refusal.NoSuch
OpensToLoad (Err error) result = IsErr result × IfErr result (RefusesOpening error.kind)

-- What a load of at most this number of octets asks of the files, and what it answers: the file of this path is opened
-- once, and if that is done, the answer is of all octets that its reader has left.
abbrev pub AnswersOpened :
    {R : Type 0} → (R → Option (List ℕ)) → (before now : Option (List FileCall)) → List ℕ → ℕ → LoadResult → Type 0
AnswersOpened {R} remaining before now path most result =
    (opened : Result R SystemError)
    × Grows before now (call.OpenToRead path (refused opened) ∷ [])
    × OpensToLoad (refused opened) result
    × IfOk opened (λ file. AnswersOfAll (remaining file) most result)
