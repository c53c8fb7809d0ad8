-- What is kept of a refusal of the system, and what is made of its answers.
use Rattle.std.specs.Prelude.{◌≡◌, ◌≢◌, None, Result, Ok, Err}
use Rattle.std.specs.Fs.{IsFile, IsSymlink, file_type, metadata_mode}
use Rattle.std.specs.IoError.{error_kind, raw_os_error}
use Rattle.std.specs.declared.fs.attrs.Metadata.{Metadata}
use Rattle.std.specs.declared.fs.locks.TryLockError.{TryLockError}
use Rattle.std.specs.declared.fs.locks.TryLockError.TheVariants as locked
use Rattle.std.specs.declared.io.Error.{Error}
use Rattle.std.specs.declared.io.ErrorKind.TheVariants as reason
use Rattle.real_outside.specs.declared.files.file_call.Found.{Found}
use Rattle.real_outside.specs.declared.files.file_call.Found.TheVariants as found
use Rattle.real_outside.specs.declared.system_error.SystemError.{SystemError}

-- the kind of an error, and its number if the system gave one
abbrev pub system_error : Error → SystemError
system_error refused = record { kind = error_kind refused; number = raw_os_error refused }

-- the answer of a call that asks for a lock: one that another holds would have to be waited for
abbrev pub answer_of_lock : Result Unit TryLockError → Result Unit SystemError
answer_of_lock (Ok done) = Ok tt
answer_of_lock (Err locked.WouldBlock) = Err (record { kind = reason.WouldBlock; number = None })
answer_of_lock (Err (locked.Error error)) = Err (system_error error)

-- what is at a path of which the system says this: a regular file, a link, or anything else
pub record IsFoundThere (there : Metadata) (result : Result Found SystemError) : Type 0 where
  pub file : IsFile (file_type there) → result ≡ Ok (found.File (metadata_mode there))
  pub link : IsSymlink (file_type there) → result ≡ Ok found.Link
  pub other : (IsFile (file_type there) → ⊥) → (IsSymlink (file_type there) → ⊥) → result ≡ Ok found.Other

-- what is at a path of which the system can't say that for this reason: nothing exactly if it says that nothing is
-- there
pub record IsNotFound (error : Error) (result : Result Found SystemError) : Type 0 where
  pub nothing : error_kind error ≡ reason.NotFound → result ≡ Ok found.Nothing
  pub refused : error_kind error ≢ reason.NotFound → result ≡ Err (system_error error)

-- what is at a path if the system answers so
abbrev pub IsFound : Result Metadata Error → Result Found SystemError → Type 0
IsFound (Ok there) result = IsFoundThere there result
IsFound (Err error) result = IsNotFound error result
