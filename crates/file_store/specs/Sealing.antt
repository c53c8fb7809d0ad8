-- How a call that seals the file of an upload ends it, by its answer.
use Rattle.std.specs.Prelude.{◌≡◌, ℕ, List, [], ◌∷◌, ◌++◌, if◌then◌else◌, Option, None, Some, Result, Ok, Err}
use Rattle.std.specs.Prelude.{IsErrOf, ⊤}
use Rattle.disk_model.specs.AtDisk.{at}
use Rattle.disk_model.specs.declared.disk.Disk.{Ghosts}
use Rattle.file_store_model.specs.Command.{Command, last_grow}
use Rattle.file_store_model.specs.Faults.{fault_code}
use Rattle.file_store.specs.Answers.{seal_missed, seal_misses}
use Rattle.file_store.specs.Ending.{EndsInOrder}
use Rattle.file_store.specs.State.{IsKnown, StoreState, store_on}
use Rattle.file_store.specs.Upload.{Upload, ending, octets_come, waiting}
use Rattle.file_store.specs.Working.{DoesAmongReads}
use Rattle.file_store.specs.declared.refusals.SealRefusal.{SealRefusal}
use Rattle.file_store.specs.declared.refusals.SealRefusal.TheVariants as seal_refusal

-- what the answer says of the code with which the file is ended: a sealed one has none, a refused one that which is
-- reported
abbrev pub SealsWith : {T : Type 0} → Result T SealRefusal → Option ℕ → Type 0
SealsWith (Ok receipt) code = code ≡ None
SealsWith (Err (seal_refusal.Short back)) code = ⊤
SealsWith (Err (seal_refusal.Header fault)) code = code ≡ Some fault
SealsWith (Err (seal_refusal.Read back)) code = ⊤
SealsWith (Err seal_refusal.Failed) code = ⊤
SealsWith (Err seal_refusal.Disk) code = ⊤

-- the commands of the call if it ends the file as one with this code of its first fault, or with none
abbrev pub commands_with : {T : Type 0} → Result T SealRefusal → StoreState → Upload → ℕ → Option ℕ → List Command
commands_with result self up moment code =
    if seal_misses result then last_grow up.number (waiting self up)
    else last_grow up.number (waiting self up) ++ ending up.number moment code ∷ []

-- The commands by which a call seals the upload's file, whether it is known what the files hold or not. Which they are
-- the answer says: it is sealed, or dropped with the code that is reported, or as it was; if the disk failed, one of
-- the first two was to come. If the file's octets are known, the code is that of their first fault. First those octets
-- become held that wait; then the file is read; and if no read failed, it is ended then.
pub record SealsFile {D T : Type 0} (g : Ghosts D) (result : Result T SealRefusal) (old new : StoreState)
    (disk disk_now : D) (up : Upload) (moment : ℕ) : Type 0 where
  pub code : Option ℕ
  pub tells : IsKnown g disk → code ≡ fault_code (octets_come (store_on g old disk) old up)
  pub answers : SealsWith result code
  pub does :
      DoesAmongReads g (IsErrOf result seal_refusal.Disk) (seal_missed result) old new disk disk_now
      (commands_with result old up moment code)
  pub order :
      EndsInOrder g (IsErrOf result seal_refusal.Disk) (seal_misses result) (at old disk) (at new disk_now)
      (last_grow up.number (waiting old up)) (ending up.number moment code ∷ [])
