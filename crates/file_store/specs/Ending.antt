-- How the end of a file of which all octets came goes.
use Rattle.std.specs.Prelude.{◌≡◌, ◌⊎◌, ℕ, List, [], ◌∷◌, ◌++◌, length, Bool, true, false, if◌then◌else◌}
use Rattle.std.specs.Prelude.{Option, None, Some, Result, Ok, Err, IsErr, IsTrue, IfOk, ⊤}
use Rattle.file_store_blocks.specs.Checking.{IsFaultCode}
use Rattle.file_store_blocks.specs.PlacedFiles.{KeepsRests, octets_or_none}
use Rattle.disk_model.specs.AtDisk.{AtDisk, at}
use Rattle.disk_model.specs.declared.disk.Disk.{Ghosts}
use Rattle.disk_model.specs.declared.disk.DiskFault.{DiskFault}
use Rattle.file_store_model.specs.Command.{Command, last_grow}
use Rattle.file_store_model.specs.Faults.{fault_code}
use Rattle.file_store_model.specs.Info.{IsCompleteIn}
use Rattle.file_store_model.specs.Store.{Entry, Store, complete, entry_of, partial}
use Rattle.disk_model.specs.Runs.{one_if, Reads}
use Rattle.file_store.specs.Kept.{OnlyChanges}
use Rattle.file_store.specs.OnDisk.{Does}
use Rattle.file_store.specs.State.{IsKnown, StandsOn, StoreState, rest_in, store_in, store_on}
use Rattle.file_store.specs.Upload.{come_of, ending}
use Rattle.file_store.specs.Working.{DoesAmongReads}
use Rattle.file_store.specs.declared.end.End.{End}
use Rattle.file_store.specs.declared.end.End.TheVariants as end

-- The store is on its disk, and each file of another number is as it was, with what waits of it. No file is new.
pub record LeavesOthers {D : Type 0} (g : Ghosts D) (old new : StoreState) (disk_now : D) (number : ℕ)
    : Type 0 where
  pub stands_on : StandsOn g new disk_now
  pub only : OnlyChanges (store_in old) (store_in new) number
  pub rests : KeepsRests old.files new.files number

-- the octets that wait of this number
abbrev pub rest_of_number : StoreState → ℕ → List ℕ
rest_of_number self number = octets_or_none (rest_in self number)

-- All octets of the file are held, which is under way and out still, and none waits; it is what it was otherwise.
abbrev pub IsWhole : StoreState → StoreState → ℕ → Type 0
IsWhole old new number =
    (entry : Entry) → entry_of (store_in old) number ≡ Some entry
    → (held : List ℕ) × (entry_of (store_in new) number ≡ Some (record entry { holding = partial held }))
    × (length held ≡ entry.length) × (rest_in new number ≡ Some [])

-- the entry of this number is complete, and was sealed in this moment
abbrev pub IsSealedAt : Store → ℕ → ℕ → Type 0
IsSealedAt store number moment =
    (entry : Entry) × (octets : List ℕ) × (entry_of store number ≡ Some entry)
    × (entry.holding ≡ complete octets moment)

-- what became of the file of this number: it is complete, sealed in this moment; or gone, with this code of its first
-- fault; or as it was, with all of its octets held
abbrev pub EndsAs : {D : Type 0} → Ghosts D → StoreState → StoreState → D → ℕ → ℕ → End → Type 0
EndsAs g old new disk number moment end.Sealed =
    IsSealedAt (store_in new) number moment × IsCompleteIn (store_in new) number × (rest_in new number ≡ None)
    × (IsKnown g disk → fault_code (come_of (store_on g old disk) old number) ≡ None)
EndsAs g old new disk number moment (end.Dropped code) =
    (entry_of (store_in new) number ≡ None) × (rest_in new number ≡ None) × IsFaultCode code
    × (IsKnown g disk → fault_code (come_of (store_on g old disk) old number) ≡ Some code)
EndsAs g old new disk number moment end.Unread = IsWhole old new number

-- whether a read failed
abbrev pub end_misses : Result End DiskFault → Bool
end_misses (Ok end.Sealed) = false
end_misses (Ok (end.Dropped code)) = false
end_misses (Ok end.Unread) = true
end_misses (Err fault) = false

-- those octets become held that wait, and if no read failed the file is ended as one with this code of its first fault,
-- or with none
abbrev pub end_commands : Result End DiskFault → List ℕ → ℕ → ℕ → Option ℕ → List Command
end_commands result rest number moment code =
    if end_misses result then last_grow number rest
    else last_grow number rest ++ ending number moment code ∷ []

-- what the answer says of the code with which the file is ended: a sealed one has none, a dropped one that which is
-- reported
abbrev pub EndsWith : End → Option ℕ → Type 0
EndsWith end.Sealed code = code ≡ None
EndsWith (end.Dropped fault) code = code ≡ Some fault
EndsWith end.Unread code = ⊤

-- The first commands were all done, and then came reads, which failed or didn't. If one failed, that is all; if none
-- did, the last commands were done then, or the disk failed in one of them.
pub record ReadsBetween {D : Type 0} (g : Ghosts D) (failed : Type 0) (missed : Bool)
    (before now : AtDisk StoreState D) (first last : List Command) : Type 0 where
  pub then_is : AtDisk StoreState D
  pub disk_read : D
  pub holds : Does g ⊥ before.it then_is.it before.disk then_is.disk first
  pub reads : Reads g (IsTrue missed) then_is.disk disk_read
  pub unread : IsTrue missed → now ≡ at then_is.it disk_read
  pub ends : ¬ IsTrue missed → Does g failed then_is.it now.it disk_read now.disk last

-- the disk failed in the first commands, and nothing came then; or they were done, and reads came between them and the
-- last
abbrev pub EndsInOrder :
    {D : Type 0} → Ghosts D → Type 0 → Bool → AtDisk StoreState D → AtDisk StoreState D → List Command
    → List Command → Type 0
EndsInOrder g failed missed before now first last =
    (failed × Does g failed before.it now.it before.disk now.disk first)
    ⊎ ReadsBetween g failed missed before now first last

-- The commands that end the file of this number were done, with reads among them, or the disk failed. Which they are
-- the answer says, and the first fault of the octets that came decides, if it is known which these are. First those
-- octets become held that wait, then the file is read, then it is ended. Each other file is as it was.
pub record EndsFile {D : Type 0} (g : Ghosts D) (result : Result End DiskFault) (old new : StoreState)
    (disk disk_now : D) (number moment : ℕ) : Type 0 where
  pub code : Option ℕ
  pub tells : IsKnown g disk → code ≡ fault_code (come_of (store_on g old disk) old number)
  pub answers : IfOk result (λ end. EndsWith end code)
  pub does :
      DoesAmongReads g (IsErr result) (one_if (end_misses result)) old new disk disk_now
      (end_commands result (rest_of_number old number) number moment code)
  pub order :
      EndsInOrder g (IsErr result) (end_misses result) (at old disk) (at new disk_now)
      (last_grow number (rest_of_number old number)) (ending number moment code ∷ [])
  pub leaves : LeavesOthers g old new disk_now number
  pub file : IfOk result (EndsAs g old new disk number moment)
