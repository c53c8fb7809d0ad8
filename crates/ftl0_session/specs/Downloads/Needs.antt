-- What a session's downloads and the lists need of the store, what each of its calls is lent, and what that leaves.
use Rattle.std.specs.Prelude.{◌≡◌, ℕ, ◌≤◌, List, length, All, ⊤}
use Rattle.std.specs.List.{AllByRecursion}
use Rattle.disk_model.specs.declared.disk.Disk.{Ghosts}
use Rattle.ftl0_session.specs.Lists.Lists.{CallerList}
use Rattle.file_store.specs.Info.{IsCompleteIn}
use Rattle.file_store.specs.Reads.{StaysReady}
use Rattle.file_store.specs.State.{IsReady, StoreState, store_in}
use Rattle.file_store.specs.Store.{Store}
use Rattle.ftl0_session.specs.Downloads.Table.{DownloadState, Due, kept, listing, octets_in, ready, sending, stored}
use Rattle.ftl0_session.specs.Downloads.Table.{waiting}

-- the file is complete, and what is due of it lies within it
pub record LiesIn (store : Store) (number place last : ℕ) : Type 0 where
  pub complete : IsCompleteIn store number
  pub forward : place ≤ last
  pub within : last ≤ length (octets_in store number)

abbrev pub IsStored : Store → Due → Type 0
IsStored store (stored number place last) = LiesIn store number place last
IsStored store (kept octets) = ⊤

abbrev pub AreStored : Store → List Due → Type 0
AreStored store dues = AllByRecursion (IsStored store) dues

-- each file that is sent or listed is complete, and what is due of it lies within it
abbrev pub IsDueIn : Store → DownloadState → Type 0
IsDueIn store ready = ⊤
IsDueIn store (sending number place last) = LiesIn store number place last
IsDueIn store waiting = ⊤
IsDueIn store (listing dues) = AreStored store dues

-- the files of these numbers are complete
abbrev pub AreFiles : Store → List ℕ → Type 0
AreFiles store numbers = All (IsCompleteIn store) numbers

-- the numbers in the lists are those of complete files
abbrev pub AreComplete : Store → List CallerList → Type 0
AreComplete store lists = All (λ list. AreFiles store list.numbers) lists

-- What sending needs: the store is ready, and what is due lies within complete files.
pub record MaySend {D : Type 0} (g : Ghosts D) (store : StoreState) (disk : D) (state : DownloadState) : Type 0 where
  pub ready : IsReady g store disk
  pub due : IsDueIn (store_in store) state

-- What taking a packet needs: the store is ready, what is due lies within complete files, and the lists' numbers are
-- those of complete files.
pub record MayTake {D : Type 0} (g : Ghosts D) (store : StoreState) (disk : D) (lists : List CallerList)
    (state : DownloadState) : Type 0 where
  pub ready : IsReady g store disk
  pub due : IsDueIn (store_in store) state
  pub complete : AreComplete (store_in store) lists

-- What taking a command needs: the session is ready for it, the store is ready, and the lists' numbers are those of
-- complete files.
pub record MayCommand {D : Type 0} (g : Ghosts D) (store : StoreState) (disk : D) (lists : List CallerList)
    (state : DownloadState) : Type 0 where
  pub waits : state ≡ ready
  pub ready : IsReady g store disk
  pub complete : AreComplete (store_in store) lists

-- What listing these files needs: the store is ready, and they are complete, and at most ten.
pub record MayList {D : Type 0} (g : Ghosts D) (store : StoreState) (disk : D) (numbers : List ℕ) : Type 0 where
  pub ready : IsReady g store disk
  pub few : length numbers ≤ 10
  pub complete : AreFiles (store_in store) numbers

-- What a packet leaves: the store is as it was, and ready; what is due lies within complete files, and the lists'
-- numbers are those of complete files.
pub record KeepsFiles {D : Type 0} (g : Ghosts D) (store store_now : StoreState) (disk_now : D)
    (lists_now : List CallerList) (state_now : DownloadState) : Type 0 where
  pub stays : StaysReady g store store_now disk_now
  pub due : IsDueIn (store_in store_now) state_now
  pub complete : AreComplete (store_in store_now) lists_now
