-- How the code's session answers a packet, and what that does to the disk.
use Rattle.std.specs.Prelude.{◌≡◌, ℕ, List, [], ◌∷◌, Bool, true, false, Option, ⊤, Result, Ok, Err, IsErr, OnOk}
use Rattle.px_base.specs.CallSign.{CallSign}
use Rattle.disk_model.specs.declared.disk.Disk.{Ghosts}
use Rattle.ftl0_packets.specs.Items.{texts}
use Rattle.ftl0_packets.specs.Layout.{Item}
use Rattle.ftl0_session.specs.Lists.Lists.{CallerList}
use Rattle.file_store.specs.Command.{DoesAll, after_all}
use Rattle.file_store.specs.OnDisk.{outlined_all}
use Rattle.file_store.specs.EntriesKept.{KeepsComplete}
use Rattle.disk_model.specs.Runs.{ChangesReads}
use Rattle.file_store.specs.State.{IsKnown, StandsOn, StoreState, store_in, store_on}
use Rattle.file_store.specs.Store.{Store}
use Rattle.file_store.specs.Working.{CountsSome, DoesAmongReads, PutsAmongReads, one_if}
use Rattle.disk_model.specs.declared.disk.DiskFault.{DiskFault}
use Rattle.ftl0_session.specs.Uploads.Events.{CallerPacket, packet_of}
use Rattle.ftl0_session.specs.Uploads.Others.{KeepsOtherCallers}
use Rattle.disk_model.specs.AtDisk.{AtDisk, at}
use Rattle.ftl0_session.specs.Uploads.SessionState.{IsHeld, IsOnlyOut, SessionState as Uploading}
use Rattle.ftl0_session.specs.Downloads.Needs.{AreComplete, IsDueIn}
use Rattle.ftl0_session.specs.Downloads.Table.{DownloadRow, DownloadState}
use Rattle.ftl0_session.specs.Downloads.Taking.{Made, TakesByRow}
pub use Rattle.ftl0_session.specs.Causes.{Says, TellsRead}
use Rattle.ftl0_session.specs.SessionState.{SessionState, WorkingOn, caller_of, session_of, state_in, working_on}
use Rattle.ftl0_session.specs.Table.{Row, State, command, download_row, fault_reply, session_row}

-- what a session takes a packet over, and what it leaves for the next one: the store, the lists of all callers, its
-- state
pub record Working : Type 0 where
  pub store : StoreState
  pub lists : List CallerList
  pub state : State

-- a session over this store and these lists
abbrev pub working : SessionState → StoreState → List CallerList → Working
working session store lists = record { store = store; lists = lists; state = state_in store session }

-- the store with the octets that its files have on the disk
abbrev pub files_at : {D : Type 0} → Ghosts D → AtDisk Working D → Store
files_at g here = store_on g here.it.store here.disk

-- the packet's row over this store, whether a read fails or none does
abbrev pub row_over : CallSign → ℕ → Store → Working → Item → Bool → Row
row_over caller moment files before item fails =
    session_row caller moment files before.lists before.state item fails

-- the row of a caller's packet, over the store on its disk
abbrev pub packet_row : {D : Type 0} → Ghosts D → CallerPacket → AtDisk Working D → Bool → Row
packet_row g packet before fails =
    row_over packet.caller packet.moment (files_at g before) before.it packet.item fails

-- what the row gives is the store, the lists, the state and the replies now; the condition of each of its commands held
-- in turn
abbrev pub Gives : {D : Type 0} → Ghosts D → AtDisk Working D → Row → AtDisk Working D → List ℕ → Type 0
Gives g before row now replies =
    DoesAll (files_at g before) (files_at g now) row.commands × (now.it.lists ≡ row.lists)
    × (now.it.state ≡ row.state) × (replies ≡ texts row.replies)

-- The answer to a packet is its row of the table, or says that a write or a sync of the disk failed in one of the row's
-- commands.
abbrev pub Answers :
    {D : Type 0} → Ghosts D → AtDisk Working D → Row → AtDisk Working D → List ℕ → Result ⊤ DiskFault → Type 0
Answers g before row now replies (Ok done) = Gives g before row now replies
Answers g before row now replies (Err fault) = ⊤

-- What a packet with this row does to the disk. If it is answered, the row's commands are done, among reads of which
-- one failed or none; or a write or a sync failed in one of them, and no read. A crash since the packet came leaves the
-- store after the first of them, for some number of them, and the disk gets no longer than a store of this number of
-- blocks may be, or than it was.
abbrev pub PutsRow :
    {D : Type 0} → Ghosts D → Bool → Row → AtDisk Working D → AtDisk Working D → Result ⊤ DiskFault → Type 0
PutsRow g fails row before now (Ok done) =
    DoesAmongReads g ⊥ (one_if fails) before.it.store now.it.store before.disk now.disk row.commands
PutsRow g fails row before now (Err fault) =
    DoesAmongReads g ⊤ 0 before.it.store now.it.store before.disk now.disk row.commands

-- What a write or a sync of the disk that failed leaves, whatever is observed of the disk. No read failed, code 3 is
-- replied, the lists stay, and a command is waited for.
abbrev pub IsStopped :
    {D : Type 0} → Bool → AtDisk Working D → AtDisk Working D → List ℕ → Result ⊤ DiskFault → Type 0
IsStopped fails before now replies (Ok done) = ⊤
IsStopped fails before now replies (Err fault) =
    (fails ≡ false) × (now.it.state ≡ command) × (now.it.lists ≡ before.it.lists)
    × (replies ≡ texts (fault_reply before.it.state ∷ []))

-- The packet's row over what memory shows is this one, whether a read fails or none does: no octet of a file is looked
-- at for it.
abbrev pub LooksAtNone : CallerPacket → Working → Row → Type 0
LooksAtNone packet before row =
    (fails : Bool) → row_over packet.caller packet.moment (store_in before.store) before packet.item fails ≡ row

-- the answer to a packet is this row of the table, whatever is observed of the disk
abbrev pub AnswersAnyway : Row → Working → List ℕ → Result ⊤ DiskFault → Type 0
AnswersAnyway row now replies (Ok done) =
    (now.lists ≡ row.lists) × (now.state ≡ row.state) × (replies ≡ texts row.replies)
AnswersAnyway row now replies (Err fault) = ⊤

-- What a packet with this row gives and does to the disk, whatever is observed of the disk. No read failed. If it is
-- answered, memory shows the store after the row's commands.
pub record MakesAnyway {D : Type 0} (g : Ghosts D) (row : Row) (before now : AtDisk Working D)
    (replies : List ℕ) (result : Result ⊤ DiskFault) : Type 0 where
  pub answers : AnswersAnyway row now.it replies result
  pub on_disk : PutsRow g false row before now result
  pub memory :
      OnOk result (store_in now.it.store ≡ after_all (store_in before.it.store) (outlined_all row.commands))

-- A session takes a packet, malformed or not, and a read of the disk fails or none does. If it is known what the
-- store's files hold, the answer is the packet's row for that, which reports a read that failed by code 3, and the
-- row's commands are done. Whatever is observed of the disk, so it is of a row for which no octet of a file is looked
-- at, and what is replied to any packet has code 3 only if that has its cause.
pub record TakesPacket {D : Type 0} (g : Ghosts D) (packet : CallerPacket) (before now : AtDisk Working D)
    (replies : List ℕ) (result : Result ⊤ DiskFault) : Type 0 where
  pub fails : Bool
  pub stopped : IsStopped fails before now replies result
  pub told : IsKnown g before.disk → fails ≡ true → TellsRead (packet_row g packet before fails).replies
  pub answers :
      IsKnown g before.disk → Answers g before (packet_row g packet before fails) now replies result
  pub on_disk : IsKnown g before.disk → PutsRow g fails (packet_row g packet before fails) before now result
  pub reads : CountsSome (g.read_faults before.disk) (g.read_faults now.disk) (one_if fails)
  pub puts : PutsAmongReads g (IsErr result) before.disk now.disk
  pub anyway :
      (row : Row) → LooksAtNone packet before.it row
      → (fails ≡ false) × MakesAnyway g row before now replies result
  pub says : OnOk result (Says g before.disk fails replies)

-- a packet whose row has no command leaves the disk as reads do, if it is known what the store's files hold
abbrev pub ReadsAlone : {D : Type 0} → Ghosts D → Row → D → D → Type 0
ReadsAlone g row disk disk_now = IsKnown g disk → row.commands ≡ [] → ChangesReads g disk disk_now

-- a session at work, with its disk
abbrev pub at_work : {D : Type 0} → SessionState → WorkingOn D → AtDisk Working D
at_work session on = at (working session on.store on.lists) on.disk

-- What a packet of its caller does to a session, to the store, the lists and the disk, and what it keeps.
pub record Taken {D : Type 0} (g : Ghosts D) (packet : CallerPacket) (old new : SessionState)
    (before now : WorkingOn D) (replies : List ℕ) (result : Result ⊤ DiskFault) : Type 0 where
  pub takes : TakesPacket g packet (at_work old before) (at_work new now) replies result
  pub untouched :
      ReadsAlone g (packet_row g packet (at_work old before) takes.fails) before.disk now.disk
  pub failed : IsErr result → now.store.journal.failed ≡ true
  pub kept : KeepsComplete (store_in before.store) (store_in now.store)
  pub others : KeepsOtherCallers before.store now.store packet.caller
  pub caller : caller_of new ≡ packet.caller
  pub healthy : ¬ IsErr result → now.store.journal.failed ≡ false
  pub stands_on : StandsOn g now.store now.disk
  pub held : IsHeld now.store new.uploads
  pub only : IsOnlyOut now.store new.uploads
  pub due : IsDueIn (store_in now.store) new.downloads
  pub complete : AreComplete (store_in now.store) now.lists

-- what a session's calls are lent: its parts, and what all sessions work on
pub record Lent (D : Type 0) : Type 0 where
  pub uploads : Uploading
  pub downloads : DownloadState
  pub store : StoreState
  pub lists : List CallerList
  pub disk : D

-- by its parts
abbrev pub lent : {D : Type 0} → Uploading → DownloadState → StoreState → List CallerList → D → Lent D
lent uploads downloads store lists disk =
    record { uploads = uploads; downloads = downloads; store = store; lists = lists; disk = disk }

-- so a packet at this moment does it
abbrev pub TakenOver :
    {D : Type 0} → Ghosts D → ℕ → Item → Lent D → Lent D → List ℕ → Result ⊤ DiskFault → Type 0
TakenOver g moment item before now replies result =
    Taken g (packet_of before.uploads.caller moment item) (session_of before.uploads before.downloads)
    (session_of now.uploads now.downloads) (working_on before.store before.lists before.disk)
    (working_on now.store now.lists now.disk) replies result

-- the packet's row of downloading over this store, if it has one: not while a file is received, and not if it is
-- malformed
abbrev pub download_row_of : SessionState → StoreState → Store → List CallerList → Item → Bool → Option DownloadRow
download_row_of session store files lists item fails =
    download_row (caller_of session) files lists (state_in store session) item fails

-- So a packet of a session with these uploads is taken, over this store.
abbrev pub TakesDownload :
    {D : Type 0} → Ghosts D → Uploading → StoreState → Item → AtDisk Made D → AtDisk Made D → Bool → Type 0
TakesDownload g uploads store item before now taken =
    TakesByRow g store
    (λ files. download_row_of (session_of uploads before.it.state) store files before.it.lists item)
    before.disk now.disk before.it now.it taken
