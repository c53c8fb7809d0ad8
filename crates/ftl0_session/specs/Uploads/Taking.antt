-- How the code's session answers a packet of uploading, and what that does to the disk.
use Rattle.std.specs.Prelude.{◌≡◌, ℕ, List, [], ◌∷◌, Bool, true, false, ⊤, Option, Some, Result, Ok, Err}
use Rattle.std.specs.Prelude.{IsErr, OnOk}
use Rattle.disk_model.specs.declared.disk.Disk.{Ghosts}
use Rattle.ftl0_packets.specs.ErrorCodes.{octet_of}
use Rattle.ftl0_packets.specs.declared.error_code.ErrorCode.{ErrorCode}
use Rattle.ftl0_packets.specs.declared.error_code.ErrorCode.TheVariants as error
use Rattle.ftl0_packets.specs.Layout.{ul_error_resp, ul_nak_resp}
use Rattle.file_store.specs.Command.{DoesAll, after_all}
use Rattle.file_store.specs.OnDisk.{outlined_all}
use Rattle.file_store.specs.EntriesKept.{KeepsComplete}
use Rattle.file_store.specs.declared.refusals.BeginRefusal.{BeginRefusal}
use Rattle.file_store.specs.declared.refusals.BeginRefusal.TheVariants as refusal
use Rattle.file_store.specs.Files.{store_of}
use Rattle.file_store.specs.Like.{IsStoreLike}
use Rattle.file_store.specs.State.{IsKnown, StandsOn, StoreState, store_in, store_on}
use Rattle.file_store.specs.Store.{Store}
use Rattle.file_store.specs.Working.{CountsSome, DoesAmongReads, PutsAmongReads, one_if}
use Rattle.ftl0_session.specs.declared.uploads.phase.Phase.{Phase}
use Rattle.disk_model.specs.declared.disk.DiskFault.{DiskFault}
use Rattle.ftl0_session.specs.Causes.{Says}
use Rattle.ftl0_session.specs.Uploads.Events.{CallerPacket}
use Rattle.ftl0_session.specs.Uploads.Others.{KeepsOtherCallers}
use Rattle.ftl0_packets.specs.Items.{texts}
use Rattle.ftl0_session.specs.Uploads.Session.{Row, State, command, fault_reply, row_by_read}
use Rattle.disk_model.specs.AtDisk.{AtDisk, at}
use Rattle.ftl0_session.specs.Uploads.SessionState.{NoOtherOut, PhaseIsHeld, number_of, state_of}

-- what a session takes a packet of uploading over, and what it leaves: the store and the state
pub record Working : Type 0 where
  pub store : StoreState
  pub state : State

-- by its parts, with their disk
abbrev pub working_at : {D : Type 0} → AtDisk StoreState D → State → AtDisk Working D
working_at files state = at (record { store = files.it; state = state }) files.disk

-- the store with the octets that its files have on the disk
abbrev pub files_at : {D : Type 0} → Ghosts D → AtDisk Working D → Store
files_at g here = store_on g here.it.store here.disk

-- the packet's row over this store, whether a read of the disk fails or none does: each packet of uploading has one
abbrev pub row_of : CallerPacket → Store → State → Bool → Option Row
row_of packet store state fails = row_by_read packet.caller packet.moment store state packet.item fails

-- what the row gives is the store, the state and the replies now; the condition of each of its commands held in turn
abbrev pub Gives : {D : Type 0} → Ghosts D → AtDisk Working D → Row → AtDisk Working D → List ℕ → Type 0
Gives g before row now replies =
    DoesAll (files_at g before) (files_at g now) row.commands × (now.it.state ≡ row.state)
    × (replies ≡ texts row.replies)

-- The answer to a packet is its row of the table, or says that a write or a sync of the disk failed in one of the row's
-- commands.
abbrev pub Answers :
    {D : Type 0} → Ghosts D → AtDisk Working D → Row → AtDisk Working D → List ℕ → Result ⊤ DiskFault → Type 0
Answers g before row now replies (Ok done) = Gives g before row now replies
Answers g before row now replies (Err fault) = ⊤

-- What a packet with this row does to the disk. If it is answered, the row's commands are done, among reads of which
-- one failed or none; or a write or a sync failed in one of them, and no read. A crash since the packet came leaves the
-- store after the first of them, for some number of them, and the disk gets no longer than a store of this number of
-- blocks may be, or than it was.
abbrev pub PutsRow :
    {D : Type 0} → Ghosts D → Bool → Row → AtDisk Working D → AtDisk Working D → Result ⊤ DiskFault → Type 0
PutsRow g fails row before now (Ok done) =
    DoesAmongReads g ⊥ (one_if fails) before.it.store now.it.store before.disk now.disk row.commands
PutsRow g fails row before now (Err fault) =
    DoesAmongReads g ⊤ 0 before.it.store now.it.store before.disk now.disk row.commands

-- What a packet with this row gives, whether a read of the disk failed, which code 3 reports, or none did.
pub record MakesRow {D : Type 0} (g : Ghosts D) (fails : Bool) (row : Row)
    (before now : AtDisk Working D) (replies : List ℕ) (result : Result ⊤ DiskFault) : Type 0 where
  pub told : fails ≡ true → row.replies ≡ ul_nak_resp (octet_of error.ServerFsys) ∷ []
  pub answers : Answers g before row now replies result
  pub on_disk : PutsRow g fails row before now result
  pub untouched : fails ≡ false → row.commands ≡ [] → now.disk ≡ before.disk

-- What a write or a sync of the disk that failed leaves, whatever is observed of the disk. No read failed, code 3 is
-- replied, and a command is waited for.
abbrev pub IsStopped :
    {D : Type 0} → Bool → AtDisk Working D → AtDisk Working D → List ℕ → Result ⊤ DiskFault → Type 0
IsStopped fails before now replies (Ok done) = ⊤
IsStopped fails before now replies (Err fault) =
    (fails ≡ false) × (now.it.state ≡ command) × (replies ≡ texts (fault_reply before.it.state ∷ []))

-- The packet's row over what memory shows is this one, whether a read fails or none does: no octet of a file is looked
-- at for it.
abbrev pub LooksAtNone : CallerPacket → Working → Row → Type 0
LooksAtNone packet before row =
    (fails : Bool) → row_of packet (store_in before.store) before.state fails ≡ Some row

-- the answer to a packet is this row of the table, whatever is observed of the disk
abbrev pub AnswersAnyway : Row → Working → List ℕ → Result ⊤ DiskFault → Type 0
AnswersAnyway row now replies (Ok done) = (now.state ≡ row.state) × (replies ≡ texts row.replies)
AnswersAnyway row now replies (Err fault) = ⊤

-- What a packet with this row gives and does to the disk, whatever is observed of the disk. No read failed. If it is
-- answered, memory shows the store after the row's commands.
pub record MakesAnyway {D : Type 0} (g : Ghosts D) (row : Row) (before now : AtDisk Working D)
    (replies : List ℕ) (result : Result ⊤ DiskFault) : Type 0 where
  pub answers : AnswersAnyway row now.it replies result
  pub on_disk : PutsRow g false row before now result
  pub memory :
      OnOk result (store_in now.it.store ≡ after_all (store_in before.it.store) (outlined_all row.commands))

-- A session takes a packet, malformed or not, and a read of the disk fails or none does. What it gives is the packet's
-- row for that, if it is known what the store's files hold; and whatever is observed of the disk, if no octet of a file
-- is looked at for it. A code 3 in its replies has its cause.
pub record TakesPacket {D : Type 0} (g : Ghosts D) (packet : CallerPacket) (before now : AtDisk Working D)
    (replies : List ℕ) (result : Result ⊤ DiskFault) : Type 0 where
  pub fails : Bool
  pub stopped : IsStopped fails before now replies result
  pub makes :
      IsKnown g before.disk
      → (row : Row) × (row_of packet (files_at g before) before.it.state fails ≡ Some row)
      × MakesRow g fails row before now replies result
  pub reads : CountsSome (g.read_faults before.disk) (g.read_faults now.disk) (one_if fails)
  pub puts : PutsAmongReads g (IsErr result) before.disk now.disk
  pub anyway :
      (row : Row) → LooksAtNone packet before.it row
      → (fails ≡ false) × MakesAnyway g row before now replies result
  pub says : OnOk result (Says g before.disk fails replies)

-- the answer by UL_ERROR_RESP with this code
abbrev pub AnswersCode : ErrorCode → List ℕ → Result ⊤ DiskFault → Type 0
AnswersCode code replies result = (result ≡ Ok tt) × (replies ≡ texts (ul_error_resp (octet_of code) ∷ []))

-- The answer to a refusal to begin a file, of a store that hadn't failed before: error 13; or code 3 if the disk
-- failed.
abbrev pub AnswersRefusal : BeginRefusal → List ℕ → Result ⊤ DiskFault → Type 0
AnswersRefusal refusal.TooLong replies result = AnswersCode error.NoRoom replies result
AnswersRefusal refusal.TooMany replies result = AnswersCode error.NoRoom replies result
AnswersRefusal refusal.NumbersGone replies result = AnswersCode error.NoRoom replies result
AnswersRefusal (refusal.NoRoom blocks free) replies result = AnswersCode error.NoRoom replies result
AnswersRefusal refusal.Failed replies result = ⊥
AnswersRefusal refusal.Disk replies result = IsErr result × (replies ≡ texts (fault_reply command ∷ []))

-- What a packet gives in a state: the phase after it and the answer, and what it leaves and keeps.
pub record Answered {D : Type 0} (g : Ghosts D) (packet : CallerPacket) (state : State)
    (before now : AtDisk StoreState D) (replies : List ℕ) (taken : Phase × Result ⊤ DiskFault) : Type 0 where
  pub takes :
      TakesPacket g packet (working_at before state) (working_at now (state_of now.it taken.0)) replies taken.1
  pub failed : IsErr taken.1 → now.it.journal.failed ≡ true
  pub healthy : ¬ IsErr taken.1 → now.it.journal.failed ≡ false
  pub stands_on : StandsOn g now.it now.disk
  pub held : PhaseIsHeld now.it packet.caller taken.0
  pub only : NoOtherOut now.it packet.caller (number_of taken.0)
  pub others : KeepsOtherCallers before.it now.it packet.caller
  pub kept : KeepsComplete (store_in before.it) (store_in now.it)

-- a row without commands gives this state and these replies
abbrev pub GivesAlone : Option Row → State → List ℕ → Type 0
GivesAlone given next replies =
    (row : Row) × (given ≡ Some row) × (row.commands ≡ []) × (next ≡ row.state) × (replies ≡ texts row.replies)

-- What a packet gives that leaves the disk alone: its row over each store that is so, whatever octets its files have.
-- The files are as they were, except that an upload may have gone out or been given up.
pub record AnsweredAlone (packet : CallerPacket) (state : State) (before now : StoreState) (replies : List ℕ)
    (taken : Phase × Result ⊤ DiskFault) : Type 0 where
  pub answered : taken.1 ≡ Ok tt
  pub gives :
      (store : Store) → IsStoreLike (store_in before) store
      → GivesAlone (row_of packet store state false) (state_of now taken.0) replies
  pub files : store_of now.files ≡ store_of before.files
  pub journal : now.journal ≡ before.journal
  pub held : PhaseIsHeld now packet.caller taken.0
  pub only : NoOtherOut now packet.caller (number_of taken.0)
  pub others : KeepsOtherCallers before now packet.caller
