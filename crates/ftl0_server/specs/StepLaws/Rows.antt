-- Laws of the rows of a session's table: whose files their commands are of, whose file is received after them, and what
-- a read that fails changes.
use Rattle.std.specs.Prelude.{◌≡◌, ◌⊎◌, ℕ, List, [], ◌∷◌, Bool, true, false, Option, Some, ⊤}
use Rattle.px_base.specs.CallSign.{CallSign, IsCall}
use Rattle.ax25_frames.specs.FrameText.{FrameValue}
use Rattle.ax25_link.specs.Window.{Window}
use Rattle.ftl0_packets.specs.ErrorCodes.{octet_of}
use Rattle.ftl0_packets.specs.Layout.{Item, dl_error_resp}
use Rattle.ftl0_packets.specs.declared.error_code.ErrorCode.TheVariants as error
use Rattle.file_store_model.specs.Follows.{AreOf, IsOwnEntry}
use Rattle.file_store_model.specs.IsStore.{IsStore}
use Rattle.file_store.specs.Command.{AreAllowed, after_all}
use Rattle.file_store.specs.Store.{Store}
use Rattle.ftl0_session.specs.Lists.Lists.{CallerList}
use Rattle.ftl0_session.specs.Table.{DuePacket, Row, State, aborting, by_upload, command, listing, next_due, receiving}
use Rattle.ftl0_session.specs.Table.{sending, session_row, upload_part, waiting}
use Rattle.ftl0_session.specs.Uploads.Failures.{Failure}
use Rattle.ftl0_session.specs.Uploads.Session as upload
use Rattle.ftl0_server.specs.Connection.Connected.{Connected, caller_of}
use Rattle.ftl0_server.specs.Connection.Hearing.{Happened, hearing}
use Rattle.ftl0_server.specs.Connection.Taking.{Progress, queued}

-- the file that is received in this state, if there is one, is the caller's
abbrev pub ReceivesOwn : CallSign → Store → State → Type 0
ReceivesOwn caller store command = ⊤
ReceivesOwn caller store (receiving number rest) = IsOwnEntry caller store number
ReceivesOwn caller store aborting = ⊤
ReceivesOwn caller store (sending number place last) = ⊤
ReceivesOwn caller store waiting = ⊤
ReceivesOwn caller store (listing dues) = ⊤

-- If a file that is received is the caller's, each command of a packet's row begins a file as the caller, or is of an
-- entry that is the caller's in its turn.
abbrev pub CallerLaw : Type 0
CallerLaw =
    (caller : CallSign) (moment : ℕ) (store : Store) (lists : List CallerList) (state : State) (item : Item)
    (fails : Bool) → ReceivesOwn caller store state
    → AreOf caller store (session_row caller moment store lists state item fails).commands

-- the file that is received after a row, over the store after its commands, is the caller's
abbrev pub ReceivesBehind : CallSign → Store → Row → Type 0
ReceivesBehind caller store row = ReceivesOwn caller (after_all store row.commands) row.state

-- the same after the parts of an event that were taken over this store
abbrev pub ReceivesAfter : CallSign → Store → Progress → Type 0
ReceivesAfter caller store progress = ReceivesOwn caller (after_all store progress.done) progress.state

-- the same of a connection after an event over this store
abbrev pub ReceivesHeard : CallSign → Store → Happened → Type 0
ReceivesHeard caller store happened = ReceivesOwn caller (after_all store happened.done) happened.after.state

-- If a file that is received is the caller's, over a store that keeps its rules, the one that is received after a
-- packet's row is too, and the one once what is due was queued. So is the one after a whole frame each of whose
-- commands is allowed in its turn.
pub record ReceivesLaw : Type 0 where
  pub rows :
      (caller : CallSign) (moment : ℕ) (store : Store) (lists : List CallerList) (state : State) (item : Item)
      (fails : Bool) → IsStore store → ReceivesOwn caller store state
      → ReceivesBehind caller store (session_row caller moment store lists state item fails)
  pub queued :
      (caller : CallSign) (store : Store) (failures : List Failure) (progress : Progress)
      → ReceivesAfter caller store progress → ReceivesAfter caller store (queued store failures progress)
  pub heard :
      (w : Window) (moment : ℕ) (store : Store) (lists : List CallerList) (c : Connected) (frame : FrameValue)
      (failures : List Failure) → IsStore store → IsCall (caller_of c)
      → AreAllowed store (hearing w moment store lists c frame failures).done → ReceivesOwn (caller_of c) store c.state
      → ReceivesHeard (caller_of c) store (hearing w moment store lists c frame failures)

-- DL_ERROR_RESP 3 to a packet, and nothing else changes
abbrev pub failed_row : List CallerList → State → Row
failed_row lists state =
    record { state = state; lists = lists; commands = []; replies = dl_error_resp (octet_of error.ServerFsys) ∷ [] }

-- The row when a read fails is the one when none does; or it reports it by code 3, and does nothing else; or it is this
-- row of a file that can't be read, if there is one.
abbrev pub TellsOfRead : List CallerList → State → Option upload.Row → (Bool → Row) → Type 0
TellsOfRead lists state unread row =
    (row true ≡ row false) ⊎ ((row true ≡ failed_row lists state)
    ⊎ ((one : upload.Row) × (unread ≡ Some one) × (row true ≡ by_upload lists one)))

-- So is each row of the table. A file can't be read only at DATA_END of a whole one.
abbrev pub ReadsLaw : Type 0
ReadsLaw =
    (caller : CallSign) (moment : ℕ) (store : Store) (lists : List CallerList) (state : State) (item : Item)
    → TellsOfRead lists state (upload.row_unread store (upload_part state) item)
    (session_row caller moment store lists state item)

-- DL_ERROR_RESP 3 instead of what was due, and the session waits for a command
abbrev pub failed_due : DuePacket
failed_due = record { packet = dl_error_resp (octet_of error.ServerFsys); state = command }

-- What is sent next when a read fails is what is sent next when none does; or it is code 3 in its place.
abbrev pub DueReadsLaw : Type 0
DueReadsLaw =
    (store : Store) (state : State)
    → (next_due store state true ≡ next_due store state false) ⊎ (next_due store state true ≡ Some failed_due)
