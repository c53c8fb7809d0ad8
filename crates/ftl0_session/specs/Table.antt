-- The session of one caller (FTL0 1990): its states, and its table, which has a row for each packet.
use Rattle.std.specs.Prelude.{ℕ, ◌+◌, ◌==◌, List, [], ◌∷◌, Bool, false, if◌then◌else◌, Option, None, Some, Ok, Err}
use Rattle.std.specs.Option.{option_map}
use Rattle.px_base.specs.CallSign.{CallSign}
use Rattle.ftl0_packets.specs.ErrorCodes.{octet_of}
use Rattle.ftl0_packets.specs.declared.error_code.ErrorCode.TheVariants as error
use Rattle.ftl0_packets.specs.Items.{kind_of_item}
use Rattle.ftl0_packets.specs.Layout.{Item, PacketValue, dl_error_resp, login_resp, ul_error_resp, ul_nak_resp}
use Rattle.ftl0_session.specs.Lists.Lists.{CallerList}
use Rattle.file_store.specs.Command.{Command}
use Rattle.file_store.specs.Store.{Store}
use Rattle.file_store.specs.Working.{one_if}
use Rattle.ftl0_session.specs.Uploads.Failures.{Failure, read_fails}
use Rattle.ftl0_session.specs.Uploads.Session as upload
use Rattle.ftl0_session.specs.Downloads.Sending as due
use Rattle.ftl0_session.specs.Downloads.Table as download
use Rattle.ftl0_session.specs.Downloads.Table.{DownloadRow, DownloadState, Due}

-- A session waits for a command; or receives the file of this number, of which these octets aren't held yet; or waits
-- for the end of a file that it refused; or sends the file of this number from one place up to another; or waits for
-- DL_ACK_CMD or DL_NAK_CMD; or sends headers, of which these are still due.
pub data State : Type 0 where
  command : State
  receiving : ℕ → List ℕ → State
  aborting : State
  sending : ℕ → ℕ → ℕ → State
  waiting : State
  listing : List Due → State

-- what the session does of uploading
abbrev pub upload_part : State → upload.State
upload_part command = upload.command
upload_part (receiving number rest) = upload.receiving number rest
upload_part aborting = upload.aborting
upload_part (sending number place last) = upload.command
upload_part waiting = upload.command
upload_part (listing dues) = upload.command

-- what it does of downloading
abbrev pub download_part : State → DownloadState
download_part command = download.ready
download_part (receiving number rest) = download.ready
download_part aborting = download.ready
download_part (sending number place last) = download.sending number place last
download_part waiting = download.waiting
download_part (listing dues) = download.listing dues

-- the state of a session that does this of downloading, and nothing of uploading
abbrev pub downloading : DownloadState → State
downloading download.ready = command
downloading (download.sending number place last) = sending number place last
downloading download.waiting = waiting
downloading (download.listing dues) = listing dues

-- the state by both parts, of which one is at rest
abbrev pub state_by : upload.State → DownloadState → State
state_by upload.command part = downloading part
state_by (upload.receiving number rest) part = receiving number rest
state_by upload.aborting part = aborting

-- what a row of the table gives: the state after it, the lists of all callers, the store's commands and the replies, in
-- order
pub record Row : Type 0 where
  pub state : State
  pub lists : List CallerList
  pub commands : List Command
  pub replies : List PacketValue

-- a row of uploading leaves the lists
abbrev pub by_upload : List CallerList → upload.Row → Row
by_upload lists row =
    record {
      state = state_by row.state download.ready;
      lists = lists;
      commands = row.commands;
      replies = row.replies;
    }

-- a row of downloading has no command of the store
abbrev pub by_download : DownloadRow → Row
by_download row =
    record { state = downloading row.state; lists = row.lists; commands = []; replies = row.replies }

-- error 1 to a packet of uploading, or to any other one
abbrev pub error_by : Bool → PacketValue
error_by of_uploading =
    if of_uploading then ul_error_resp (octet_of error.IllFormedCmd) else dl_error_resp (octet_of error.IllFormedCmd)

-- error 1: UL_ERROR_RESP to DATA, DATA_END and UPLOAD_CMD, DL_ERROR_RESP to all others; and nothing else changes
abbrev pub error_row : List CallerList → State → Item → Row
error_row lists state item =
    record {
      state = state;
      lists = lists;
      commands = [];
      replies = error_by (upload.is_upload_kind (kind_of_item item)) ∷ [];
    }

-- The packet's row of uploading, whether a read fails or none does, if it has one: none while something is sent or
-- listed, or DL_ACK_CMD or DL_NAK_CMD is waited for.
abbrev pub upload_row : CallSign → ℕ → Store → State → Item → Bool → Option upload.Row
upload_row caller moment store command item fails =
    upload.row_by_read caller moment store upload.command item fails
upload_row caller moment store (receiving number rest) item fails =
    upload.row_by_read caller moment store (upload.receiving number rest) item fails
upload_row caller moment store aborting item fails =
    upload.row_by_read caller moment store upload.aborting item fails
upload_row caller moment store state item fails = None

-- The packet's row of downloading, whether a read fails or none does, if it has one: none while a file is received, or
-- the end of a refused one is waited for, and none if it is malformed.
abbrev pub download_row : CallSign → Store → List CallerList → State → Item → Bool → Option DownloadRow
download_row caller store lists state (Err malformed) fails = None
download_row caller store lists (receiving number rest) (Ok packet) fails = None
download_row caller store lists aborting (Ok packet) fails = None
download_row caller store lists state (Ok packet) fails =
    download.download_row caller store lists (download_part state) packet fails

-- the one of these rows that there is; error 1 if there is none
abbrev pub row_among : List CallerList → State → Item → Option upload.Row → Option DownloadRow → Row
row_among lists state item (Some row) other = by_upload lists row
row_among lists state item None (Some row) = by_download row
row_among lists state item None None = error_row lists state item

-- The table: what a packet, malformed or not, gives in a state, over a store and the lists of all callers, at a moment,
-- whether a read of the disk fails or none does.
unfoldable pub session_row : CallSign → ℕ → Store → List CallerList → State → Item → Bool → Row
session_row caller moment store lists state item fails =
    row_among lists state item (upload_row caller moment store state item fails)
    (download_row caller store lists state item fails)

-- The reply to a packet at whose row a write or a sync of the disk failed: code 3, by UL_NAK_RESP if a file is
-- received, else by UL_ERROR_RESP.
abbrev pub fault_reply : State → PacketValue
fault_reply state = upload.fault_reply (upload_part state)

-- LOGIN_RESP's flags: version 0, file headers in use, and in bit 3 whether the caller's list has numbers left
abbrev pub flags : Bool → ℕ
flags left = if left then 12 else 4

-- the reply to the connection (FTL0 1990, LOGIN_RESP)
abbrev pub greeting : ℕ → Bool → PacketValue
greeting moment left = login_resp moment (flags left)

-- a packet that is sent, and the state after it
pub record DuePacket : Type 0 where
  pub packet : PacketValue
  pub state : State

-- what downloading sends, as the session does
abbrev pub in_session : due.DuePacket → DuePacket
in_session next = record { packet = next.packet; state = downloading next.state }

-- What a session sends next by itself in a state, whether a read fails or none does; nothing except while a file is
-- sent or headers are.
abbrev pub next_due : Store → State → Bool → Option DuePacket
next_due store state fails = option_map in_session (due.next_due store (download_part state) fails)

-- whether a reply of a row, or a packet that is sent, reports that a read of the disk failed: DL_ERROR_RESP or
-- UL_NAK_RESP with code 3
abbrev pub tells_failed_read : PacketValue → Bool
tells_failed_read (dl_error_resp code) = code == octet_of error.ServerFsys
tells_failed_read (ul_nak_resp code) = code == octet_of error.ServerFsys
tells_failed_read packet = false

-- how many of these packets do
abbrev pub failed_reads_told : List PacketValue → ℕ
failed_reads_told [] = 0
failed_reads_told (packet ∷ packets) = one_if (tells_failed_read packet) + failed_reads_told packets

-- The row of a packet that is the part of this number of an event with these failures: a read fails if they list one.
abbrev pub row_at : CallSign → ℕ → Store → List CallerList → State → Item → List Failure → ℕ → Row
row_at caller moment store lists state item failures part =
    session_row caller moment store lists state item (read_fails failures part)

-- what is sent next, as the part of this number of an event with these failures
abbrev pub due_at : Store → State → List Failure → ℕ → Option DuePacket
due_at store state failures part = next_due store state (read_fails failures part)
