-- The uploads of a caller's session (FTL0 1990, uploading): its states while it receives files or is ready to, and its
-- table row by row, as far as it is of uploading.
use Rattle.std.specs.Prelude.{ℕ, ◌+◌, ◌==◌, List, [], ◌∷◌, ◌++◌, length, Option, None, Some, Ok}
use Rattle.std.specs.Prelude.{bytes_eq, Bool, not, ◌&&◌, ◌||◌, if◌then◌else◌}
use Rattle.std.specs.Option.{option_or}
use Rattle.px_base.specs.CallSign.{CallSign}
use Rattle.pfh_items.specs.Faults.{fault_code}
use Rattle.ftl0_packets.specs.ErrorCodes.{octet_of}
use Rattle.ftl0_packets.specs.declared.error_code.ErrorCode.TheVariants as error
use Rattle.ftl0_packets.specs.Items.{kind_of_item}
use Rattle.ftl0_packets.specs.Layout.{Item, PacketValue, data_part, data_end}
use Rattle.ftl0_packets.specs.Layout.{ul_ack_resp, ul_error_resp, ul_go_resp, ul_nak_resp, upload_cmd}
use Rattle.file_store.specs.Command.{Command, begin, drop_entry, seal, can_begin, has_room, passes}
use Rattle.file_store.specs.Command.{last_grow, unfilled_block, whole_grows}
use Rattle.file_store.specs.Info.{is_complete}
use Rattle.file_store.specs.Store.{Entry, Store, entry_of, octets_at, octets_of}

-- A session waits for a command; or receives the file of this number, of which these octets aren't held yet; or waits
-- for the end of a file that it refused.
pub data State : Type 0 where
  command : State
  receiving : ℕ → List ℕ → State
  aborting : State

-- what a row of the table gives: the state after it, the store's commands and the replies, in order
pub record Row : Type 0 where
  pub state : State
  pub commands : List Command
  pub replies : List PacketValue

-- whether packets of this type belong to uploading, on the client's side: DATA, DATA_END and UPLOAD_CMD
abbrev pub is_upload_kind : ℕ → Bool
is_upload_kind kind = (kind == 0) || (kind == 1) || (kind == 3)

-- A packet that is refused in this state: UL_ERROR_RESP with this code, and nothing else changes.
abbrev pub refused_row : State → ℕ → Row
refused_row state code = record { state = state; commands = []; replies = ul_error_resp code ∷ [] }

-- the row of a new file that is begun: UL_GO_RESP with its number and offset 0, and its octets come next
abbrev pub granted_row : CallSign → ℕ → ℕ → ℕ → Row
granted_row caller moment number file_length =
    record {
      state = receiving number [];
      commands = begin number caller file_length moment ∷ [];
      replies = ul_go_resp number 0 ∷ [];
    }

-- Command, UPLOAD_CMD for a new file: it is begun with the store's next number. One that may not be begun, since it is
-- too long, or no entry, no number or no room is left: error 13.
abbrev pub begin_row : CallSign → ℕ → Store → ℕ → Row
begin_row caller moment store file_length =
    if can_begin store file_length then granted_row caller moment store.next file_length
    else refused_row command (octet_of error.NoRoom)

-- the same call
abbrev pub is_same_call : CallSign → CallSign → Bool
is_same_call one other = bytes_eq one.chars other.chars && (one.ssid == other.ssid)

-- the entry is of this caller and has this length
abbrev pub is_theirs : CallSign → ℕ → Entry → Bool
is_theirs caller file_length entry = is_same_call entry.caller caller && (entry.length == file_length)

-- the row of a file that goes on: UL_GO_RESP with its number and how many of its octets are held, and the octets after
-- these come next
abbrev pub resumed_row : ℕ → ℕ → Row
resumed_row number held =
    record { state = receiving number []; commands = []; replies = ul_go_resp number held ∷ [] }

-- Command, UPLOAD_CMD with the number of a file. There is no entry of the number: error 4. It is of another caller, or
-- has another length: error 2. It is complete: error 12. Else the file goes on.
abbrev pub continue_row : CallSign → ℕ → ℕ → Option Entry → Row
continue_row caller number file_length None = refused_row command (octet_of error.NoSuchFileNumber)
continue_row caller number file_length (Some entry) =
    if not (is_theirs caller file_length entry) then refused_row command (octet_of error.BadContinue)
    else if is_complete entry.holding then refused_row command (octet_of error.FileComplete)
    else resumed_row number (length (octets_of entry.holding))

-- Command, UPLOAD_CMD: number 0 is for a new file, and any other for the file of that number.
abbrev pub upload_row : CallSign → ℕ → Store → ℕ → ℕ → Row
upload_row caller moment store number file_length =
    if number == 0 then begin_row caller moment store file_length
    else continue_row caller number file_length (entry_of store number)

-- the row of octets for which the file has room: each whole 512 of those that wait then become held
abbrev pub taken_row : ℕ → List ℕ → Row
taken_row number octets =
    record { state = receiving number (unfilled_block octets); commands = whole_grows number octets; replies = [] }

-- Receiving, DATA: its octets are taken. More octets than the file has: UL_NAK_RESP 1, and the rest of the file is
-- waited out.
abbrev pub data_row : Store → ℕ → List ℕ → List ℕ → Row
data_row store number rest octets =
    if passes (λ e. has_room e.holding e.length (length (rest ++ octets))) (entry_of store number)
    then taken_row number (rest ++ octets)
    else record { state = aborting; commands = []; replies = ul_nak_resp (octet_of error.IllFormedCmd) ∷ [] }

-- whether the octets held and these are all of the entry's
abbrev pub is_all : Option Entry → List ℕ → Bool
is_all entry rest = passes (λ e. length (octets_of e.holding) + length rest == e.length) entry

-- all octets came, and this is the code of the first fault of the file, if it has one
abbrev pub whole_row : ℕ → ℕ → List ℕ → Option ℕ → Row
whole_row moment number rest None =
    record { state = command; commands = last_grow number rest ++ seal number moment ∷ []; replies = ul_ack_resp ∷ [] }
whole_row moment number rest (Some code) =
    record {
      state = command;
      commands = last_grow number rest ++ drop_entry number ∷ [];
      replies = ul_nak_resp code ∷ [];
    }

-- Receiving, DATA_END: a whole file without fault is sealed, and so kept with its stamp, UL_ACK_RESP; one with a fault
-- is dropped, UL_NAK_RESP with its code: 6, 7, 14, 15 or 16. Fewer octets than the file has: UL_NAK_RESP 16, and what
-- is held stays.
abbrev pub end_row : ℕ → Store → ℕ → List ℕ → Row
end_row moment store number rest =
    if is_all (entry_of store number) rest
    then whole_row moment number rest (fault_code (octets_at (entry_of store number) ++ rest))
    else record { state = command; commands = []; replies = ul_nak_resp (octet_of error.BodyCheck) ∷ [] }

-- a row without commands and replies
abbrev pub silent_row : State → Row
silent_row state = record { state = state; commands = []; replies = [] }

-- Any packet that belongs to uploading and has no row of its own, malformed ones too: error 1, and nothing else
-- changes. Any other packet has no row here.
abbrev pub error_row : State → Item → Option Row
error_row state item =
    if is_upload_kind (kind_of_item item) then Some (refused_row state (octet_of error.IllFormedCmd)) else None

-- The table, row by row: what a packet gives in a state, over a store, at a moment, if no read of the disk fails. None
-- exactly when the packet isn't of uploading.
unfoldable pub session_row : CallSign → ℕ → Store → State → Item → Option Row
session_row caller moment store command (Ok (upload_cmd number file_length)) =
    Some (upload_row caller moment store number file_length)
session_row caller moment store (receiving number rest) (Ok (data_part octets)) =
    Some (data_row store number rest octets)
session_row caller moment store (receiving number rest) (Ok data_end) = Some (end_row moment store number rest)
session_row caller moment store aborting (Ok (data_part octets)) = Some (silent_row aborting)
session_row caller moment store aborting (Ok data_end) = Some (silent_row command)
session_row caller moment store state item = error_row state item

-- the row of a whole file whose octets can't be read: those that wait become held, and the file stays under way
abbrev pub unread_row : ℕ → List ℕ → Row
unread_row number rest =
    record {
      state = command;
      commands = last_grow number rest;
      replies = ul_nak_resp (octet_of error.ServerFsys) ∷ [];
    }

-- The row of a packet at which the file is read, if a read of the disk fails: DATA_END of a whole file, UL_NAK_RESP 3.
-- At no other packet is anything read.
abbrev pub row_unread : Store → State → Item → Option Row
row_unread store (receiving number rest) (Ok data_end) =
    if is_all (entry_of store number) rest then Some (unread_row number rest) else None
row_unread store state item = None

-- The table, whether a read of the disk fails or none does.
abbrev pub row_by_read : CallSign → ℕ → Store → State → Item → Bool → Option Row
row_by_read caller moment store state item fails =
    option_or (if fails then row_unread store state item else None) (session_row caller moment store state item)

-- The reply to a packet at whose row a write or a sync of the disk failed: code 3, by UL_NAK_RESP if a file is
-- received, else by UL_ERROR_RESP.
abbrev pub fault_reply : State → PacketValue
fault_reply command = ul_error_resp (octet_of error.ServerFsys)
fault_reply (receiving number rest) = ul_nak_resp (octet_of error.ServerFsys)
fault_reply aborting = ul_error_resp (octet_of error.ServerFsys)
