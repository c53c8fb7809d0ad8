-- Laws of the session's table: which packets have a row, what is granted, what goes on, what is acknowledged, and that
-- this stays.
use Rattle.std.specs.Prelude.{◌≡◌, ◌≢◌, ℕ, ◌+◌, ◌≤◌, List, [], ◌∷◌, ◌++◌, length, true}
use Rattle.std.specs.Prelude.{Option, None, Some, IfSome, is_some, Ok}
use Rattle.std.specs.List.{AllByRecursion}
use Rattle.px_base.specs.CallSign.{CallSign, IsCall}
use Rattle.px_base.specs.Octets.{IsOctets}
use Rattle.ftl0_packets.specs.ErrorCodes.{octet_of}
use Rattle.ftl0_packets.specs.declared.error_code.ErrorCode.TheVariants as error
use Rattle.ftl0_packets.specs.Items.{kind_of_item}
use Rattle.ftl0_packets.specs.Layout.{Item, PacketValue, data_end, ul_ack_resp, ul_error_resp}
use Rattle.ftl0_packets.specs.Layout.{ul_nak_resp, upload_cmd}
use Rattle.pfh_items.specs.Faults.{fault_code}
use Rattle.pfh_items.specs.Stamp.{stamped}
use Rattle.file_store.specs.Command.{AreAllowed, Command, after_all, can_begin, stamp_of}
use Rattle.pfh_writer.specs.KeptFile.{KeepsClient}
use Rattle.file_store.specs.Store.{Entry, Store, complete, entry_of, partial}
use Rattle.file_store.specs.OnDisk.{MakesBetween}
use Rattle.file_store.specs.State.{StandsFor}
use Rattle.ftl0_session.specs.Uploads.Session.{Row, State, command, granted_row, is_upload_kind, receiving, resumed_row}
use Rattle.ftl0_session.specs.Uploads.Session.{row_by_read, session_row, unread_row}

-- Each packet of uploading, malformed or not, has a row in each state, and no other packet has one in any.
abbrev pub RowsLaw : Type 0
RowsLaw =
    (caller : CallSign) (moment : ℕ) (store : Store) (state : State) (item : Item)
    → is_some (session_row caller moment store state item) ≡ is_upload_kind (kind_of_item item)

-- A new file that may be begun is begun, with the next number, and UL_GO_RESP says this number and place 0.
abbrev pub GrantedLaw : Type 0
GrantedLaw =
    (caller : CallSign) (moment : ℕ) (store : Store) (file_length : ℕ) → can_begin store file_length ≡ true
    → session_row caller moment store command (Ok (upload_cmd 0 file_length))
    ≡ Some (granted_row caller moment store.next file_length)

-- not code 3
abbrev pub IsNoFault : PacketValue → Type 0
IsNoFault reply =
    (reply ≢ ul_error_resp (octet_of error.ServerFsys)) × (reply ≢ ul_nak_resp (octet_of error.ServerFsys))

-- No row of the table replies code 3 if no read of the disk fails.
abbrev pub FaultCodeLaw : Type 0
FaultCodeLaw =
    (caller : CallSign) (moment : ℕ) (store : Store) (state : State) (item : Item)
    → IfSome (session_row caller moment store state item) (λ row. AllByRecursion IsNoFault row.replies)

-- the entry of this number is under way, with these octets held
abbrev pub IsUnderWay : Store → ℕ → Entry → List ℕ → Type 0
IsUnderWay store number entry held = (entry_of store number ≡ Some entry) × (entry.holding ≡ partial held)

-- The caller's own file that is under way goes on, at the place after the octets that are held, and no other.
abbrev pub ResumedLaw : Type 0
ResumedLaw =
    (caller : CallSign) (moment : ℕ) (store : Store) (number : ℕ) (entry : Entry) (held : List ℕ) → number ≢ 0
    → IsUnderWay store number entry held → entry.caller ≡ caller
    → session_row caller moment store command (Ok (upload_cmd number entry.length))
    ≡ Some (resumed_row number (length held))

-- the entry with these octets held
abbrev pub holding : Entry → List ℕ → Entry
holding entry held = record entry { holding = partial held }

-- the entry with this file, kept with its stamp of this moment
abbrev pub kept : Entry → List ℕ → ℕ → Entry
kept entry file moment = record entry { holding = complete (stamped (stamp_of moment entry) file) moment }

-- A file of which all octets came, and which has no fault, is acknowledged, and its entry is then complete with exactly
-- these octets, stamped with its number, its caller and the moment. What is kept has no fault, the client's body, and
-- the client's items except for those that the server fills in.
abbrev pub AcknowledgedLaw : Type 0
AcknowledgedLaw =
    (caller : CallSign) (moment : ℕ) (store : Store) (number : ℕ) (entry : Entry) (held rest : List ℕ)
    → IsUnderWay store number entry held → length held + length rest ≡ entry.length → fault_code (held ++ rest) ≡ None
    → (row : Row) × (session_row caller moment store (receiving number rest) (Ok data_end) ≡ Some row)
    × (row.state ≡ command) × (row.replies ≡ ul_ack_resp ∷ [])
    × (entry_of (after_all store row.commands) number ≡ Some (kept entry (held ++ rest) moment))
    × (IsCall entry.caller → IsOctets (held ++ rest)
    → KeepsClient (held ++ rest) (stamped (stamp_of moment entry) (held ++ rest)))

-- If a read of the disk fails, a file of which all octets came isn't acknowledged: UL_NAK_RESP 3. It stays under way,
-- with exactly these octets held.
abbrev pub UnreadLaw : Type 0
UnreadLaw =
    (caller : CallSign) (moment : ℕ) (store : Store) (number : ℕ) (entry : Entry) (held rest : List ℕ)
    → IsUnderWay store number entry held → length held + length rest ≡ entry.length
    → (row_by_read caller moment store (receiving number rest) (Ok data_end) true ≡ Some (unread_row number rest))
    × IsUnderWay (after_all store (unread_row number rest).commands) number (holding entry (held ++ rest))
    (held ++ rest)

-- All octets of the file under way have come: those that are held and those that wait. It has no fault.
pub record IsWhole (store : Store) (number : ℕ) (entry : Entry) (held rest : List ℕ) : Type 0 where
  pub under_way : IsUnderWay store number entry held
  pub all : length held + length rest ≡ entry.length
  pub good : fault_code (held ++ rest) ≡ None

-- the image stands for a store in which this is the entry of the number
abbrev pub HasEntry : ℕ → Entry → List ℕ → Type 0
HasEntry number entry image =
    (files : Store) × StandsFor image files × (entry_of files number ≡ Some entry)

-- There is a row, which comes after these commands, has commands and replies UL_ACK_RESP. In each image that stands for
-- the store after at least these commands and the row's, whatever commands come after them, this is the entry of the
-- number.
pub record StandsAcknowledged (given : Option Row) (start : Store) (commands : List Command) (number : ℕ)
    (entry : Entry) : Type 0 where
  pub row : Row
  pub is_row : given ≡ Some row
  pub replies : row.replies ≡ ul_ack_resp ∷ []
  pub some : 1 ≤ length row.commands
  pub stands :
      (others : List Command) (least most : ℕ) (image : List ℕ)
      → AreAllowed start (commands ++ (row.commands ++ others)) → length commands + length row.commands ≤ least
      → MakesBetween least most start (commands ++ (row.commands ++ others)) image
      → HasEntry number entry image

-- DATA_END's row over the store that these commands give is so, whatever they were, of this session or of others: the
-- file's entry is then complete with the octets that came, stamped.
abbrev pub AcknowledgedStandsLaw : Type 0
AcknowledgedStandsLaw =
    (caller : CallSign) (start store : Store) (commands : List Command) (moment number : ℕ) (entry : Entry)
    (held rest : List ℕ) → store ≡ after_all start commands → IsWhole store number entry held rest
    → StandsAcknowledged (session_row caller moment store (receiving number rest) (Ok data_end)) start commands number
    (kept entry (held ++ rest) moment)
