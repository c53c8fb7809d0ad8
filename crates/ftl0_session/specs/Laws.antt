-- Laws of the whole table: that it has the rows of uploading, and what these promise.
use Rattle.std.specs.Prelude.{◌≡◌, ◌≢◌, ℕ, ◌+◌, ◌≤◌, List, [], ◌∷◌, ◌++◌, length, Bool, true, false, Option, None, Some}
use Rattle.std.specs.Prelude.{IfSome, Ok}
use Rattle.std.specs.List.{AllByRecursion}
use Rattle.px_base.specs.CallSign.{CallSign, IsCall}
use Rattle.px_base.specs.Octets.{IsOctets}
use Rattle.ftl0_packets.specs.ErrorCodes.{octet_of}
use Rattle.ftl0_packets.specs.declared.error_code.ErrorCode.TheVariants as error
use Rattle.ftl0_packets.specs.Layout.{Item, data_end, ul_ack_resp, ul_error_resp, ul_nak_resp, upload_cmd}
use Rattle.pfh_items.specs.Faults.{fault_code}
use Rattle.pfh_items.specs.Stamp.{stamped}
use Rattle.pfh_writer.specs.KeptFile.{KeepsClient}
use Rattle.ftl0_session.specs.Lists.Lists.{CallerList}
use Rattle.file_store.specs.Command.{AreAllowed, Command, after_all, can_begin, stamp_of}
use Rattle.file_store.specs.Store.{Entry, Store, entry_of}
use Rattle.file_store.specs.OnDisk.{MakesBetween}
use Rattle.ftl0_session.specs.Uploads.Laws.{HasEntry, IsNoFault, IsUnderWay, IsWhole, holding, kept}
use Rattle.ftl0_session.specs.Uploads.Session as upload
use Rattle.ftl0_session.specs.Downloads.Table.{ready}
use Rattle.ftl0_session.specs.Table.{Row, State, by_upload, command, next_due, receiving, session_row, state_by}
use Rattle.ftl0_session.specs.Table.{failed_reads_told, tells_failed_read, upload_part}

-- Each row of uploading is a row of the whole table, in the state in which nothing is done of downloading, whether a
-- read fails or none does. It leaves the lists.
abbrev pub UploadsLaw : Type 0
UploadsLaw =
    (caller : CallSign) (moment : ℕ) (store : Store) (lists : List CallerList) (part : upload.State) (item : Item)
    (fails : Bool) (row : upload.Row) → upload.row_by_read caller moment store part item fails ≡ Some row
    → session_row caller moment store lists (state_by part ready) item fails ≡ by_upload lists row

-- A new file that may be begun is begun, with the next number, and UL_GO_RESP says this number and place 0.
abbrev pub GrantedLaw : Type 0
GrantedLaw =
    (caller : CallSign) (moment : ℕ) (store : Store) (lists : List CallerList) (file_length : ℕ) (fails : Bool)
    → can_begin store file_length ≡ true
    → session_row caller moment store lists command (Ok (upload_cmd 0 file_length)) fails
    ≡ by_upload lists (upload.granted_row caller moment store.next file_length)

-- The caller's own file that is under way goes on, at the place after the octets that are held, and no other.
abbrev pub ResumedLaw : Type 0
ResumedLaw =
    (caller : CallSign) (moment : ℕ) (store : Store) (lists : List CallerList) (number : ℕ) (entry : Entry)
    (held : List ℕ) (fails : Bool) → number ≢ 0 → IsUnderWay store number entry held → entry.caller ≡ caller
    → session_row caller moment store lists command (Ok (upload_cmd number entry.length)) fails
    ≡ by_upload lists (upload.resumed_row number (length held))

-- The row replies UL_ACK_RESP, and leaves the lists. After its commands the entry is complete with exactly the octets
-- of the file, stamped. What is kept has the client's body, and the client's items except for those that the server
-- fills in.
pub record Acknowledges (store : Store) (lists : List CallerList) (number : ℕ) (entry : Entry) (file : List ℕ)
    (moment : ℕ) (row : Row) : Type 0 where
  pub state : row.state ≡ command
  pub lists_stay : row.lists ≡ lists
  pub replies : row.replies ≡ ul_ack_resp ∷ []
  pub entry_now : entry_of (after_all store row.commands) number ≡ Some (kept entry file moment)
  pub client : IsCall entry.caller → IsOctets file → KeepsClient file (stamped (stamp_of moment entry) file)

-- A file of which all octets came, and which has no fault, is acknowledged if no read fails.
abbrev pub AcknowledgedLaw : Type 0
AcknowledgedLaw =
    (caller : CallSign) (moment : ℕ) (store : Store) (lists : List CallerList) (number : ℕ) (entry : Entry)
    (held rest : List ℕ) → IsUnderWay store number entry held → length held + length rest ≡ entry.length
    → fault_code (held ++ rest) ≡ None
    → Acknowledges store lists number entry (held ++ rest) moment
    (session_row caller moment store lists (receiving number rest) (Ok data_end) false)

-- The row replies UL_NAK_RESP 3, and leaves the lists. After its commands the file of the entry is still under way,
-- with exactly these octets held.
pub record HoldsAll (store : Store) (lists : List CallerList) (number : ℕ) (entry : Entry) (octets : List ℕ)
    (row : Row) : Type 0 where
  pub state : row.state ≡ command
  pub lists_stay : row.lists ≡ lists
  pub replies : row.replies ≡ ul_nak_resp (octet_of error.ServerFsys) ∷ []
  pub under_way : IsUnderWay (after_all store row.commands) number (holding entry octets) octets

-- If a read fails, a file of which all octets came isn't acknowledged, and all its octets are held.
abbrev pub UnreadLaw : Type 0
UnreadLaw =
    (caller : CallSign) (moment : ℕ) (store : Store) (lists : List CallerList) (number : ℕ) (entry : Entry)
    (held rest : List ℕ) → IsUnderWay store number entry held → length held + length rest ≡ entry.length
    → HoldsAll store lists number entry (held ++ rest)
    (session_row caller moment store lists (receiving number rest) (Ok data_end) true)

-- The row comes after these commands, has commands and replies UL_ACK_RESP. In each image that stands for the store
-- after at least these commands and the row's, whatever commands come after them, this is the entry of the number.
pub record StandsAcknowledged (row : Row) (start : Store) (commands : List Command) (number : ℕ) (entry : Entry) :
    Type 0 where
  pub replies : row.replies ≡ ul_ack_resp ∷ []
  pub some : 1 ≤ length row.commands
  pub stands :
      (others : List Command) (least most : ℕ) (image : List ℕ)
      → AreAllowed start (commands ++ (row.commands ++ others)) → length commands + length row.commands ≤ least
      → MakesBetween least most start (commands ++ (row.commands ++ others)) image
      → HasEntry number entry image

-- DATA_END's row, if no read fails, over the store that these commands give, is so, whatever they were, of this session
-- or of others: the file's entry is then complete with the octets that came, stamped.
abbrev pub AcknowledgedStandsLaw : Type 0
AcknowledgedStandsLaw =
    (caller : CallSign) (start store : Store) (lists : List CallerList) (commands : List Command)
    (moment number : ℕ) (entry : Entry) (held rest : List ℕ) → store ≡ after_all start commands
    → IsWhole store number entry held rest
    → StandsAcknowledged (session_row caller moment store lists (receiving number rest) (Ok data_end) false) start
    commands number (kept entry (held ++ rest) moment)

-- If no read fails, the row reports none, and replies neither UL_ERROR_RESP 3 nor UL_NAK_RESP 3. If one fails, it
-- doesn't reply UL_ERROR_RESP 3 either, and UL_NAK_RESP 3 only if there is this row of a file that can't be read.
pub record KeepsFaultCodes (row : Bool → Row) (unread : Option upload.Row) : Type 0 where
  pub reads : failed_reads_told (row false).replies ≡ 0
  pub writes : AllByRecursion IsNoFault (row false).replies
  pub errors : AllByRecursion (λ reply. reply ≢ ul_error_resp (octet_of error.ServerFsys)) (row true).replies
  pub naks :
      unread ≡ None → AllByRecursion (λ reply. reply ≢ ul_nak_resp (octet_of error.ServerFsys)) (row true).replies

-- Code 3 comes by DL_ERROR_RESP only if a read of the disk fails, by UL_NAK_RESP only if one fails at DATA_END of a
-- whole file, and by UL_ERROR_RESP in no row of the table: else it comes only if a write or a sync fails.
abbrev pub FaultCodeLaw : Type 0
FaultCodeLaw =
    (caller : CallSign) (moment : ℕ) (store : Store) (lists : List CallerList) (state : State) (item : Item)
    → KeepsFaultCodes (session_row caller moment store lists state item)
    (upload.row_unread store (upload_part state) item)

-- What is sent next reports a failed read only if one fails, and replies neither UL_ERROR_RESP 3 nor UL_NAK_RESP 3.
abbrev pub DueFaultLaw : Type 0
DueFaultLaw =
    (store : Store) (state : State)
    → IfSome (next_due store state false) (λ due. tells_failed_read due.packet ≡ false)
    × ((fails : Bool) → IfSome (next_due store state fails) (λ due. IsNoFault due.packet))
