-- Downloads, directories and selections of one session (FTL0 1990, downloading, directories and selections): its
-- states, and its table row by row.
use Rattle.std.specs.Prelude.{ℕ, ◌==◌, List, [], ◌∷◌, length, take, map, filter, flat_map, slice_get, nat_lt}
use Rattle.std.specs.Prelude.{Bool, not, ◌&&◌, if◌then◌else◌, Option, None, Some, is_some, Result, Ok, Err}
use Rattle.std.specs.List.{list_all}
use Rattle.std.specs.Option.{option_and_then, option_map}
use Rattle.px_base.specs.CallSign.{CallSign}
use Rattle.ftl0_packets.specs.ErrorCodes.{octet_of}
use Rattle.ftl0_packets.specs.declared.error_code.ErrorCode.TheVariants as error
use Rattle.ftl0_packets.specs.Layout.{PacketValue, dir_long_cmd, dir_short_cmd, dl_aborted_resp, dl_ack_cmd}
use Rattle.ftl0_packets.specs.Layout.{dl_completed_resp, dl_error_resp, dl_nak_cmd, download_cmd, select_cmd}
use Rattle.ftl0_packets.specs.Layout.{select_resp}
use Rattle.pfh_items.specs.Layout.{header_text}
use Rattle.pfh_writer.specs.Short.{short_items}
use Rattle.selection.specs.declared.fault.SelFault.{SelFault}
use Rattle.selection.specs.Layout.{Tree}
use Rattle.selection.specs.Meaning.{holds}
use Rattle.selection.specs.Reading.{tree_in}
use Rattle.ftl0_session.specs.Lists.Lists.{CallerList, after_taking, left_of, selected}
use Rattle.file_store.specs.Headers.{header_items, header_octets}
use Rattle.file_store.specs.Info.{is_complete}
use Rattle.file_store.specs.Store.{Entry, Holding, Store, complete, entry_of, octets_at, octets_of, partial}

-- What is to be sent next: the octets of the complete file of this number from one place up to another; or these
-- octets, which are kept.
pub data Due : Type 0 where
  stored : ℕ → ℕ → ℕ → Due
  kept : List ℕ → Due

-- A session is ready for a command; or sends the file of this number from one place up to another; or waits for
-- DL_ACK_CMD or DL_NAK_CMD; or sends headers, of which these are still due.
pub data DownloadState : Type 0 where
  ready : DownloadState
  sending : ℕ → ℕ → ℕ → DownloadState
  waiting : DownloadState
  listing : List Due → DownloadState

-- what a row of the table gives: the state after it, the lists of all callers, and the replies, in order
pub record DownloadRow : Type 0 where
  pub state : DownloadState
  pub lists : List CallerList
  pub replies : List PacketValue

-- the octets of a file that is complete
abbrev pub complete_octets : Holding → Option (List ℕ)
complete_octets (partial held) = None
complete_octets (complete octets moment) = Some octets

-- the octets of the complete file of this number, if there is one
abbrev pub file_of : Store → ℕ → Option (List ℕ)
file_of store number = option_and_then (λ entry. complete_octets entry.holding) (entry_of store number)

-- whether there is one
abbrev pub has_file : Store → ℕ → Bool
has_file store number = is_some (file_of store number)

-- the octets of the entry of this number; none if there is no entry
abbrev pub octets_in : Store → ℕ → List ℕ
octets_in store number = octets_at (entry_of store number)

-- A command that is refused: DL_ERROR_RESP with this code, and nothing else changes.
abbrev pub refused_row : List CallerList → ℕ → DownloadRow
refused_row lists code = record { state = ready; lists = lists; replies = dl_error_resp code ∷ [] }

-- the lists after the caller's command with this number, which took this many numbers: only number 0 takes any
abbrev pub lists_after : List CallerList → CallSign → ℕ → ℕ → List CallerList
lists_after lists caller number count = if number == 0 then after_taking lists caller count else lists

-- the file that DOWNLOAD_CMD with this number asks for: for number 0 the first one that is left in the caller's list
abbrev pub asked_file : List CallerList → CallSign → ℕ → Option ℕ
asked_file lists caller number = if number == 0 then slice_get (left_of lists caller) 0 else Some number

-- The complete file of this number, if there is one, is sent from the offset on, and only then its number is taken from
-- the caller's list. No such file: error 4. An offset above its length: error 2.
abbrev pub file_row : CallSign → List CallerList → ℕ → ℕ → ℕ → Option (List ℕ) → DownloadRow
file_row caller lists asked offset number None = refused_row lists (octet_of error.NoSuchFileNumber)
file_row caller lists asked offset number (Some file) =
    if nat_lt (length file) offset then refused_row lists (octet_of error.BadContinue)
    else record {
      state = sending number offset (length file);
      lists = lists_after lists caller asked 1;
      replies = [];
    }

-- the row of the file that is asked for; error 11 if nothing is left
abbrev pub asked_row : CallSign → Store → List CallerList → ℕ → ℕ → Option ℕ → DownloadRow
asked_row caller store lists asked offset None = refused_row lists (octet_of error.SelectionEmpty)
asked_row caller store lists asked offset (Some number) =
    file_row caller lists asked offset number (file_of store number)

-- Ready, DOWNLOAD_CMD: a lock isn't granted, error 10. Else the row of the file that is asked for.
abbrev pub download_cmd_row : CallSign → Store → List CallerList → ℕ → ℕ → ℕ → DownloadRow
download_cmd_row caller store lists number offset lock =
    if lock == 0 then asked_row caller store lists number offset (asked_file lists caller number)
    else refused_row lists (octet_of error.NoSuchDestination)

-- the files that a directory command with this number lists: for number 0 the next ones that are left in the caller's
-- list, at most ten
abbrev pub listed_files : List CallerList → CallSign → ℕ → List ℕ
listed_files lists caller number = if number == 0 then take 10 (left_of lists caller) else number ∷ []

-- the short form of the header that a file begins with
abbrev pub short_octets : List ℕ → List ℕ
short_octets file = header_text (short_items (header_items file))

-- DIR_SHORT_CMD: the short forms of these files one after another, which are kept
abbrev pub short_due : Store → List ℕ → List Due
short_due store numbers = kept (flat_map (λ number. short_octets (octets_in store number)) numbers) ∷ []

-- the header of the file of this number, as it is stored
abbrev pub header_due : Store → ℕ → Due
header_due store number = stored number 0 (length (header_octets (octets_in store number)))

-- DIR_LONG_CMD: the headers of these files one after another
abbrev pub long_due : Store → List ℕ → List Due
long_due store numbers = map (header_due store) numbers

-- Ready, a directory command: what is due of these files is listed, and number 0 takes them from the caller's list.
-- None is left: error 11. No complete file of a number: error 4. A read of a header fails: error 3.
abbrev pub files_row :
    CallSign → Store → List CallerList → ℕ → (Store → List ℕ → List Due) → Bool → List ℕ → DownloadRow
files_row caller store lists asked due fails numbers =
    if length numbers == 0 then refused_row lists (octet_of error.SelectionEmpty)
    else if not (list_all (has_file store) numbers) then refused_row lists (octet_of error.NoSuchFileNumber)
    else if fails then refused_row lists (octet_of error.ServerFsys)
    else record {
      state = listing (due store numbers);
      lists = lists_after lists caller asked (length numbers);
      replies = [];
    }

-- the row of the files that the command lists
abbrev pub directory_row : CallSign → Store → List CallerList → ℕ → (Store → List ℕ → List Due) → Bool → DownloadRow
directory_row caller store lists number due fails =
    files_row caller store lists number due fails (listed_files lists caller number)

-- whether the file is complete and its header's items match the selection
abbrev pub is_chosen : Tree → Entry → Bool
is_chosen tree entry = is_complete entry.holding && holds tree (header_items (octets_of entry.holding))

-- the numbers of these files, which rise as the entries' do
abbrev pub chosen : Tree → List Entry → List ℕ
chosen tree entries = map (λ entry. entry.number) (filter (is_chosen tree) entries)

-- These numbers become the caller's list, and SELECT_RESP says how many they are.
abbrev pub chosen_row : CallSign → List CallerList → List ℕ → DownloadRow
chosen_row caller lists numbers =
    record { state = ready; lists = selected lists caller numbers; replies = select_resp (length numbers) ∷ [] }

-- Tokens with a fault: error 8. A read of a header fails: error 3. Both leave the lists.
abbrev pub tree_row : CallSign → Store → List CallerList → Bool → Result Tree SelFault → DownloadRow
tree_row caller store lists fails (Err fault) = refused_row lists (octet_of error.PoorlyFormedSel)
tree_row caller store lists fails (Ok tree) =
    if fails then refused_row lists (octet_of error.ServerFsys)
    else chosen_row caller lists (chosen tree store.entries)

-- Ready, SELECT_CMD: the caller's list becomes the complete files that match the selection. A packet has at most 2,047
-- octets of tokens; more are a fault too.
abbrev pub select_row : CallSign → Store → List CallerList → List ℕ → Bool → DownloadRow
select_row caller store lists tokens fails =
    if nat_lt 2047 (length tokens) then refused_row lists (octet_of error.PoorlyFormedSel)
    else tree_row caller store lists fails (tree_in tokens)

-- a download ends with this reply
abbrev pub ended_row : List CallerList → PacketValue → DownloadRow
ended_row lists reply = record { state = ready; lists = lists; replies = reply ∷ [] }

-- Ready: what a caller's packet gives, whether a read of a header fails or none does; None if it has no row.
unfoldable pub command_row : CallSign → Store → List CallerList → PacketValue → Bool → Option DownloadRow
command_row caller store lists (download_cmd number offset lock) fails =
    Some (download_cmd_row caller store lists number offset lock)
command_row caller store lists (dir_short_cmd number) fails =
    Some (directory_row caller store lists number short_due fails)
command_row caller store lists (dir_long_cmd number) fails =
    Some (directory_row caller store lists number long_due fails)
command_row caller store lists (select_cmd tokens) fails = Some (select_row caller store lists tokens fails)
command_row caller store lists packet fails = None

-- Sending: DL_NAK_CMD ends the download.
abbrev pub reply_sending : PacketValue → Option PacketValue
reply_sending dl_nak_cmd = Some dl_aborted_resp
reply_sending packet = None

-- Waiting: DL_ACK_CMD says that the file came, DL_NAK_CMD that it didn't.
abbrev pub reply_waiting : PacketValue → Option PacketValue
reply_waiting dl_ack_cmd = Some dl_completed_resp
reply_waiting dl_nak_cmd = Some dl_aborted_resp
reply_waiting packet = None

-- The table, row by row: what a caller's packet gives in a state, over a store and lists, whether a read of a header
-- fails or none does. None if the packet has no row in the state.
unfoldable pub download_row :
    CallSign → Store → List CallerList → DownloadState → PacketValue → Bool → Option DownloadRow
download_row caller store lists ready packet fails = command_row caller store lists packet fails
download_row caller store lists (sending number place last) packet fails =
    option_map (ended_row lists) (reply_sending packet)
download_row caller store lists waiting packet fails = option_map (ended_row lists) (reply_waiting packet)
download_row caller store lists (listing dues) packet fails = None
