-- Laws of downloads and directories: that the whole table has the rows of downloading, and what is sent over an event.
use Rattle.std.specs.Prelude.{◌≡◌, ℕ, ◌≤◌, List, [], ◌∷◌, ◌++◌, length, map, drop, flat_map, Bool, true}
use Rattle.std.specs.Prelude.{Some, Ok}
use Rattle.px_base.specs.CallSign.{CallSign}
use Rattle.ftl0_packets.specs.Layout.{PacketValue, data_end, data_part, dir_long_cmd, dir_short_cmd, download_cmd}
use Rattle.ftl0_session.specs.Lists.Lists.{CallerList}
use Rattle.file_store.specs.Headers.{header_octets}
use Rattle.file_store.specs.Store.{Store}
use Rattle.ftl0_session.specs.Uploads.Failures.{Failure, NoReadFails}
use Rattle.ftl0_session.specs.Downloads.Laws.{BeginWithHeaders}
use Rattle.ftl0_session.specs.Downloads.Needs.{AreFiles, IsDueIn}
use Rattle.ftl0_session.specs.Downloads.Sending.{is_due, octets_due, state_at_end}
use Rattle.ftl0_session.specs.Downloads.Table.{DownloadRow, DownloadState, asked_file, download_row, file_of}
use Rattle.ftl0_session.specs.Downloads.Table.{listed_files}
use Rattle.ftl0_session.specs.Downloads.Table.{lists_after, octets_in, short_octets}
use Rattle.ftl0_session.specs.Run.{Event, RunsOver, Sends, session_over}
use Rattle.ftl0_session.specs.Table.{State, by_download, command, downloading, session_row, waiting}

-- Each row of downloading is a row of the whole table, in the state in which nothing is done of uploading, whether a
-- read fails or none does. It has no command of the store.
abbrev pub DownloadsLaw : Type 0
DownloadsLaw =
    (caller : CallSign) (moment : ℕ) (store : Store) (lists : List CallerList) (state : DownloadState)
    (packet : PacketValue) (fails : Bool) (row : DownloadRow)
    → download_row caller store lists state packet fails ≡ Some row
    → session_row caller moment store lists (downloading state) (Ok packet) fails ≡ by_download row

-- DATA with these octets, one after another, and then DATA_END are sent from the state on, the first as the event's
-- part of this number, up to this state.
pub record SendsAll (store : Store) (state : State) (failures : List Failure) (part : ℕ) (octets : List ℕ)
    (now : State) : Type 0 where
  pub pieces : List (List ℕ)
  pub sends : Sends store state failures part (map data_part pieces ++ data_end ∷ []) now
  pub all : flat_map (λ piece. piece) pieces ≡ octets

-- From a state in which anything is due, in an event in which no read fails, exactly the octets that are due are sent.
abbrev pub SentLaw : Type 0
SentLaw =
    (store : Store) (state : DownloadState) (failures : List Failure) (part : ℕ) → NoReadFails failures
    → is_due state ≡ true → IsDueIn store state
    → SendsAll store (downloading state) failures part (octets_due store state) (downloading (state_at_end state))

-- Over this event a session that waits for a command says DATA with these octets, one after another, and then DATA_END.
-- It does no command of the store, and ends with these lists and this state.
pub record SaysAll (caller : CallSign) (store : Store) (lists : List CallerList) (event : Event) (octets : List ℕ)
    (lists_now : List CallerList) (next : State) : Type 0 where
  pub pieces : List (List ℕ)
  pub runs :
      RunsOver caller (session_over store lists command) (event ∷ []) (map data_part pieces ++ data_end ∷ []) []
      (session_over store lists_now next)
  pub all : flat_map (λ piece. piece) pieces ≡ octets

-- A complete file that is asked for from an offset on, up to its length, is sent exactly from there to its end: the
-- file of the number that is asked for, or for number 0 the first that is left in the caller's list, from which it is
-- taken. Then DL_ACK_CMD or DL_NAK_CMD is waited for.
abbrev pub DownloadedLaw : Type 0
DownloadedLaw =
    (caller : CallSign) (store : Store) (lists : List CallerList) (event : Event) (asked number offset : ℕ)
    (file : List ℕ) → event.packet ≡ Ok (download_cmd asked offset 0) → NoReadFails event.failures
    → asked_file lists caller asked ≡ Some number → file_of store number ≡ Some file → offset ≤ length file
    → SaysAll caller store lists event (drop offset file) (lists_after lists caller asked 1) waiting

-- DIR_SHORT_CMD: of the complete files that it lists, at least one, exactly the short forms are sent, one after
-- another. With number 0 the files are taken from the caller's list. Then the next command is waited for.
abbrev pub ShortListedLaw : Type 0
ShortListedLaw =
    (caller : CallSign) (store : Store) (lists : List CallerList) (event : Event) (asked : ℕ) (numbers : List ℕ)
    → event.packet ≡ Ok (dir_short_cmd asked) → NoReadFails event.failures
    → listed_files lists caller asked ≡ numbers → 1 ≤ length numbers → AreFiles store numbers
    → SaysAll caller store lists event (flat_map (λ number. short_octets (octets_in store number)) numbers)
    (lists_after lists caller asked (length numbers)) command

-- DIR_LONG_CMD: so it is of the headers of files that begin with theirs.
abbrev pub LongListedLaw : Type 0
LongListedLaw =
    (caller : CallSign) (store : Store) (lists : List CallerList) (event : Event) (asked : ℕ) (numbers : List ℕ)
    → event.packet ≡ Ok (dir_long_cmd asked) → NoReadFails event.failures
    → listed_files lists caller asked ≡ numbers → 1 ≤ length numbers → BeginWithHeaders store numbers
    → SaysAll caller store lists event (flat_map (λ number. header_octets (octets_in store number)) numbers)
    (lists_after lists caller asked (length numbers)) command
