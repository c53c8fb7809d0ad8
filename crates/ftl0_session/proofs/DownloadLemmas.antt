-- Laws of downloads and directories over the whole table and over an event, by those of downloading.
use Rattle.std.proofs.Common.{◌≡◌, ℕ, suc, ◌-◌, ◌==◌, ◌≤◌, List, [], ◌∷◌, ◌++◌, length, map, take, drop, Bool, true, false, not, Option, None, Some, refl, ap, sym, ◌∙◌, subst, arith, length-drop, append-nil}
use Rattle.std.specs.Prelude.{if◌then◌else◌}
use Rattle.std.proofs.lemmas.List.Sums.{list_all-from_AllPass}
use Rattle.ftl0_session.specs.Downloads.Sending as due
use Rattle.ftl0_session.specs.Downloads.Table as download
use Rattle.ftl0_session.proofs.Names.{Ok, is_some, nat_lt, flat_map, list_all, option_map, nat_tests, All-weaker, none-some, CallSign, Item, PacketValue, data_end, data_part, dir_long_cmd, dir_short_cmd, download_cmd, kind_of, upload_cmd, CallerList, header_octets, IsCompleteIn, Store, Failure, NoReadFails, read_fails, is_upload_kind, Sends as DownloadSends, SendsAll as DownloadSendsAll, AreFiles, LiesIn, due_octets, octets_due, state_at_end, DownloadRow, DownloadState, Due, asked_file, asked_row, directory_row, file_of, file_row, files_row, has_file, listed_files, lists_after, long_due, octets_in, refused_row, short_due, short_octets, stored, event_row, by_download, downloading, due_at, in_session, next_due}
use Rattle.ftl0_session.proofs.downloads.DueLemmas.{take-all}
use Rattle.ftl0_session.proofs.downloads.FileLemmas.{complete-file, file-complete}
use Rattle.ftl0_session.proofs.downloads.SentLemmas.{long-listed, sent-all, short-listed}
use Rattle.ftl0_session.specs.DownloadLaws.{DownloadedLaw, DownloadsLaw, LongListedLaw, SaysAll, SentLaw, ShortListedLaw}
use Rattle.ftl0_session.specs.Run.{Event, Sends}
use Rattle.ftl0_session.specs.Table.{command, session_row}
use Rattle.ftl0_session.proofs.RowLemmas.{download-free, download_part-is, none-in, row-download}

-- ---- rows

-- a packet that has no row in any of these has none
no-row : (caller : CallSign) (store : Store) (lists : List CallerList) (state : DownloadState) (packet : PacketValue) (fails : Bool) → download.command_row caller store lists packet fails ≡ None
    → download.reply_sending packet ≡ None → download.reply_waiting packet ≡ None → download.download_row caller store lists state packet fails ≡ None
unfolding download.download_row
no-row caller store lists download.ready packet fails ready sending waiting = ready
no-row caller store lists (download.sending number place last) packet fails ready sending waiting = ap (option_map (download.ended_row lists)) sending
no-row caller store lists download.waiting packet fails ready sending waiting = ap (option_map (download.ended_row lists)) waiting
no-row caller store lists (download.listing dues) packet fails ready sending waiting = refl

-- a packet that has a row of downloading isn't of uploading
not-upload : (caller : CallSign) (store : Store) (lists : List CallerList) (state : DownloadState) (packet : PacketValue) (fails : Bool) (row : DownloadRow)
    → download.download_row caller store lists state packet fails ≡ Some row → is_upload_kind (kind_of packet) ≡ false
unfolding download.command_row
not-upload caller store lists state (data_part octets) fails row is = absurd (none-some row (sym (no-row caller store lists state (data_part octets) fails refl refl refl) ∙ is))
not-upload caller store lists state data_end fails row is = absurd (none-some row (sym (no-row caller store lists state data_end fails refl refl refl) ∙ is))
not-upload caller store lists state (upload_cmd number len) fails row is = absurd (none-some row (sym (no-row caller store lists state (upload_cmd number len) fails refl refl refl) ∙ is))
not-upload caller store lists state packet fails row is = refl

pub downloads : DownloadsLaw
downloads caller moment store lists state packet fails row is =
    row-download caller moment store lists (downloading state) (Ok packet) fails row
    (none-in caller moment store (downloading state) (Ok packet) fails (not-upload caller store lists state packet fails row is)) (download-free caller store lists state packet fails ∙ is)

-- ---- what is sent

-- what is due of a session is due of its downloading, if no read fails
due-in : (store : Store) (failures : List Failure) (part : ℕ) (state : DownloadState) → NoReadFails failures
    → due_at store (downloading state) failures part ≡ option_map in_session (due.next_due store state false)
due-in store failures part state none =
    ap (λ (fails : Bool). next_due store (downloading state) fails) (none part)
    ∙ ap (λ (s : DownloadState). option_map in_session (due.next_due store s false)) (download_part-is state)

-- what downloading sends the session sends
sends-in : (store : Store) (failures : List Failure) → NoReadFails failures → (packets : List PacketValue) (part : ℕ) (state now : DownloadState) → DownloadSends store state packets now
    → Sends store (downloading state) failures part packets (downloading now)
sends-in store failures none [] part state now sends = (ap downloading sends.0, due-in store failures part state none ∙ ap (option_map in_session) sends.1)
sends-in store failures none (packet ∷ packets) part state now sends = (
  downloading sends.0,
  due-in store failures part state none ∙ ap (option_map in_session) sends.1,
  sends-in store failures none packets (suc part) sends.0 now sends.2,
)

pub sent : SentLaw
sent store state failures part none is lies =
    let all : DownloadSendsAll store state (octets_due store state) (state_at_end state) = sent-all (length (octets_due store state)) store state is lies (omega arith) in
    record {
      pieces = all.pieces;
      sends = sends-in store failures none (map data_part all.pieces ++ data_end ∷ []) part state (state_at_end state) all.sends;
      all = all.all;
    }

-- over an event with a packet whose row has no replies
says-all : (caller : CallSign) (store : Store) (lists lists_now : List CallerList) (event : Event) (packet : PacketValue) (state now : DownloadState) (octets : List ℕ) → event.packet ≡ Ok packet
    → NoReadFails event.failures → download.download_row caller store lists download.ready packet false ≡ Some (record { state = state; lists = lists_now; replies = [] })
    → DownloadSendsAll store state octets now → SaysAll caller store lists event octets lists_now (downloading now)
says-all caller store lists lists_now event packet state now octets asks none row all =
    let given : DownloadRow = record { state = state; lists = lists_now; replies = [] } in
    let said : List PacketValue = map data_part all.pieces ++ data_end ∷ [] in
    let is : event_row caller store lists command event ≡ by_download given =
    ap (λ (item : Item). session_row caller event.moment store lists command item (read_fails event.failures 0)) asks
    ∙ ap (λ (fails : Bool). session_row caller event.moment store lists command (Ok packet) fails) (none 0)
    ∙ downloads caller event.moment store lists download.ready packet false given row in
    record {
      pieces = all.pieces;
      runs = (
        by_download given,
        said,
        downloading now,
        [],
        [],
        is,
        sends-in store event.failures none said 1 state now all.sends,
        sym (append-nil said),
        refl,
        (refl, refl, refl, refl, refl),
      );
      all = all.all;
    }

-- ---- a download

asked-row : (caller : CallSign) (store : Store) (lists : List CallerList) (asked number offset : ℕ) (file : List ℕ) → asked_file lists caller asked ≡ Some number → file_of store number ≡ Some file
    → offset ≤ length file
    → download.download_row caller store lists download.ready (download_cmd asked offset 0) false
    ≡ Some (record { state = download.sending number offset (length file); lists = lists_after lists caller asked 1; replies = [] })
unfolding download.download_row download.command_row
asked-row caller store lists asked number offset file here is within =
    let row : DownloadRow = record { state = download.sending number offset (length file); lists = lists_after lists caller asked 1; replies = [] } in
    let fits : nat_lt (length file) offset ≡ false = grind (arith, nat_tests) in
    ap (λ (o : Option ℕ). Some (asked_row caller store lists asked offset o)) here
    ∙ ap (λ (o : Option (List ℕ)). Some (file_row caller lists asked offset number o)) is
    ∙ ap (λ (b : Bool). Some (if b then refused_row lists 2 else row)) fits

file-sent : (store : Store) (number offset : ℕ) (file : List ℕ) → file_of store number ≡ Some file → offset ≤ length file
    → DownloadSendsAll store (download.sending number offset (length file)) (drop offset file) download.waiting
file-sent store number offset file is within =
    let state : DownloadState = download.sending number offset (length file) in
    let both = file-complete store number file is in
    let lies : LiesIn store number offset (length file) = record {
      complete = both.0;
      forward = within;
      within = omega (arith, ap (λ (l : List ℕ). length l) both.1);
    } in
    let octets : due_octets store (stored number offset (length file)) ≡ drop offset file =
    ap (λ (l : List ℕ). take (length file - offset) (drop offset l)) both.1 ∙ take-all (length file - offset) (drop offset file) (omega (arith, length-drop offset file)) in
    subst (λ (l : List ℕ). DownloadSendsAll store state l download.waiting) octets (sent-all (length (octets_due store state)) store state refl lies (omega arith))

pub downloaded : DownloadedLaw
downloaded caller store lists event asked number offset file asks none here is within =
    says-all caller store lists (lists_after lists caller asked 1) event (download_cmd asked offset 0) (download.sending number offset (length file)) download.waiting (drop offset file) asks none
    (asked-row caller store lists asked number offset file here is within) (file-sent store number offset file is within)

-- ---- a directory

have-all : (store : Store) (numbers : List ℕ) → AreFiles store numbers → list_all (has_file store) numbers ≡ true
have-all store numbers are =
    list_all-from_AllPass (has_file store) numbers
    (All-weaker (IsCompleteIn store) (λ number. has_file store number ≡ true) (λ number is. ap is_some (complete-file store number is)) numbers are)

listing-row : (caller : CallSign) (store : Store) (lists : List CallerList) (asked : ℕ) (due_of : Store → List ℕ → List Due) (numbers : List ℕ) → listed_files lists caller asked ≡ numbers
    → 1 ≤ length numbers → AreFiles store numbers
    → directory_row caller store lists asked due_of false
    ≡ record { state = download.listing (due_of store numbers); lists = lists_after lists caller asked (length numbers); replies = [] }
listing-row caller store lists asked due_of numbers listed some are =
    let row : DownloadRow = record { state = download.listing (due_of store numbers); lists = lists_after lists caller asked (length numbers); replies = [] } in
    let left : (length numbers == 0) ≡ false = grind (arith, nat_tests) in
    ap (λ (l : List ℕ). files_row caller store lists asked due_of false l) listed
    ∙ ap (λ (b : Bool). if b then refused_row lists 11 else (if not (list_all (has_file store) numbers) then refused_row lists 4 else row)) left
    ∙ ap (λ (b : Bool). if not b then refused_row lists 4 else row) (have-all store numbers are)

pub short_listed : ShortListedLaw
unfolding download.download_row download.command_row
short_listed caller store lists event asked numbers asks none listed some are =
    says-all caller store lists (lists_after lists caller asked (length numbers)) event (dir_short_cmd asked) (download.listing (short_due store numbers)) download.ready
    (flat_map (λ number. short_octets (octets_in store number)) numbers) asks none (ap Some (listing-row caller store lists asked short_due numbers listed some are)) (short-listed store numbers)

pub long_listed : LongListedLaw
unfolding download.download_row download.command_row
long_listed caller store lists event asked numbers asks none listed some are =
    says-all caller store lists (lists_after lists caller asked (length numbers)) event (dir_long_cmd asked) (download.listing (long_due store numbers)) download.ready
    (flat_map (λ number. header_octets (octets_in store number)) numbers) asks none (ap Some (listing-row caller store lists asked long_due numbers listed some are.complete))
    (long-listed store numbers are)
