-- Which row a packet has, by what the session does of uploading and of downloading.
use Rattle.std.proofs.Common.{◌≡◌, ℕ, List, refl, ap, ◌∙◌, sym, Bool, true, false, Option, None, Some}
use Rattle.ftl0_session.specs.declared.uploads.phase.Phase.TheVariants as phase
use Rattle.ftl0_session.specs.Uploads.Session as upload
use Rattle.ftl0_session.proofs.Names.{Ok, Err, CallSign, kind_of_item, Item, PacketValue, CallerList, Store, StoreState, Phase, is_upload_kind, state_of, DownloadRow, DownloadState, ready, DoesOne, State, by_download, by_upload, download_part, downloading, error_row, row_among, state_by, upload_part, upload_row}
use Rattle.ftl0_session.proofs.uploads.Rows.{by_read-none as upload_none}
use Rattle.ftl0_session.specs.Downloads.Table as download
use Rattle.ftl0_session.specs.Table.{aborting, command, download_row, receiving, session_row}

-- ---- the parts of a state

pub upload_part-free : (part : upload.State) → upload_part (state_by part ready) ≡ part
upload_part-free upload.command = refl
upload_part-free (upload.receiving number rest) = refl
upload_part-free upload.aborting = refl

pub download_part-is : (part : DownloadState) → download_part (downloading part) ≡ part
download_part-is download.ready = refl
download_part-is (download.sending number place last) = refl
download_part-is download.waiting = refl
download_part-is (download.listing dues) = refl

-- nothing is done of downloading, whatever is done of uploading
pub one-free : (here : Phase) (part : DownloadState) → part ≡ ready → DoesOne here part
one-free phase.Command part free = tt
one-free (phase.Receiving up) part free = free
one-free phase.Aborting part free = free

-- ---- rows of uploading

-- of a session that does nothing of downloading
pub upload-free : (caller : CallSign) (moment : ℕ) (store : Store) (part : upload.State) (item : Item) (fails : Bool)
    → upload_row caller moment store (state_by part ready) item fails ≡ upload.row_by_read caller moment store part item fails
upload-free caller moment store upload.command item fails = refl
upload-free caller moment store (upload.receiving number rest) item fails = refl
upload-free caller moment store upload.aborting item fails = refl

-- a packet that isn't of uploading has none
pub none-in : (caller : CallSign) (moment : ℕ) (store : Store) (state : State) (item : Item) (fails : Bool) → is_upload_kind (kind_of_item item) ≡ false
    → upload_row caller moment store state item fails ≡ None
none-in caller moment store command item fails kind = upload_none caller moment store upload.command item fails kind
none-in caller moment store (receiving number rest) item fails kind = upload_none caller moment store (upload.receiving number rest) item fails kind
none-in caller moment store aborting item fails kind = upload_none caller moment store upload.aborting item fails kind
none-in caller moment store state item fails kind = refl

none-beside : (caller : CallSign) (moment : ℕ) (store : Store) (part : DownloadState) (item : Item) (fails : Bool) → (part ≡ ready → ⊥)
    → upload_row caller moment store (downloading part) item fails ≡ None
none-beside caller moment store download.ready item fails busy = absurd (busy refl)
none-beside caller moment store part item fails busy = refl

none-busy : (caller : CallSign) (moment : ℕ) (store : Store) (files : StoreState) (here : Phase) (part : DownloadState) (item : Item) (fails : Bool) → DoesOne here part → (part ≡ ready → ⊥)
    → upload_row caller moment store (state_by (state_of files here) part) item fails ≡ None
none-busy caller moment store files phase.Command part item fails one busy = none-beside caller moment store part item fails busy
none-busy caller moment store files (phase.Receiving up) part item fails one busy = absurd (busy one)
none-busy caller moment store files phase.Aborting part item fails one busy = absurd (busy one)

-- a packet that isn't of uploading, or comes while something is done of downloading, whether a read fails or none does
pub upload-other : (caller : CallSign) (moment : ℕ) (store : Store) (files : StoreState) (here : Phase) (part : DownloadState) (item : Item) (of_uploading : Bool) → DoesOne here part
    → of_uploading ≡ is_upload_kind (kind_of_item item) → (of_uploading ≡ true → part ≡ ready → ⊥)
    → (fails : Bool) → upload_row caller moment store (state_by (state_of files here) part) item fails ≡ None
upload-other caller moment store files here part item true one kind other fails = none-busy caller moment store files here part item fails one (other refl)
upload-other caller moment store files here part item false one kind other fails = none-in caller moment store (state_by (state_of files here) part) item fails (sym kind)

-- ---- rows of downloading

-- of a session that does nothing of uploading
pub download-free : (caller : CallSign) (store : Store) (lists : List CallerList) (part : DownloadState) (packet : PacketValue) (fails : Bool)
    → download_row caller store lists (downloading part) (Ok packet) fails ≡ download.download_row caller store lists part packet fails
download-free caller store lists download.ready packet fails = refl
download-free caller store lists (download.sending number place last) packet fails = refl
download-free caller store lists download.waiting packet fails = refl
download-free caller store lists (download.listing dues) packet fails = refl

-- while a file is received, or the end of one is waited for, there is none
pub download-busy : (caller : CallSign) (store : Store) (files : StoreState) (lists : List CallerList) (here : Phase) (part : DownloadState) (packet : PacketValue) (fails : Bool) → (here ≡ phase.Command → ⊥)
    → download_row caller store lists (state_by (state_of files here) part) (Ok packet) fails ≡ None
download-busy caller store files lists phase.Command part packet fails busy = absurd (busy refl)
download-busy caller store files lists (phase.Receiving up) part packet fails busy = refl
download-busy caller store files lists phase.Aborting part packet fails busy = refl

-- so if there is one, the session waits for a command as far as uploading goes
pub download-command : (caller : CallSign) (store : Store) (files : StoreState) (lists : List CallerList) (here : Phase) (part : DownloadState) (item : Item) (fails : Bool) (row : DownloadRow)
    → download_row caller store lists (state_by (state_of files here) part) item fails ≡ Some row → here ≡ phase.Command
download-command caller store files lists phase.Command part item fails row is = refl
download-command caller store files lists (phase.Receiving up) part (Ok packet) fails row is = absurd (cc)
download-command caller store files lists (phase.Receiving up) part (Err malformed) fails row is = absurd (cc)
download-command caller store files lists phase.Aborting part (Ok packet) fails row is = absurd (cc)
download-command caller store files lists phase.Aborting part (Err malformed) fails row is = absurd (cc)

-- ---- the row of the whole table

module _ (caller : CallSign) (moment : ℕ) (store : Store) (lists : List CallerList) (state : State) (item : Item) (fails : Bool) where
  pub row-upload : (row : upload.Row) → upload_row caller moment store state item fails ≡ Some row → session_row caller moment store lists state item fails ≡ by_upload lists row
  unfolding session_row
  row-upload row is = ap (λ (o : Option upload.Row). row_among lists state item o (download_row caller store lists state item fails)) is

  pub row-download : (row : DownloadRow) → upload_row caller moment store state item fails ≡ None → download_row caller store lists state item fails ≡ Some row → session_row caller moment store lists state item fails ≡ by_download row
  unfolding session_row
  row-download row none is =
      ap (λ (o : Option upload.Row). row_among lists state item o (download_row caller store lists state item fails)) none
      ∙ ap (λ (o : Option DownloadRow). row_among lists state item None o) is

  pub row-error : upload_row caller moment store state item fails ≡ None → download_row caller store lists state item fails ≡ None → session_row caller moment store lists state item fails ≡ error_row lists state item
  unfolding session_row
  row-error none other =
      ap (λ (o : Option upload.Row). row_among lists state item o (download_row caller store lists state item fails)) none
      ∙ ap (λ (o : Option DownloadRow). row_among lists state item None o) other
