-- What is true of each row of uploading, of each row of downloading, and of error 1 is true of each row of the whole
-- table.
use Rattle.std.proofs.Common.{ℕ, List, Bool, Option, None, Some}
use Rattle.ftl0_session.specs.Uploads.Session as upload
use Rattle.ftl0_session.specs.Downloads.Table as download
use Rattle.ftl0_session.specs.Table.{aborting, command, download_row, listing, receiving, sending, session_row, waiting}
use Rattle.ftl0_session.proofs.Names.{Ok, Err, IfSome, CallSign, Item, PacketValue, Store, CallerList, DownloadRow, DownloadState, ready, Row, State, by_download, by_upload, downloading, error_row, row_among, state_by, upload_row}

-- what is true of all values is true of the one that there is
pub if-there : {X : Type 0} (o : Option X) (P : X → Type 0) → ((x : X) → P x) → IfSome o P
if-there None P all = tt
if-there (Some x) P all = all x

module _ (caller : CallSign) (moment : ℕ) (store : Store) (lists : List CallerList) (fails : Bool) (P : State → Item → Row → Type 0)
    (uploads : (part : upload.State) (item : Item) → IfSome (upload.row_by_read caller moment store part item fails) (λ row. P (state_by part ready) item (by_upload lists row)))
    (downloads : (part : DownloadState) (packet : PacketValue) → IfSome (download.download_row caller store lists part packet fails) (λ row. P (downloading part) (Ok packet) (by_download row)))
    (errors : (state : State) (item : Item) → P state item (error_row lists state item)) where
  uploads-at : (state : State) (item : Item) → IfSome (upload_row caller moment store state item fails) (λ row. P state item (by_upload lists row))
  uploads-at command item = uploads upload.command item
  uploads-at (receiving number rest) item = uploads (upload.receiving number rest) item
  uploads-at aborting item = uploads upload.aborting item
  uploads-at state item = tt

  downloads-at : (state : State) (item : Item) → IfSome (download_row caller store lists state item fails) (λ row. P state item (by_download row))
  downloads-at command (Ok packet) = downloads download.ready packet
  downloads-at (receiving number rest) (Ok packet) = tt
  downloads-at aborting (Ok packet) = tt
  downloads-at (sending number place last) (Ok packet) = downloads (download.sending number place last) packet
  downloads-at waiting (Ok packet) = downloads download.waiting packet
  downloads-at (listing dues) (Ok packet) = downloads (download.listing dues) packet
  downloads-at state (Err malformed) = tt

  among : (state : State) (item : Item) (o : Option upload.Row) (other : Option DownloadRow) → IfSome o (λ row. P state item (by_upload lists row)) → IfSome other (λ row. P state item (by_download row))
      → P state item (row_among lists state item o other)
  among state item (Some row) other first second = first
  among state item None (Some row) first second = second
  among state item None None first second = errors state item

  pub session-case : (state : State) (item : Item) → P state item (session_row caller moment store lists state item fails)
  unfolding session_row
  session-case state item =
      among state item (upload_row caller moment store state item fails) (download_row caller store lists state item fails) (uploads-at state item) (downloads-at state item)
