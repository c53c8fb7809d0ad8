-- How the code answers a packet.
use Rattle.std.specs.Prelude.{◌≡◌, List, ℕ, [], ◌∷◌, flat_map, Bool, true, false, IsTrue, Option, None, Some, IsSomeAnd}
use Rattle.std.specs.Prelude.{Result, Ok, Err, is_some}
use Rattle.px_base.specs.CallSign.{CallSign}
use Rattle.disk_model.specs.declared.disk.Disk.{Ghosts}
use Rattle.ftl0_packets.specs.ErrorCodes.{octet_of}
use Rattle.ftl0_packets.specs.declared.error_code.ErrorCode.{ErrorCode}
use Rattle.ftl0_packets.specs.declared.error_code.ErrorCode.TheVariants as error
use Rattle.ftl0_packets.specs.Layout.{dl_error_resp, packet_text}
use Rattle.ftl0_session.specs.Causes.{Says}
use Rattle.ftl0_session.specs.Lists.Lists.{CallerList}
use Rattle.disk_model.specs.Runs.{Reads}
use Rattle.file_store.specs.State.{IsKnown, StoreState, store_in, store_on}
use Rattle.file_store.specs.Store.{Store}
use Rattle.selection.specs.Layout.{Tree}
use Rattle.ftl0_session.specs.declared.downloads.downloads.Form.{Form}
use Rattle.ftl0_session.specs.declared.downloads.downloads.Form.TheVariants as form
use Rattle.ftl0_session.specs.declared.downloads.span.Span.{Span}
use Rattle.ftl0_session.specs.Downloads.Table.{DownloadRow, DownloadState, Due, lists_after, long_due}
use Rattle.ftl0_session.specs.Downloads.Table.{refused_row}
use Rattle.ftl0_session.specs.Downloads.Table.{select_row, sending, short_due, tree_row}

-- what a packet made: the state, the lists of all callers and the octets of the replies
pub record Made : Type 0 where
  pub state : DownloadState
  pub lists : List CallerList
  pub replies : List ℕ

-- by its parts
abbrev pub made : DownloadState → List CallerList → List ℕ → Made
made state lists replies = record { state = state; lists = lists; replies = replies }

-- what a row makes
abbrev pub made_by : DownloadRow → Made
made_by row = made row.state row.lists (flat_map packet_text row.replies)

-- The disk is as reads leave it, of which one failed or none. If it is known what the store's files hold, what was made
-- is the row over them for that, which reports a read that failed by code 3. Whatever is observed of the disk, if the
-- row over what memory shows is the same whether a read fails or none does, none failed, and that row was made; and a
-- code 3 in the replies has its cause.
pub record MakesRow {D : Type 0} (g : Ghosts D) (store : StoreState) (disk disk_now : D)
    (row : Store → Bool → DownloadRow) (now : Made) : Type 0 where
  pub fails : Bool
  pub reads : Reads g (IsTrue fails) disk disk_now
  pub told :
      IsKnown g disk → fails ≡ true
      → (row (store_on g store disk) fails).replies ≡ dl_error_resp (octet_of error.ServerFsys) ∷ []
  pub is_row : IsKnown g disk → now ≡ made_by (row (store_on g store disk) fails)
  pub anyway :
      row (store_in store) true ≡ row (store_in store) false
      → (fails ≡ false) × (now ≡ made_by (row (store_in store) false))
  pub says : Says g disk fails now.replies

-- the packet has this row, and it was made; or it has none, was not taken, and nothing changed
abbrev pub IsRow : {D : Type 0} → Option DownloadRow → Bool → D → D → Made → Made → Type 0
IsRow None taken disk disk_now before now = (taken ≡ false) × (disk_now ≡ disk) × (now ≡ before)
IsRow (Some row) taken disk disk_now before now = (taken ≡ true) × (now ≡ made_by row)

-- The disk is as reads leave it, of which one failed or none. A packet is taken exactly when it has a row of
-- downloading, whatever the files hold; one that isn't taken changes nothing. If it is known what the store's files
-- hold, what was made is the row over them for the reads that failed or didn't, and reports one that failed by code 3.
-- Whatever is observed of the disk, if the row over what memory shows is the same whether a read fails or none does,
-- none failed, and that row was made; and a code 3 in the replies has its cause.
pub record TakesByRow {D : Type 0} (g : Ghosts D) (store : StoreState) (row : Store → Bool → Option DownloadRow)
    (disk disk_now : D) (before now : Made) (taken : Bool) : Type 0 where
  pub fails : Bool
  pub reads : Reads g (IsTrue fails) disk disk_now
  pub has : (files : Store) (fails_then : Bool) → is_some (row files fails_then) ≡ taken
  pub passed : taken ≡ false → (fails ≡ false) × (disk_now ≡ disk) × (now ≡ before)
  pub told :
      IsKnown g disk → fails ≡ true
      → IsSomeAnd (row (store_on g store disk) fails)
      (λ given. given.replies ≡ dl_error_resp (octet_of error.ServerFsys) ∷ [])
  pub is_row : IsKnown g disk → IsRow (row (store_on g store disk) fails) taken disk disk_now before now
  pub anyway :
      row (store_in store) true ≡ row (store_in store) false
      → (fails ≡ false) × IsRow (row (store_in store) false) taken disk disk_now before now
  pub says : taken ≡ true → Says g disk fails now.replies

-- what a directory command of this form lists
abbrev pub due_by : Form → Store → List ℕ → List Due
due_by form.Short = short_due
due_by form.Long = long_due

-- the row of a DOWNLOAD_CMD with this number that asks for these octets, or is refused with this code
abbrev pub answer_row : CallSign → List CallerList → ℕ → Result Span ErrorCode → DownloadRow
answer_row caller lists number (Ok span) =
    record {
      state = sending span.number span.place span.last;
      lists = lists_after lists caller number 1;
      replies = [];
    }
answer_row caller lists number (Err code) = refused_row lists (octet_of code)

-- the tokens are those of this tree, whoever sends them
abbrev pub SelectsBy : List ℕ → Tree → Type 0
SelectsBy tokens tree =
    (caller : CallSign) (store : Store) (lists : List CallerList) (fails : Bool)
    → select_row caller store lists tokens fails ≡ tree_row caller store lists fails (Ok tree)

-- the tokens have a fault, whoever sends them
abbrev pub SelectsNone : List ℕ → Type 0
SelectsNone tokens =
    (caller : CallSign) (store : Store) (lists : List CallerList) (fails : Bool)
    → select_row caller store lists tokens fails ≡ refused_row lists (octet_of error.PoorlyFormedSel)
