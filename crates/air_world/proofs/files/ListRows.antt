-- The rows of a session of a list: of SELECT_CMD, and of DIR_SHORT_CMD for what is left of the selection (FTL0 1990).
use Rattle.std.proofs.Common.{◌≡◌, ◌⊎◌, inl, inr, ℕ, ◌<◌, ◌==◌, List, [], ◌∷◌, length, refl, sym, subst, not, Bool}
use Rattle.std.proofs.Common.{true, false, Some, arith, append-nil}
use Rattle.std.specs.Prelude.{if◌then◌else◌}
use Rattle.selection.specs.Reading.{tree_in}
use Rattle.selection.specs.declared.fault.SelFault.{SelFault}
use Rattle.ftl0_session.specs.Downloads.Table as download
use Rattle.ftl0_session.specs.Downloads.Table.{directory_row}
use Rattle.ftl0_session.specs.Table.{Row, error_row}
use Rattle.air_world.proofs.files.Names.{Ok, Err, Result, nat_lt, AllByRecursion, flat_map, list_all, All-nil, CallSign, IsOctets, Fits, PacketValue, dir_short_cmd, dl_error_resp, select_cmd, Tree, Store, DownloadsLaw, AreComplete, IsDueIn, octets_due, DownloadRow, Due, chosen, has_file, listed_files, lists_after, octets_in, refused_row, select_row, short_due, short_octets, tree_row, CallerList, State, by_download, command, download_part, listing, session_row, all-complete, IsOfListing, IsSoundStore}
use Rattle.air_world.proofs.files.ListFiles.{chosen-few, chosen-files, selected-files, taking-files}
use Rattle.air_world.proofs.files.ShortOctets.{shorts-octets}

-- A state of a session of a list: it waits for a command, or sends headers. What is due lies in complete files, and is
-- octets.
pub record IsListed (store : Store) (state : State) : Type 0 where
  pub is : (state ≡ command) ⊎ ((dues : List Due) × (state ≡ listing dues))
  pub lies : IsDueIn store (download_part state)
  pub octets : IsOctets (octets_due store (download_part state))

-- a packet of a session of a list, whose fields have their ranges
abbrev pub IsListReply : PacketValue → Type 0
IsListReply packet = IsOfListing packet × Fits packet

-- A row of a session of a list.
pub record IsListRow (store : Store) (row : Row) : Type 0 where
  pub commands : row.commands ≡ []
  pub lists : AreComplete store row.lists
  pub replies : AllByRecursion IsListReply row.replies
  pub listed : IsListed store row.state

-- nothing is due of it
pub waits-command : (store : Store) → IsListed store command
waits-command store = record { is = inl refl; lies = tt; octets = All-nil _ }

module _ (caller : CallSign) (store : Store) (lists : List CallerList) (sound : IsSoundStore store)
    (complete : AreComplete store lists) where
  abbrev IsIn : DownloadRow → Type 0
  IsIn row = IsListRow store (by_download row)

  either : (b : Bool) (first second : DownloadRow) → IsIn first → (b ≡ false → IsIn second)
      → IsIn (if b then first else second)
  either true first second one other = one
  either false first second one other = other refl

  refused-row : (code : ℕ) → code < 256 → IsIn (refused_row lists code)
  refused-row code few =
      record { commands = refl; lists = complete; replies = ((tt, few), tt); listed = waits-command store }

  -- ---- SELECT_CMD

  tree-row : (tree : Result Tree SelFault) → IsIn (tree_row caller store lists false tree)
  tree-row (Err fault) = refused-row 8 (omega arith)
  tree-row (Ok tree) = record {
    commands = refl;
    lists =
        selected-files store lists caller (chosen tree store.entries) complete (chosen-files store tree sound.is_store);
    replies = ((tt, omega (arith, chosen-few store tree store.entries, sound.is_store.count)), tt);
    listed = waits-command store;
  }

  selects : (tokens : List ℕ) → IsIn (select_row caller store lists tokens false)
  selects tokens =
      either (nat_lt 2047 (length tokens)) (refused_row lists 8) (tree_row caller store lists false (tree_in tokens))
      (refused-row 8 (omega arith))
      (λ few. tree-row (tree_in tokens))

  -- ---- DIR_SHORT_CMD

  abbrev short_row : List ℕ → DownloadRow
  short_row numbers =
      record {
        state = download.listing (short_due store numbers);
        lists = lists_after lists caller 0 (length numbers);
        replies = [];
      }

  short-row : (numbers : List ℕ) → not (list_all (has_file store) numbers) ≡ false → IsIn (short_row numbers)
  short-row numbers not_all =
      let all : list_all (has_file store) numbers ≡ true = by (list_all (has_file store) numbers) not_all in
      record {
        commands = refl;
        lists = taking-files store lists caller (length numbers) complete;
        replies = tt;
        listed =
            record {
              is = inr (short_due store numbers, refl);
              lies = (tt, tt);
              octets =
                  subst IsOctets (sym (append-nil (flat_map (λ number. short_octets (octets_in store number)) numbers)))
                  (shorts-octets store numbers sound (all-complete store numbers all));
            };
      }
    where
      by : (b : Bool) → not b ≡ false → b ≡ true
      by true is = refl
      by false is = absurd (cc)

  lists-short : IsIn (directory_row caller store lists 0 short_due false)
  lists-short =
      let numbers = listed_files lists caller 0 in
      either (length numbers == 0) (refused_row lists 11) _ (refused-row 11 (omega arith))
      (λ some. either (not (list_all (has_file store) numbers)) (refused_row lists 4) (short_row numbers)
      (refused-row 4 (omega arith)) (short-row numbers))

-- ---- by the whole table

module _ (law : DownloadsLaw) (caller : CallSign) (moment : ℕ) (store : Store) (lists : List CallerList)
    (sound : IsSoundStore store) (complete : AreComplete store lists) where
  abbrev row_here : State → PacketValue → Row
  row_here state packet = session_row caller moment store lists state (Ok packet) false

  select-is : (tokens : List ℕ)
      → download.download_row caller store lists download.ready (select_cmd tokens) false ≡ Some
      (select_row caller store lists tokens false)
  unfolding download.download_row download.command_row
  select-is tokens = refl

  short-is : download.download_row caller store lists download.ready (dir_short_cmd 0) false ≡ Some
      (directory_row caller store lists 0 short_due false)
  unfolding download.download_row download.command_row
  short-is = refl

  -- a command while headers are sent: error 1
  listing-select : (tokens : List ℕ) (dues : List Due)
      → row_here (listing dues) (select_cmd tokens) ≡ error_row lists (listing dues) (Ok (select_cmd tokens))
  unfolding session_row download.download_row
  listing-select tokens dues = refl

  listing-short : (dues : List Due)
      → row_here (listing dues) (dir_short_cmd 0) ≡ error_row lists (listing dues) (Ok (dir_short_cmd 0))
  unfolding session_row download.download_row
  listing-short dues = refl

  error-row : (state : State) (row : Row)
      → row ≡ record { state = state; lists = lists; commands = []; replies = dl_error_resp 1 ∷ [] }
      → IsListed store state → IsListRow store row
  error-row state row is listed =
      subst (IsListRow store) (sym is)
      (record { commands = refl; lists = complete; replies = ((tt, omega arith), tt); listed = listed })

  select-row : (tokens : List ℕ) (state : State) → IsListed store state
      → (state ≡ command) ⊎ ((dues : List Due) × (state ≡ listing dues))
      → IsListRow store (row_here state (select_cmd tokens))
  select-row tokens state listed (inl is) =
      subst (λ (s : State). IsListRow store (row_here s (select_cmd tokens))) (sym is)
      (subst (IsListRow store) (sym (law caller moment store lists download.ready (select_cmd tokens) false _
      (select-is tokens))) (selects caller store lists sound complete tokens))
  select-row tokens state listed (inr (dues, is)) =
      error-row state (row_here state (select_cmd tokens))
      (subst (λ (s : State). row_here s (select_cmd tokens) ≡ record {
        state = s;
        lists = lists;
        commands = [];
        replies = dl_error_resp 1 ∷ [];
      }) (sym is) (listing-select tokens dues)) listed

  short-row-of : (state : State) → IsListed store state
      → (state ≡ command) ⊎ ((dues : List Due) × (state ≡ listing dues))
      → IsListRow store (row_here state (dir_short_cmd 0))
  short-row-of state listed (inl is) =
      subst (λ (s : State). IsListRow store (row_here s (dir_short_cmd 0))) (sym is)
      (subst (IsListRow store) (sym (law caller moment store lists download.ready (dir_short_cmd 0) false _ short-is))
      (lists-short caller store lists sound complete))
  short-row-of state listed (inr (dues, is)) =
      error-row state (row_here state (dir_short_cmd 0))
      (subst (λ (s : State). row_here s (dir_short_cmd 0) ≡ record {
        state = s;
        lists = lists;
        commands = [];
        replies = dl_error_resp 1 ∷ [];
      }) (sym is) (listing-short dues)) listed

  -- the row of a packet of a client of a list
  pub list-row : (tokens : List ℕ) (state : State) (packet : PacketValue) → IsListed store state
      → (packet ≡ select_cmd tokens) ⊎ (packet ≡ dir_short_cmd 0) → IsListRow store (row_here state packet)
  list-row tokens state packet listed (inl is) =
      subst (λ (p : PacketValue). IsListRow store (row_here state p)) (sym is)
      (select-row tokens state listed listed.is)
  list-row tokens state packet listed (inr is) =
      subst (λ (p : PacketValue). IsListRow store (row_here state p)) (sym is) (short-row-of state listed listed.is)
