-- Whose files the commands of a row are of, and what a read that fails changes.
use Rattle.std.proofs.Common.{◌≡◌, ◌⊎◌, inl, inr, ⊎_elim, ℕ, zero, suc, List, [], ◌∷◌, ◌++◌, length, map, take, drop, refl, ap, sym, ◌∙◌, subst, Bool, true, false, not, Option, None, Some}
use Rattle.std.specs.Prelude.{if◌then◌else◌, ◌==◌, ◌&&◌, ◌/◌}
use Rattle.selection.specs.Layout.{Tree}
use Rattle.selection.specs.Reading.{tree_in}
use Rattle.selection.specs.declared.fault.SelFault.{SelFault}
use Rattle.ftl0_session.specs.Downloads.Sending as due
use Rattle.ftl0_session.specs.Downloads.Table as download
use Rattle.ftl0_session.specs.Downloads.Table.{DownloadRow, Due, files_row, has_file, listed_files, long_due, refused_row, short_due, tree_row}
use Rattle.ftl0_session.specs.Uploads.Session as upload
use Rattle.ftl0_server.proofs.step_laws.Names.{eqb_tells, Ok, Err, Result, find, nat_lt, list_all, option_map, option_or, CallSign, Item, PacketValue, dir_long_cmd, dir_short_cmd, dl_error_resp, select_cmd, AreOf, IsOf, IsOwnEntry, Command, after, changed, drop_entry, grow, grown, grows, last_grow, seal, Entry, Holding, Store, entry_of, has_number, CallerList, State, aborting, command, download_part, download_row, in_session, receiving, row_among, session_row, state_by, upload_part, upload_row, OfUploads, if-there, session-case, upload-case, CallerLaw, DueReadsLaw, ReadsLaw, ReceivesOwn, TellsOfRead, failed_due, failed_row}

-- ---- whose files the commands are of

same-caller : (n : ℕ) (change : Entry → Holding) (entries : List Entry)
    → option_map (λ (e : Entry). e.caller) (find (has_number n) (map (changed n change) entries)) ≡ option_map (λ (e : Entry). e.caller) (find (has_number n) entries)
same-caller n change [] = refl
same-caller n change (x ∷ xs) =
    elim (eqb_tells x.number n) [
      | inl w ↦ rw (w.0, w.0) refl
      | inr w ↦ rw (w.0, w.0) (same-caller n change xs)
    ]

module _ (caller : CallSign) (n : ℕ) where
  own-from : (o : Option Entry) (e : Entry) → ((old : Entry) → o ≡ Some old → old.caller ≡ caller) → Some e.caller ≡ option_map (λ (e : Entry). e.caller) o → e.caller ≡ caller
  own-from None e own same = absurd (let none : Some e.caller ≡ None = same in cc)
  own-from (Some old) e own same =
      let both : Some e.caller ≡ Some old.caller = same in
      let alike : e.caller ≡ old.caller = cc in alike ∙ own old refl

  -- octets that are held too leave the caller
  pub own-grow : (store : Store) (octets : List ℕ) → IsOwnEntry caller store n → IsOwnEntry caller (after store (grow n octets)) n
  own-grow store octets own e found =
      own-from (entry_of store n) e own (sym (ap (λ (o : Option Entry). option_map (λ (e : Entry). e.caller) o) found) ∙ same-caller n (grown octets) store.entries)

  own-grows : (count : ℕ) (octets : List ℕ) (store : Store) → IsOwnEntry caller store n → AreOf caller store (grows n count octets)
  own-grows zero octets store own = tt
  own-grows (suc count) octets store own = (own, own-grows count (drop 512 octets) (after store (grow n (take 512 octets))) (own-grow store (take 512 octets) own))

  -- the last octets, and a command that ends the file
  own-last : (rest : List ℕ) (last : Command) (store : Store) → ((now : Store) → IsOwnEntry caller now n → IsOf caller now last) → IsOwnEntry caller store n → AreOf caller store (last_grow n rest ++ last ∷ [])
  own-last [] last store is own = (is store own, tt)
  own-last (octet ∷ octets) last store is own = (own, (is (after store (grow n (octet ∷ octets))) (own-grow store (octet ∷ octets) own), tt))

  -- the last octets alone
  own-held : (rest : List ℕ) (store : Store) → IsOwnEntry caller store n → AreOf caller store (last_grow n rest)
  own-held [] store own = tt
  own-held (octet ∷ octets) store own = (own, tt)

-- if a file that is received is the caller's, each command of a row of uploading is its own
uploads-own : (caller : CallSign) (moment : ℕ) (store : Store) (fails : Bool)
    → OfUploads caller moment store fails (λ part item row. ReceivesOwn caller store (state_by part download.ready) → AreOf caller store row.commands)
uploads-own caller moment store fails = record {
  granted = λ number len can own. (refl, tt);
  resumed = λ number len e found theirs partly own. tt;
  refused = λ part item code other own. tt;
  taken = λ n rest octets room own. own-grows caller n (length (rest ++ octets) / 512) (rest ++ octets) store own;
  too_many = λ n rest octets own. tt;
  whole = λ n rest fine all good own. own-last caller n rest (seal n moment) store (λ now own_now. own_now) own;
  faulty = λ n rest code other own. own-last caller n rest (drop_entry n) store (λ now own_now. own_now) own;
  unread = λ n rest failed all own. own-held caller n rest store own;
  too_few = λ n rest own. tt;
  waited = λ octets own. tt;
  ended = λ own. tt;
}

pub commands_own : CallerLaw
commands_own caller moment store lists =
    λ state item fails.
    session-case caller moment store lists fails (λ at given row. ReceivesOwn caller store at → AreOf caller store row.commands) (upload-case (uploads-own caller moment store fails))
    (λ part packet. if-there (download.download_row caller store lists part packet fails) _ (λ row own. tt)) (λ at given own. tt) state item

-- ---- what a read that fails changes

-- when a read fails, it is what it is when none does, or this
abbrev Tells : {X : Type 0} → X → (Bool → X) → Type 0
Tells failed by_read = (by_read true ≡ by_read false) ⊎ (by_read true ≡ failed)

tells-map : {X Y : Type 0} (f : X → Y) (failed : X) (by_read : Bool → X) → Tells failed by_read → Tells (f failed) (λ fails. f (by_read fails))
tells-map f failed by_read tells = ⊎_elim (λ same. inl (ap f same)) (λ told. inr (ap f told)) tells

read-third : (failed first second third : DownloadRow) (a b : Bool) → Tells failed (λ fails. if a then first else if b then second else if fails then failed else third)
read-third failed first second third true b = inl refl
read-third failed first second third false true = inl refl
read-third failed first second third false false = inr refl

module _ (caller : CallSign) (store : Store) (lists : List CallerList) where
  listed : (asked : ℕ) (dues : Store → List ℕ → List Due) (numbers : List ℕ) → Tells (refused_row lists 3) (λ fails. files_row caller store lists asked dues fails numbers)
  listed asked dues numbers = read-third (refused_row lists 3) (refused_row lists 11) (refused_row lists 4)
      (record { state = download.listing (dues store numbers); lists = download.lists_after lists caller asked (length numbers); replies = [] }) (length numbers == 0) (not (list_all (has_file store) numbers))

  chosen : (b : Bool) (result : Result Tree SelFault) → Tells (refused_row lists 3) (λ fails. if b then refused_row lists 8 else tree_row caller store lists fails result)
  chosen true result = inl refl
  chosen false (Err fault) = inl refl
  chosen false (Ok tree) = inr refl

  asked-tells : (packet : PacketValue) → Tells (Some (refused_row lists 3)) (λ fails. download.command_row caller store lists packet fails)
  unfolding download.command_row
  asked-tells (dir_short_cmd number) = tells-map (λ (row : DownloadRow). Some row) (refused_row lists 3) (λ fails. files_row caller store lists number short_due fails (listed_files lists caller number))
      (listed number short_due (listed_files lists caller number))
  asked-tells (dir_long_cmd number) = tells-map (λ (row : DownloadRow). Some row) (refused_row lists 3) (λ fails. files_row caller store lists number long_due fails (listed_files lists caller number))
      (listed number long_due (listed_files lists caller number))
  asked-tells (select_cmd tokens) = tells-map (λ (row : DownloadRow). Some row) (refused_row lists 3) (λ fails. if nat_lt 2047 (length tokens) then refused_row lists 8 else tree_row caller store lists fails (tree_in tokens))
      (chosen (nat_lt 2047 (length tokens)) (tree_in tokens))
  asked-tells packet = inl refl

  -- the row of downloading reports a failed read only if a command is waited for
  abbrev TellsReady : State → (Bool → Option DownloadRow) → Type 0
  TellsReady state row = (row true ≡ row false) ⊎ ((state ≡ command) × (row true ≡ Some (refused_row lists 3)))

  download-tells : (state : State) (item : Item) → TellsReady state (λ fails. download_row caller store lists state item fails)
  unfolding download.download_row
  download-tells command (Ok packet) = ⊎_elim (λ same. inl same) (λ told. inr (refl, told)) (asked-tells packet)
  download-tells state (Ok packet) = inl refl
  download-tells state (Err malformed) = inl refl

  -- the row of uploading is the same, or that of a file that can't be read
  abbrev TellsUnread : Option upload.Row → (Bool → Option upload.Row) → Type 0
  TellsUnread unread row = (row true ≡ row false) ⊎ ((one : upload.Row) × (unread ≡ Some one) × (row true ≡ Some one))

  unread-tells : (unread row : Option upload.Row) → TellsUnread unread (λ fails. option_or (if fails then unread else None) row)
  unread-tells None row = inl refl
  unread-tells (Some one) row = inr (one, refl, refl)

  upload-tells : (moment : ℕ) (state : State) (item : Item) → TellsUnread (upload.row_unread store (upload_part state) item) (λ fails. upload_row caller moment store state item fails)
  upload-tells moment command item = unread-tells (upload.row_unread store upload.command item) (upload.session_row caller moment store upload.command item)
  upload-tells moment (receiving n rest) item = unread-tells (upload.row_unread store (upload.receiving n rest) item) (upload.session_row caller moment store (upload.receiving n rest) item)
  upload-tells moment aborting item = unread-tells (upload.row_unread store upload.aborting item) (upload.session_row caller moment store upload.aborting item)
  upload-tells moment state item = inl refl

  module _ (state : State) (item : Item) (unread : Option upload.Row) (other : Bool → Option DownloadRow) (tells : TellsReady state other) where
    -- with this row of uploading when a read fails, and this one when none does
    abbrev TellsAmong : Option upload.Row → Option upload.Row → Type 0
    TellsAmong failed fine =
        TellsOfRead lists state unread (λ fails. if fails then row_among lists state item failed (other true) else row_among lists state item fine (other false))

    among-same : (o : Option upload.Row) → TellsAmong o o
    among-same (Some row) = inl refl
    among-same None =
        ⊎_elim (λ same. inl (ap (λ (o : Option DownloadRow). row_among lists state item None o) same))
        (λ told. inr (inl (ap (λ (o : Option DownloadRow). row_among lists state item None o) told.1 ∙ ap (λ (s : State). failed_row lists s) (sym told.0)))) tells

    among-tells : (uploads : Bool → Option upload.Row) → TellsUnread unread uploads → TellsAmong (uploads true) (uploads false)
    among-tells uploads of_uploading =
        ⊎_elim (λ same. subst (λ (o : Option upload.Row). TellsAmong o (uploads false)) (sym same) (among-same (uploads false)))
        (λ one. inr (inr (one.0, one.1, ap (λ (o : Option upload.Row). row_among lists state item o (other true)) one.2))) of_uploading

pub reads_told : ReadsLaw
unfolding session_row
reads_told caller moment store lists state item =
    among-tells caller store lists state item (upload.row_unread store (upload_part state) item) (λ fails. download_row caller store lists state item fails)
    (download-tells caller store lists state item) (λ fails. upload_row caller moment store state item fails) (upload-tells caller store lists moment state item)

-- ---- what is sent next

due-packet : (failed first third : due.DuePacket) (a c : Bool) → Tells failed (λ fails. if a then first else if fails && c then failed else third)
due-packet failed first third true c = inl refl
due-packet failed first third false true = inr refl
due-packet failed first third false false = inl refl

pub due_told : DueReadsLaw
due_told store state = by (due.is_due (download_part state))
  where
    by : (b : Bool) → Tells (Some failed_due) (λ fails. option_map in_session (if b then Some (due.due_packet store (download_part state) fails) else None))
    by true =
        let failed : due.DuePacket = record { packet = dl_error_resp 3; state = download.ready } in
        tells-map (λ (next : due.DuePacket). Some (in_session next)) failed (λ fails. due.due_packet store (download_part state) fails)
        (due-packet failed _ _ (length (due.octets_due store (download_part state)) == 0) (due.is_read (download_part state)))
    by false = inl refl
