-- What a packet does whose row has no command of the store: one of downloading, or error 1.
use Rattle.std.proofs.Common.{◌≡◌, ℕ, List, [], ◌∷◌, refl, ap, sym, ◌∙◌, subst, append-nil, arith, true≢false, Bool, true, false, Option, None, Some}
use Rattle.ftl0_session.specs.declared.uploads.phase.Phase.TheVariants as phase
use Rattle.ftl0_session.proofs.Names.{⊤, Result, Ok, IsErr, IsSomeAnd, IsTrue, is_some, Ghosts, DiskFault, kind_of_item, texts, Item, PacketValue, dl_error_resp, packet_text, CallerList, Reads, among-at, on_same, puts-among-same, reads-only, Command, DoesAll, after_all, outlined_all, IsKnown, IsReady, StoreState, store_in, store_on, Store, DoesAmongReads, one_if, Phase, packet_of, is_upload_kind, SessionState as Uploading, state_of, AreComplete, IsDueIn, KeepsFiles, DownloadRow, DownloadState, IsRow, Made, TakesByRow, made, made_by, MayTake, caller_of, session_of, state_in, working_on, HasCause, Says, Row, State, by_download, download_part, downloading, error_by, error_row, state_by, upload_row, Taken, at_work, download_row_of, packet_row, working}
use Rattle.ftl0_session.proofs.uploads.Rows.{others-same}
use Rattle.ftl0_session.specs.SessionState.{SessionState}
use Rattle.ftl0_session.specs.Table.{download_row}
use Rattle.ftl0_session.specs.Taking.{LooksAtNone}
use Rattle.ftl0_session.proofs.CauseLemmas.{says-one}
use Rattle.ftl0_session.proofs.RowLemmas.{download-command, download_part-is, row-download, row-error}

-- the answer that all was done
abbrev answered : Result ⊤ DiskFault
answered = Ok tt

-- a packet that was taken had a row, and that was made
row-taken : {D : Type 0} (o : Option DownloadRow) (disk disk_now : D) (before now : Made) → IsRow o true disk disk_now before now → (row : DownloadRow) × (o ≡ Some row) × (now ≡ made_by row)
row-taken None disk disk_now before now is = absurd (let e : true ≡ false = is.0 in cc)
row-taken (Some row) disk disk_now before now is = (row, refl, is.1)

-- and one that wasn't had none, and nothing changed
row-passed : {D : Type 0} (o : Option DownloadRow) (disk disk_now : D) (before now : Made) → IsRow o false disk disk_now before now → (o ≡ None) × (now ≡ before)
row-passed None disk disk_now before now is = (refl, is.2)
row-passed (Some row) disk disk_now before now is = absurd (let e : false ≡ true = is.0 in cc)

-- what is claimed for a row that there is
is_some_at : {A : Type 0} {o : Option A} (P : A → Type 0) (x : A) → o ≡ Some x → IsSomeAnd o P → P x
is_some_at P x is holds = subst (λ o. IsSomeAnd o P) is holds

-- a row that there is, and one that isn't
row-there : (o : Option DownloadRow) → is_some o ≡ true → (row : DownloadRow) × (o ≡ Some row)
row-there None is = absurd (true≢false (sym is))
row-there (Some row) is = (row, refl)

none-there : (o : Option DownloadRow) → is_some o ≡ false → o ≡ None
none-there None is = refl
none-there (Some row) is = absurd (true≢false is)

-- rows of downloading that are the same in the whole table are the same
abbrev row-from : DownloadState → List CallerList → List PacketValue → DownloadRow
row-from state lists replies = record { state = state; lists = lists; replies = replies }

by_download-same : (one other : DownloadRow) → by_download one ≡ by_download other → one ≡ other
by_download-same one other same =
    ap (λ (s : DownloadState). row-from s one.lists one.replies) (sym (download_part-is one.state) ∙ ap (λ (r : Row). download_part r.state) same ∙ download_part-is other.state)
    ∙ ap (λ (l : List CallerList). row-from other.state l one.replies) (ap (λ (r : Row). r.lists) same)
    ∙ ap (λ (rs : List PacketValue). row-from other.state other.lists rs) (ap (λ (r : Row). r.replies) same)

-- error 1 isn't code 3
error-cause : {D : Type 0} (g : Ghosts D) (disk : D) (fails of_uploading : Bool) → HasCause g disk fails (error_by of_uploading)
error-cause g disk fails true = λ three. omega (arith, three)
error-cause g disk fails false = λ three. absurd (omega (arith, three))

-- what a row without commands gives
record GivesStill (row : Row) (fails : Bool) (lists_now : List CallerList) (next : State) (replies : List ℕ) : Type 0 where
  none : row.commands ≡ []
  lists_are : lists_now ≡ row.lists
  state_is : next ≡ row.state
  text : replies ≡ texts row.replies
  told : fails ≡ true → row.replies ≡ dl_error_resp 3 ∷ []

gives-still : (row : Row) (fails : Bool) (lists_now : List CallerList) (next : State) (replies : List ℕ) (given : Row) → row ≡ given → given.commands ≡ [] → lists_now ≡ given.lists → next ≡ given.state
    → replies ≡ texts given.replies → (fails ≡ true → given.replies ≡ dl_error_resp 3 ∷ []) → GivesStill row fails lists_now next replies
gives-still row fails lists_now next replies given is none lists_are state_is text told = record {
  none = ap (λ (r : Row). r.commands) is ∙ none;
  lists_are = lists_are ∙ sym (ap (λ (r : Row). r.lists) is);
  state_is = state_is ∙ sym (ap (λ (r : Row). r.state) is);
  text = text ∙ sym (ap (λ (r : Row). texts r.replies) is);
  told = λ failed. ap (λ (r : Row). r.replies) is ∙ told failed;
}

module _ {D : Type 0} (g : Ghosts D) where
  -- what the next packet needs, if the store stayed
  pub may-still : (uploads : Uploading) (part part_now : DownloadState) (store store_now : StoreState) (lists lists_now : List CallerList) (disk disk_now : D)
      → MayTake g store disk lists (session_of uploads part) → KeepsFiles g store store_now disk_now lists_now part_now
      → MayTake g store disk_now lists_now (session_of uploads part_now)
  may-still uploads part part_now store store_now lists lists_now disk disk_now may keeps = let same = keeps.stays.same in record {
    ready = subst (λ (s : StoreState). IsReady g s disk_now) same keeps.stays.ready;
    held = may.held;
    only = may.only;
    due = subst (λ (s : StoreState). IsDueIn (store_in s) part_now) same keeps.due;
    complete = subst (λ (s : StoreState). AreComplete (store_in s) lists_now) same keeps.complete;
  }

  -- a row without commands, over a store that stays
  still : (moment : ℕ) (item : Item) (old new : SessionState) (store : StoreState) (lists lists_now : List CallerList) (disk disk_now : D) (replies : List ℕ) (fails : Bool) → g.lasts disk disk → Reads g (IsTrue fails) disk disk_now
      → (IsKnown g disk → GivesStill (packet_row g (packet_of (caller_of old) moment item) (at_work old (working_on store lists disk)) fails) fails lists_now (state_in store new) replies)
      → ((row : Row) → LooksAtNone (packet_of (caller_of old) moment item) (working old store lists) row → (fails ≡ false) × GivesStill row false lists_now (state_in store new) replies) → Says g disk fails replies
      → new.uploads ≡ old.uploads → IsReady g store disk → MayTake g store disk_now lists_now new
      → Taken g (packet_of (caller_of old) moment item) old new (working_on store lists disk) (working_on store lists_now disk_now) replies answered
  still moment item old new store lists lists_now disk disk_now replies fails lasts reads gives any says same ready may =
      let fine : ¬ IsErr answered = λ e. cc e in
      let does : DoesAmongReads g ⊥ (one_if fails) store store disk disk_now [] = reads-only g fails store disk disk_now lasts reads ready in
      record {
        takes = record {
          fails = fails;
          stopped = tt;
          told = λ known failed. (dl_error_resp 3, (gives known).told failed, refl);
          answers = λ known.
              let row = gives known in (
                subst (λ (cs : List Command). DoesAll (store_on g store disk) (store_on g store disk_now) cs) (sym row.none) (tt, on_same g store disk disk_now reads.only.same_content),
                row.lists_are,
                row.state_is,
                row.text,
              );
          on_disk = λ known. among-at g ⊥ (one_if fails) store store disk disk_now [] _ (sym (gives known).none) does;
          reads = does.reads;
          puts = puts-among-same g ⊥ (IsErr answered) disk disk_now (λ never. absurd never) fine does.puts;
          anyway = λ row looks.
              let given = any row looks in (
                given.0,
                record {
                  answers = (given.1.lists_are, given.1.state_is, given.1.text);
                  on_disk =
                      subst (λ (b : Bool). DoesAmongReads g ⊥ (one_if b) store store disk disk_now row.commands) given.0
                      (among-at g ⊥ (one_if fails) store store disk disk_now [] row.commands (sym given.1.none) does);
                  memory = ap (λ (cs : List Command). after_all (store_in store) (outlined_all cs)) (sym given.1.none);
                },
              );
          says = says;
        };
        untouched = λ known without. reads.only;
        failed = λ e. absurd (fine e);
        kept = λ number entry found whole. found;
        others = others-same store (caller_of old);
        caller = ap (λ (u : Uploading). u.caller) same;
        healthy = λ no_fault. may.ready.healthy;
        stands_on = may.ready.stands_on;
        held = may.held;
        only = may.only;
        due = may.due;
        complete = may.complete;
      }

  module _ (moment : ℕ) (item : Item) (uploads : Uploading) (part part_now : DownloadState) (store : StoreState) (lists lists_now : List CallerList) (disk disk_now : D)
      (none : (files : Store) (fails : Bool) → upload_row uploads.caller moment files (state_in store (session_of uploads part)) item fails ≡ None) (lasts : g.lasts disk disk) (ready : IsReady g store disk)
      (may : MayTake g store disk_now lists_now (session_of uploads part_now)) where
    abbrev old : SessionState
    old = session_of uploads part

    abbrev files : Store
    files = store_on g store disk

    -- the packet's row of downloading
    pub taken-download : (said replies : List ℕ) → TakesByRow g store (λ there. download_row_of old store there lists item) disk disk_now (made part lists said) (made part_now lists_now replies) true
        → Taken g (packet_of uploads.caller moment item) old (session_of uploads part_now) (working_on store lists disk) (working_on store lists_now disk_now) replies answered
    taken-download said replies takes =
        still moment item old (session_of uploads part_now) store lists lists_now disk disk_now replies takes.fails lasts takes.reads
        (λ known.
        let has = row-taken (download_row uploads.caller files lists (state_in store old) item takes.fails) disk disk_now (made part lists said) (made part_now lists_now replies) (takes.is_row known) in
        let is = row-download uploads.caller moment files lists (state_in store old) item takes.fails has.0 (none files takes.fails) has.1 in
        let here : uploads.phase ≡ phase.Command = download-command uploads.caller files store lists uploads.phase part item takes.fails has.0 has.1 in
        let state : state_in store (session_of uploads part_now) ≡ downloading part_now = ap (λ (p : Phase). state_by (state_of store p) part_now) here in
        gives-still _ takes.fails lists_now _ replies (by_download has.0) is refl (ap (λ (m : Made). m.lists) has.2) (state ∙ ap (λ (m : Made). downloading m.state) has.2) (ap (λ (m : Made). m.replies) has.2)
        (λ failed. is_some_at (λ r. r.replies ≡ dl_error_resp 3 ∷ []) has.0 has.1 (takes.told known failed)))
        (λ row looks.
        let told : Store = store_in store in
        let failed = row-there (download_row uploads.caller told lists (state_in store old) item true) (takes.has told true) in
        let fine = row-there (download_row uploads.caller told lists (state_in store old) item false) (takes.has told false) in
        let is_failed = row-download uploads.caller moment told lists (state_in store old) item true failed.0 (none told true) failed.1 in
        let is_fine = row-download uploads.caller moment told lists (state_in store old) item false fine.0 (none told false) fine.1 in
        let same : failed.0 ≡ fine.0 = by_download-same failed.0 fine.0 (sym is_failed ∙ looks true ∙ sym (looks false) ∙ is_fine) in
        let here_then = takes.anyway (failed.1 ∙ ap (λ (r : DownloadRow). Some r) same ∙ sym fine.1) in
        let has = row-taken (download_row uploads.caller told lists (state_in store old) item false) disk disk_now (made part lists said) (made part_now lists_now replies) here_then.1 in
        let is = row-download uploads.caller moment told lists (state_in store old) item false has.0 (none told false) has.1 in
        let here : uploads.phase ≡ phase.Command = download-command uploads.caller told store lists uploads.phase part item false has.0 has.1 in
        let state : state_in store (session_of uploads part_now) ≡ downloading part_now = ap (λ (p : Phase). state_by (state_of store p) part_now) here in (
          here_then.0,
          gives-still row false lists_now _ replies (by_download has.0) (sym (looks false) ∙ is) refl (ap (λ (m : Made). m.lists) has.2) (state ∙ ap (λ (m : Made). downloading m.state) has.2)
              (ap (λ (m : Made). m.replies) has.2) (λ never. absurd (true≢false (sym never))),
        )) (takes.says refl) refl ready may

    -- error 1
    pub taken-error : (said given replies : List ℕ) (of_uploading : Bool) → of_uploading ≡ is_upload_kind (kind_of_item item) → replies ≡ packet_text (error_by of_uploading)
        → TakesByRow g store (λ there. download_row_of old store there lists item) disk disk_now (made part lists said) (made part_now lists_now given) false
        → Taken g (packet_of uploads.caller moment item) old (session_of uploads part_now) (working_on store lists disk) (working_on store lists_now disk_now) replies answered
    taken-error said given replies of_uploading kind text takes =
        let passed = takes.passed refl in
        let error_text : replies ≡ texts (error_by (is_upload_kind (kind_of_item item)) ∷ []) =
        text ∙ ap (λ (b : Bool). packet_text (error_by b)) kind ∙ sym (append-nil (packet_text (error_by (is_upload_kind (kind_of_item item))))) in
        still moment item old (session_of uploads part_now) store lists lists_now disk disk_now replies takes.fails lasts takes.reads
        (λ known.
        let none_of = row-passed (download_row uploads.caller files lists (state_in store old) item takes.fails) disk disk_now (made part lists said) (made part_now lists_now given) (takes.is_row known) in
        let is = row-error uploads.caller moment files lists (state_in store old) item takes.fails (none files takes.fails) none_of.0 in
        gives-still _ takes.fails lists_now _ replies (error_row lists (state_in store old) item) is refl (ap (λ (m : Made). m.lists) passed.2) (ap (λ (m : Made). state_in store (session_of uploads m.state)) passed.2)
        error_text
        (λ failed. absurd (subst (λ (o : Option DownloadRow). IsSomeAnd o (λ r. r.replies ≡ dl_error_resp 3 ∷ [])) none_of.0 (takes.told known failed))))
        (λ row looks.
        let told : Store = store_in store in
        let is = row-error uploads.caller moment told lists (state_in store old) item false (none told false) (none-there (download_row uploads.caller told lists (state_in store old) item false) (takes.has told false)) in (
          passed.0,
          gives-still row false lists_now _ replies (error_row lists (state_in store old) item) (sym (looks false) ∙ is) refl (ap (λ (m : Made). m.lists) passed.2)
              (ap (λ (m : Made). state_in store (session_of uploads m.state)) passed.2) error_text (λ never. absurd (true≢false (sym never))),
        ))
        (says-one g disk takes.fails replies (error_by (is_upload_kind (kind_of_item item))) error_text (λ failed. absurd (true≢false (sym failed ∙ passed.0)))
        (error-cause g disk takes.fails (is_upload_kind (kind_of_item item)))) refl ready may
