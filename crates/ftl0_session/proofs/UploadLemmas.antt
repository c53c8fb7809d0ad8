-- What a packet of uploading does, while the session does nothing of downloading.
use Rattle.std.proofs.Common.{◌≡◌, ℕ, List, [], ◌∷◌, refl, ap, sym, ◌∙◌, subst, Bool, true, false, Some}
use Rattle.ftl0_session.specs.Uploads.Session as upload
use Rattle.ftl0_session.specs.Uploads.Taking.{IsStopped as IsUploadStopped, MakesRow, Working as UploadWorking}
use Rattle.ftl0_session.specs.Taking.{LooksAtNone, MakesAnyway, TakesPacket}
use Rattle.ftl0_session.proofs.Names.{⊤, Result, Ok, Err, IsErr, AtDisk, at, Ghosts, DiskFault, kind_of_item, texts, Item, PacketValue, ul_nak_resp, CallerList, ChangesReads, among-at, Command, DoesAll, after_all, outlined_all, KeepsComplete, IsKnown, StandsOn, StoreState, store_in, store_on, Store, one_if, CallerPacket, packet_of, KeepsOtherCallers, is_upload_kind, IsHeld, IsOnlyOut, SessionState as Uploading, state_of, LooksAtNone as LooksAtNoneIn, MakesAnyway as MakesUploadAnyway, TakesPacket as TakesUpload, row_of, working_at, AreComplete, ready, session_of, working_on, Row, by_upload, state_by, upload_part, Answers, IsStopped, PutsRow, Taken, TellsRead, Working, packet_row, row_over}
use Rattle.ftl0_session.proofs.uploads.Rows.{by_read-some}
use Rattle.ftl0_session.proofs.RowLemmas.{row-upload, upload-free, upload_part-free}

-- what a session of uploading works on, in a whole session with these lists
abbrev whole : {D : Type 0} → List CallerList → AtDisk UploadWorking D → AtDisk Working D
whole lists here = at (record { store = here.it.store; lists = lists; state = state_by here.it.state ready }) here.disk

-- rows of uploading that are the same in the whole table are the same
abbrev row-from : upload.State → List Command → List PacketValue → upload.Row
row-from state commands replies = record { state = state; commands = commands; replies = replies }

by_upload-same : (lists : List CallerList) (one other : upload.Row) → by_upload lists one ≡ by_upload lists other → one ≡ other
by_upload-same lists one other same =
    ap (λ (s : upload.State). row-from s one.commands one.replies) (sym (upload_part-free one.state) ∙ ap (λ (r : Row). upload_part r.state) same ∙ upload_part-free other.state)
    ∙ ap (λ (cs : List Command). row-from other.state cs one.replies) (ap (λ (r : Row). r.commands) same)
    ∙ ap (λ (rs : List PacketValue). row-from other.state other.commands rs) (ap (λ (r : Row). r.replies) same)

each-way : (P : Bool → Type 0) → P false → P true → (b : Bool) → P b
each-way P fine failed false = fine
each-way P fine failed true = failed

module _ {D : Type 0} (g : Ghosts D) (packet : CallerPacket) (lists : List CallerList) (before now : AtDisk UploadWorking D) (replies : List ℕ) where
  abbrev was : AtDisk Working D
  was = whole lists before

  abbrev is : AtDisk Working D
  is = whole lists now

  abbrev files : Store
  files = store_on g before.it.store before.disk

  -- its row is that of uploading, over any store
  row-over : (there : Store) (fails : Bool) (given : upload.Row) → row_of packet there before.it.state fails ≡ Some given → row_over packet.caller packet.moment there was.it packet.item fails ≡ by_upload lists given
  row-over there fails given same =
      row-upload packet.caller packet.moment there lists (state_by before.it.state ready) packet.item fails given
      (upload-free packet.caller packet.moment there before.it.state packet.item fails ∙ same)

  row-is : (fails : Bool) (given : upload.Row) → row_of packet files before.it.state fails ≡ Some given → packet_row g packet was fails ≡ by_upload lists given
  row-is fails given same = row-over files fails given same

  stopped-by : (fails : Bool) (result : Result ⊤ DiskFault) → IsUploadStopped fails before now replies result → IsStopped fails was is replies result
  stopped-by fails (Ok done) stopped = tt
  stopped-by fails (Err fault) stopped = (
    stopped.0,
    ap (λ (p : upload.State). state_by p ready) stopped.1,
    refl,
    stopped.2 ∙ ap (λ (p : upload.State). texts (upload.fault_reply p ∷ [])) (sym (upload_part-free before.it.state)),
  )

  module _ (fails : Bool) (given : upload.Row) (same : row_of packet files before.it.state fails ≡ Some given) where
    told-by : (result : Result ⊤ DiskFault) → MakesRow g fails given before now replies result → fails ≡ true → TellsRead (packet_row g packet was fails).replies
    told-by result makes failed = (ul_nak_resp 3, ap (λ (r : Row). r.replies) (row-is fails given same) ∙ makes.told failed, refl)

    answers-by : (result : Result ⊤ DiskFault) → MakesRow g fails given before now replies result → Answers g was (packet_row g packet was fails) is replies result
    answers-by (Ok done) makes =
        let row = row-is fails given same in (
          subst (λ (cs : List Command). DoesAll files (store_on g now.it.store now.disk) cs) (sym (ap (λ (r : Row). r.commands) row)) makes.answers.0,
          sym (ap (λ (r : Row). r.lists) row),
          ap (λ (p : upload.State). state_by p ready) makes.answers.1 ∙ sym (ap (λ (r : Row). r.state) row),
          makes.answers.2 ∙ sym (ap (λ (r : Row). texts r.replies) row),
        )
    answers-by (Err fault) makes = tt

    puts-by : (result : Result ⊤ DiskFault) → MakesRow g fails given before now replies result → PutsRow g fails (packet_row g packet was fails) was is result
    puts-by (Ok done) makes =
        among-at g ⊥ (one_if fails) before.it.store now.it.store before.disk now.disk given.commands (packet_row g packet was fails).commands (sym (ap (λ (r : Row). r.commands) (row-is fails given same))) makes.on_disk
    puts-by (Err fault) makes =
        among-at g ⊤ 0 before.it.store now.it.store before.disk now.disk given.commands (packet_row g packet was fails).commands (sym (ap (λ (r : Row). r.commands) (row-is fails given same))) makes.on_disk

  -- a row for which no octet of a file is looked at is such a row of uploading
  looks-by : is_upload_kind (kind_of_item packet.item) ≡ true → (row : Row) → LooksAtNone packet was.it row → (given : upload.Row) × (by_upload lists given ≡ row) × LooksAtNoneIn packet before.it given
  looks-by kind row looks =
      let told : Store = store_in before.it.store in
      let fine = by_read-some packet.caller packet.moment told before.it.state packet.item false kind in
      let failed = by_read-some packet.caller packet.moment told before.it.state packet.item true kind in
      let is_fine = row-over told false fine.0 fine.1 in
      let is_failed = row-over told true failed.0 failed.1 in
      let same : failed.0 ≡ fine.0 = by_upload-same lists failed.0 fine.0 (sym is_failed ∙ looks true ∙ sym (looks false) ∙ is_fine) in (
        fine.0,
        sym is_fine ∙ looks false,
        each-way (λ fails. row_of packet told before.it.state fails ≡ Some fine.0) fine.1 (failed.1 ∙ ap (λ (r : upload.Row). Some r) same),
      )

  anyway-by : (given : upload.Row) (row : Row) → by_upload lists given ≡ row → (result : Result ⊤ DiskFault) → MakesUploadAnyway g given before now replies result
      → MakesAnyway g row was is replies result
  anyway-by given row same (Ok done) makes = record {
    answers = (
      ap (λ (r : Row). r.lists) same,
      ap (λ (p : upload.State). state_by p ready) makes.answers.0 ∙ ap (λ (r : Row). r.state) same,
      makes.answers.1 ∙ ap (λ (r : Row). texts r.replies) same,
    );
    on_disk = among-at g ⊥ (one_if false) before.it.store now.it.store before.disk now.disk given.commands row.commands (ap (λ (r : Row). r.commands) same) makes.on_disk;
    memory = makes.memory ∙ ap (λ (cs : List Command). after_all (store_in before.it.store) (outlined_all cs)) (ap (λ (r : Row). r.commands) same);
  }
  anyway-by given row same (Err fault) makes = record {
    answers = tt;
    on_disk = among-at g ⊤ 0 before.it.store now.it.store before.disk now.disk given.commands row.commands (ap (λ (r : Row). r.commands) same) makes.on_disk;
    memory = tt;
  }

  takes-by : is_upload_kind (kind_of_item packet.item) ≡ true → (result : Result ⊤ DiskFault) → TakesUpload g packet before now replies result → TakesPacket g packet was is replies result
  takes-by kind result takes = record {
    fails = takes.fails;
    stopped = stopped-by takes.fails result takes.stopped;
    told = λ known. let row = takes.makes known in told-by takes.fails row.0 row.1 result row.2;
    answers = λ known. let row = takes.makes known in answers-by takes.fails row.0 row.1 result row.2;
    on_disk = λ known. let row = takes.makes known in puts-by takes.fails row.0 row.1 result row.2;
    reads = takes.reads;
    puts = takes.puts;
    anyway = λ row looks.
        let given = looks-by kind row looks in
        let makes = takes.anyway given.0 given.2 in
        (makes.0, anyway-by given.0 row given.1 result makes.1);
    says = takes.says;
  }

  -- a row without commands leaves the disk as reads do
  untouched-by : (result : Result ⊤ DiskFault) (takes : TakesPacket g packet was is replies result) → IsKnown g before.disk → (packet_row g packet was takes.fails).commands ≡ [] → ChangesReads g before.disk now.disk
  untouched-by (Ok done) takes known none = (takes.on_disk known).none none
  untouched-by (Err fault) takes known none = (takes.on_disk known).none none

module _ {D : Type 0} (g : Ghosts D) (moment : ℕ) (item : Item) (uploads uploads_now : Uploading) (store store_now : StoreState) (lists : List CallerList) (disk disk_now : D) (replies : List ℕ) where
  abbrev before : AtDisk UploadWorking D
  before = working_at (at store disk) (state_of store uploads.phase)

  abbrev now : AtDisk UploadWorking D
  now = working_at (at store_now disk_now) (state_of store_now uploads_now.phase)

  pub taken-upload : is_upload_kind (kind_of_item item) ≡ true → (given : Result ⊤ DiskFault) → TakesUpload g (packet_of uploads.caller moment item) before now replies given
      → (IsErr given → store_now.journal.failed ≡ true) → KeepsComplete (store_in store) (store_in store_now) → KeepsOtherCallers store store_now uploads.caller
      → uploads_now.caller ≡ uploads.caller → (¬ IsErr given → store_now.journal.failed ≡ false) → StandsOn g store_now disk_now
      → IsHeld store_now uploads_now → IsOnlyOut store_now uploads_now → AreComplete (store_in store_now) lists
      → Taken g (packet_of uploads.caller moment item) (session_of uploads ready) (session_of uploads_now ready) (working_on store lists disk) (working_on store_now lists disk_now) replies given
  taken-upload kind given takes failed kept others caller healthy stands held only complete =
      let packet : CallerPacket = packet_of uploads.caller moment item in
      let all = takes-by g packet lists before now replies kind given takes in
      record {
        takes = all;
        untouched = untouched-by g packet lists before now replies given all;
        failed = failed;
        kept = kept;
        others = others;
        caller = caller;
        healthy = healthy;
        stands_on = stands;
        held = held;
        only = only;
        due = tt;
        complete = complete;
      }
