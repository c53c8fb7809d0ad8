-- One entry of a job that uploads a file keeps its client's facts.
use Rattle.std.proofs.Common.{◌≡◌, ◌≢◌, ◌⊎◌, ℕ, ◌+◌, List, [], ◌∷◌, ◌++◌, length, map, Option, None, Some, inl, inr}
use Rattle.std.proofs.Common.{refl, sym, ◌∙◌, ap, subst, append-nil, append_assoc, take_all, le_refl}
use Rattle.ftl0_server.specs.Entries as session
use Rattle.client_notes.specs.Several as notes
use Rattle.ftl0_client_job.specs.declared.work.Work.TheVariants as work
use Rattle.ftl0_client.specs.Entries as job
use Rattle.air_world.proofs.files.Names.{map-append, same_Some, Item, PacketValue, ul_go_resp, Store, after_all, Lists, Ending, Work, DuePacket, GoBy, HasTask, IsNotBegun, Row, JobState, item_row, job_row, new_job, row_of, Upload, new_upload, upload_row, Attempted, GoesBy, JobEntry, lost, passed, queued, took, Attempt, AreFirstOf, Has, OneIs, Asked, Party, IsTaken, octets_come, said_behind_server, IsGreeting, JobReaches, ServerSide, said_by_client, said_by_server, one-cases, one-left, reaches-by, reaches-then, some-at, Says, Serves, FetchesBy, HasNumber, Receives, TookFront, job_gone, with_job, IsWork, GoesOnWith, SaysUpload, ServesUpload}
use Rattle.air_world.proofs.files.JobNotes.{NotesKept, NumberIn}
use Rattle.air_world.proofs.files.JobReach.{row-of-work}
use Rattle.air_world.proofs.files.JobStep.{of_attempts}
use Rattle.air_world.proofs.files.JobTook.{whole}
use Rattle.air_world.proofs.files.JobUploadCases.{keeps-notes, notes-number, says-nothing}
use Rattle.air_world.proofs.files.JobUploadGoes.{goes-behind, no-download, says-came, says-same}
use Rattle.air_world.proofs.files.JobUploadNotes.{Uploading, fronts-none, upload-same}
use Rattle.air_world.proofs.files.JobUploadRows.{upload_at}
use Rattle.air_world.proofs.files.JobUploadSaid.{does-upload, due-of}
use Rattle.air_world.proofs.files.JobUploadCame.{DoesUpload, said-one}
use Rattle.air_world.proofs.files.JobWorking.{OneKept, Working, heard-all, heard-before, heard-last, never-fetched}
use Rattle.air_world.proofs.files.JobWorking.{told-before}

-- What an entry of an upload's job does, besides what it says: the notes are those after its commands, each prefix of
-- which keeps the notes; with the outcome it says nothing; and the number of a new upload is noted.
record EntryDoes (store : Store) (files : List Asked) (base : Party) (a : Attempt) (older : List Attempt)
    (upload : Upload) (entry : JobEntry) (lists : Lists)
    (now : Attempted) : Type 0 where
  lists_are : lists ≡ after_all base.client.lists (job.commands_in (entry ∷ []))
  fronts : (count : ℕ)
      → NotesKept store files (of_attempts base a older)
      (notes.after_first count base.client.lists (job.commands_in (entry ∷ [])))
  quiet : now.job.ending ≢ None → job.packets_said entry ≡ []
  number : (number : ℕ) → IsTaken (whole (ul_go_resp number 0)) entry → upload.known ≡ 0
      → NumberIn lists upload.task number

module _ (store : Store) (files : List Asked) (c : ℕ) (base : Party) (a : Attempt) (older : List Attempt)
    (w : Working store files c base a older)
    (upload : Upload) (asked_is : a.client.asked ≡ work.Upload upload) (lists_now : Lists) (now : Attempted)
    (side : ServerSide) where
  abbrev party : Party
  party = of_attempts base a older

  abbrev task : ℕ
  task = upload.task

  abbrev known : ℕ
  known = upload.known

  abbrev file : List ℕ
  file = upload.file

  abbrev lists : Lists
  lists = base.client.lists

  abbrev job_is : JobState
  job_is = a.client.attempted.job

  new-is : upload ≡ new_upload task known file
  new-is = subst IsNotBegun asked_is w.begun

  asked : a.client.asked ≡ work.Upload (new_upload task known file)
  asked = asked_is ∙ ap work.Upload new-is

  module _ (entry : JobEntry) (goes : GoesBy lists job_is (entry ∷ []) lists_now now.job)
      (front : TookFront a (entry ∷ []) side) where
    it : Uploading store files base a older upload side
    it = record {
      asked = asked;
      facts = w.facts;
      is_file = subst (IsWork files party) asked_is w.stands.works.0;
      is_side = front.is_side;
      greets = front.greets;
      serves =
          subst (λ (doing : Work). Serves store doing side) asked
          (some-at (Serves store a.client.asked) a.server side w.facts.sessions.serves.0 front.is_side);
      heard = heard-before a entry side front;
      told = told-before a entry side front;
    }

    does : DoesUpload task known file a.client.entries job_is
    does =
        does-upload task known file a.client.entries job_is
        (subst (λ (doing : Work). JobReaches (new_job doing) a.client.entries job_is) asked w.reached)

    -- ---- a packet that is taken before the outcome

    -- its row
    row-is : (item : Item) (row : Row Work) (packet : PacketValue) → job_is.ending ≡ None
        → row ≡ job_row lists job_is item → whole packet ≡ item
        → row ≡ row_of work.Upload (upload_row (upload_at task known file does.phase_is) packet)
    row-is item row packet none is same =
        is ∙ row-of-work lists job_is item none ∙ ap (λ (doing : Work). item_row lists doing item) does.work_is
        ∙ ap (item_row lists (work.Upload (upload_at task known file does.phase_is))) (sym same)

    has-task : job_is.ending ≡ None → HasTask lists (upload_at task known file does.phase_is)
    has-task none =
        subst (λ (o : Option Ending). GoBy o lists (work.Upload (upload_at task known file does.phase_is))) none
        (subst (λ (doing : Work). GoBy job_is.ending lists doing) does.work_is w.job.go_with)

    packet-fronts : (item : Item) (row : Row Work) → job_is.ending ≡ None → row ≡ job_row lists job_is item
        → Has (job.items_of entry) item
        → (count : ℕ) → NotesKept store files party (notes.after_first count lists (row.commands ++ []))
    packet-fronts item row none is has count =
        let heard = heard-last a entry side front item has in
        subst (λ (r : Row Work). NotesKept store files party (notes.after_first count lists (r.commands ++ [])))
        (sym (row-is item row heard.0 none is heard.1))
        (keeps-notes store files base a older upload side it does.phase_is heard.0 (does.came none)
        (has-task none) heard.2 count)

    packet-quiet : (item : Item) (row : Row Work) → job_is.ending ≡ None → row ≡ job_row lists job_is item
        → Has (job.items_of entry) item → row.ending ≢ None
        → row.replies ≡ []
    packet-quiet item row none is has over =
        let heard = heard-last a entry side front item has in
        let same = row-is item row heard.0 none is heard.1 in
        ap (λ (r : Row Work). r.replies) same
        ∙ says-nothing store files base a older upload side it does.phase_is heard.0 (does.came none) heard.2
        (λ ended. over (ap (λ (r : Row Work). r.ending) same ∙ ended))

    packet-number : (item : Item) (row : Row Work) → job_is.ending ≡ None → row ≡ job_row lists job_is item
        → Has (job.items_of entry) item → (number : ℕ)
        → item ≡ whole (ul_go_resp number 0) → known ≡ 0 → NumberIn (after_all lists (row.commands ++ [])) task number
    packet-number item row none is has number packet_is new =
        let heard = heard-last a entry side front item has in
        let same : whole heard.0 ≡ whole (ul_go_resp number 0) = heard.1 ∙ packet_is in
        let packet_same : heard.0 ≡ ul_go_resp number 0 = cc in
        subst (λ (r : Row Work). NumberIn (after_all lists (r.commands ++ [])) task number)
        (sym (row-is item row heard.0 none is heard.1))
        (notes-number store files base a older upload side it does.phase_is heard.0 (does.came none)
        (has-task none) heard.2 number packet_same new)

  -- what each entry does
  entry-does : (entry : JobEntry) → GoesBy lists job_is (entry ∷ []) lists_now now.job → TookFront a (entry ∷ []) side
      → EntryDoes store files base a older upload entry lists_now now
  entry-does (took item row) goes front =
      let lists_are : lists_now ≡ after_all lists (row.commands ++ []) =
      goes.2.0 ∙ ap (after_all lists) (sym (append-nil row.commands)) in
      record {
        lists_are = lists_are;
        fronts = packet-fronts (took item row) goes front item row goes.0 goes.1 (inl refl);
        quiet = λ over.
            packet-quiet (took item row) goes front item row goes.0 goes.1 (inl refl)
            (λ none. over (ap (λ (j : JobState). j.ending) goes.2.1 ∙ none));
        number = λ number is new.
            subst (λ (l : Lists). NumberIn l task number) (sym lists_are)
            (packet-number (took item row) goes front item row goes.0 goes.1 (inl refl) number is new);
      }
  entry-does (lost item row) goes front = record {
    lists_are = goes.2.0 ∙ ap (after_all lists) (sym (append-nil row.commands));
    fronts = packet-fronts (lost item row) goes front item row goes.0 goes.1 (inl refl);
    quiet = λ over. refl;
    number = λ number is new. absurd is;
  }
  entry-does (passed item) goes front = record {
    lists_are = goes.1.0;
    fronts = fronts-none store files party w.facts;
    quiet = λ over. refl;
    number = λ number is new. absurd is;
  }
  entry-does (queued due) goes front =
      let is = due-of task known file job_is due (does (queued due) goes front).phase_is
      (does (queued due) goes front).work_is goes.0 in
      record {
        lists_are = goes.1.0;
        fronts = fronts-none store files party w.facts;
        quiet =
            λ over. absurd (over (ap (λ (j : JobState). j.ending) goes.1.1
            ∙ ap (λ (d : DuePacket JobState). d.state.ending) is.due_is));
        number = λ number is new. absurd is;
      }

  -- ---- the attempt then

  module _ (entry : JobEntry) (goes : GoesBy lists job_is (entry ∷ []) lists_now now.job)
      (front : TookFront a (entry ∷ []) side) where
    abbrev b : Attempt
    b = job_gone (entry ∷ []) now a

    abbrev new : Party
    new = with_job party lists_now now b older

    at : Uploading store files base a older upload side
    at = it entry goes front

    done : EntryDoes store files base a older upload entry lists_now now
    done = entry-does entry goes front

    does-now : DoesUpload task known file b.client.entries now.job
    does-now =
        does-upload task known file b.client.entries now.job
        (subst (λ (doing : Work). JobReaches (new_job doing) b.client.entries now.job) asked
        (reaches-then (new_job a.client.asked) job_is now.job a.client.entries (entry ∷ []) w.reached
        (reaches-by lists lists_now job_is now.job (entry ∷ []) goes)))

    says-now : SaysUpload known file b.client
    says-now = by now.job.ending refl
      where
        before : SaysUpload known file a.client
        before = subst (λ (doing : Work). Says doing a.client) asked w.facts.sessions.says.0

        by : (o : Option Ending) → now.job.ending ≡ o → SaysUpload known file b.client
        by None none = says-came known file b.client does-now.phase_is (does-now.came none)
        by (Some ending) ended =
            says-same known file a.client b.client before
            (said-one a.client.entries entry
            ∙ ap (λ (l : List PacketValue). said_by_client a.client ++ l)
            (done.quiet (λ none. (let no : Some ending ≡ None = sym ended ∙ none in cc no)))
            ∙ append-nil (said_by_client a.client))
            (λ packet taken. one-left (IsTaken (whole packet)) a.client.entries (entry ∷ []) taken)

    notes-now : NotesKept store files party lists_now
    notes-now =
        subst (NotesKept store files party)
        (ap (after_all lists) (take_all (length (job.commands_in (entry ∷ []))) (job.commands_in (entry ∷ []))
        (le_refl (length (job.commands_in (entry ∷ [])))))
        ∙ sym done.lists_are)
        (done.fronts (length (job.commands_in (entry ∷ []))))

    noted-now : (task_is number : ℕ) (file_is : List ℕ) → b.client.asked ≡ work.Upload (new_upload task_is 0 file_is)
        → OneIs (IsTaken (whole (ul_go_resp number 0))) (a.client.entries ++ entry ∷ [])
        → NumberIn lists_now task_is number
    noted-now task_is number file_is asks taken =
        by (one-cases (IsTaken (whole (ul_go_resp number 0))) a.client.entries (entry ∷ []) taken)
      where
        same : new_upload task known file ≡ new_upload task_is 0 file_is
        same = upload-same (new_upload task known file) (new_upload task_is 0 file_is) (sym asked ∙ asks)

        by : OneIs (IsTaken (whole (ul_go_resp number 0))) a.client.entries ⊎ OneIs
            (IsTaken (whole (ul_go_resp number 0))) (entry ∷ []) → NumberIn lists_now task_is number
        by (inl old) =
            let has : HasNumber party task_is number = w.facts.tasks.noted.0 task_is number file_is asks old in
            notes-now.numbers task_is number
            (record { entry = has.entry; is_entry = has.is_entry; number_is = has.number_is; some = has.some })
        by (inr (inl here)) =
            subst (λ (t : ℕ). NumberIn lists_now t number) (ap (λ (u : Upload). u.task) same)
            (done.number number here (ap (λ (u : Upload). u.known) same))
        by (inr (inr none)) = absurd none

    -- the session that receives is this one, and what is said after what it took goes on with the file
    receives-now : (that : ServerSide) (number : ℕ) (rest : List ℕ) → side ≡ that
        → (r : Receives store party a that number rest)
        → GoesOnWith r.file (r.offset + octets_come that) (said_behind_server that b.client)
    receives-now that number rest same r =
        let greets = subst (λ (s : ServerSide). IsGreeting s.greeting) same front.greets in
        let serves = subst (ServesUpload known file) same at.serves in
        let heard = subst (λ (s : ServerSide). (packet : PacketValue) → OneIs (IsTaken (whole packet)) b.client.entries
        → Has (said_by_server s) packet) same
        (heard-all a entry side front) in
        let took = subst (λ (s : ServerSide). AreFirstOf (session.items_in s.entries)
        (map whole (said_by_client b.client))) same more in
        let file_is : file ≡ r.file =
        ap (λ (u : Upload). u.file)
        (upload-same (new_upload task known file) (new_upload r.task r.known r.file) (sym asked ∙ r.asks)) in
        subst (λ (f : List ℕ). GoesOnWith f (r.offset + octets_come that) (said_behind_server that b.client)) file_is
        (goes-behind known file that greets serves b.client says-now number r.offset r.offers heard took)
      where
        -- what the client says grows at its end
        more : AreFirstOf (session.items_in side.entries) (map whole (said_by_client b.client))
        more = (
          front.server.0 ++ map whole (job.packets_said entry),
          ap (map whole) (said-one a.client.entries entry)
              ∙ map-append whole (said_by_client a.client) (job.packets_said entry)
              ∙ ap (λ (l : List Item). l ++ map whole (job.packets_said entry)) front.server.1
              ∙ append_assoc (session.items_in side.entries) front.server.0 (map whole (job.packets_said entry)),
        )

    pub upload-kept : OneKept store files base a older entry lists_now now
    upload-kept = record {
      lists_are = done.lists_are;
      fronts = done.fronts;
      kept = record {
        noted = λ task_is number file_is asks taken.
            let n = noted-now task_is number file_is asks taken in
            record { entry = n.entry; is_entry = n.is_entry; number_is = n.number_is; some = n.some };
        receives =
            λ that number rest is up state r. receives-now that number rest
            (same_Some side that (sym front.is_side ∙ is)) r;
        says = subst (λ (doing : Work). Says doing b.client) (sym asked) says-now;
        fetching =
            λ is. subst (λ (doing : Work). FetchesBy now.job.ending doing store new b) (sym does-now.work_is)
            (nothing now.job.ending);
        fetched = λ number is. absurd (never-fetched now.job.ending now.down number does-now.ended is);
        asked_within = λ number offset has. absurd (no-download known file b.client number offset says-now has);
      };
    }
      where
        nothing : (o : Option Ending)
            → FetchesBy o (work.Upload (upload_at task known file does-now.phase_is)) store new b
        nothing None = tt
        nothing (Some ending) = tt
