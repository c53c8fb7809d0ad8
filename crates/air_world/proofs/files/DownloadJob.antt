-- One entry of a job that downloads a file keeps its client's facts.
use Rattle.std.proofs.Common.{◌≡◌, ◌≢◌, ◌⊎◌, inl, inr, ℕ, ◌≤◌, List, [], ◌∷◌, ◌++◌, length, refl, ap, sym, ◌∙◌, subst}
use Rattle.std.proofs.Common.{Option, None, Some, Ok, append-nil, take_all, le_refl, le_trans}
use Rattle.client_notes.specs.Several as notes
use Rattle.ftl0_client_job.specs.declared.ending.Outcome.TheVariants as outcome
use Rattle.ftl0_client_job.specs.declared.work.Work.TheVariants as work
use Rattle.ftl0_client.specs.Entries as job
use Rattle.air_world.proofs.files.Names.{CallSign, kind_of_item, Item, PacketValue, download_cmd, fault_code, Store, NotesCommand, after_all, Lists, got_of, Ending, Work, Download, download_row, new_download, IsCheckedIn, IsNotBegun, Row, strange_ending, JobState, item_row, job_after, job_row, new_job, row_of, Upload, new_upload, Attempted, outcome_by, GoesBy, JobEntry, after_losing, lost, passed, queued, took, Attempt, Has, Asked, Party, JobReaches, ServerSide, said_by_client, said_by_server, flat_map-one, one-cases, reaches-by, reaches-then, some-at, Says, Serves, AskedWithin, FetchesBy, FetchesIn, IsDownloadOf, TookFront, job_gone, with_job, IsWork}
use Rattle.air_world.proofs.files.DownloadJobHeard.{IsNext, next-of}
use Rattle.air_world.proofs.files.DownloadJobNotes.{Downloading, RowKept, packet-kept}
use Rattle.air_world.proofs.files.DownloadJobRows.{download_at}
use Rattle.air_world.proofs.files.DownloadJobSaid.{DoesDownload, does-download, none-due}
use Rattle.air_world.proofs.files.JobNotes.{NotesKept}
use Rattle.air_world.proofs.files.JobOne.{OneLaw}
use Rattle.air_world.proofs.files.JobReach.{row-of-work}
use Rattle.air_world.proofs.files.JobStep.{of_attempts}
use Rattle.air_world.proofs.files.JobUploadNotes.{fronts-none}
use Rattle.air_world.proofs.files.JobUploadCame.{said-one}
use Rattle.air_world.proofs.files.JobWorking.{OneKept, Working, heard-last}
use Rattle.air_world.proofs.files.DownloadReached.{HasReached, reached-of, says-of}

module _ (store : Store) (files : List Asked) (c : ℕ) (base : Party) (a : Attempt) (older : List Attempt)
    (w : Working store files c base a older)
    (download : Download) (asked_is : a.client.asked ≡ work.Download download) (side : ServerSide) where
  abbrev party : Party
  party = of_attempts base a older

  abbrev number : ℕ
  number = download.number

  abbrev lists : Lists
  lists = base.client.lists

  abbrev server : CallSign
  server = base.client.server

  abbrev held : List ℕ
  held = got_of lists server number

  abbrev job_is : JobState
  job_is = a.client.attempted.job

  works : IsWork files party (work.Download download)
  works = subst (IsWork files party) asked_is w.stands.works.0

  asked_new : a.client.asked ≡ work.Download (new_download server number)
  asked_new =
      asked_is ∙ ap work.Download
      (subst IsNotBegun asked_is w.begun ∙ ap (λ (s : CallSign). new_download s number) works.0)

  -- it is no upload
  no-upload : (upload : Upload) → a.client.asked ≢ work.Upload upload
  no-upload upload is = absurd (let other : work.Download download ≡ work.Upload upload = sym asked_is ∙ is in cc)

  does : DoesDownload server number a.client.entries job_is
  does =
      does-download server number a.client.entries job_is
      (subst (λ (doing : Work). JobReaches (new_job doing) a.client.entries job_is) asked_new w.reached)

  -- what the client fetches
  fetching-by : FetchesBy job_is.ending (work.Download (download_at server number does.rest does.phase_is)) store party
      a
  fetching-by =
      subst (λ (doing : Work). FetchesBy job_is.ending doing store party a) does.work_is
      (w.facts.files_got.fetching w.link)

  fetching-in : job_is.ending ≡ None
      → FetchesIn does.phase_is store party a (download_at server number does.rest does.phase_is)
  fetching-in none =
      subst (λ (o : Option Ending). FetchesBy o
      (work.Download (download_at server number does.rest does.phase_is)) store party a) none fetching-by

  -- ---- what is to be shown of an entry

  module _ (entry : JobEntry) (lists_now : Lists) (now : Attempted) where
    abbrev b : Attempt
    b = job_gone (entry ∷ []) now a

    abbrev new : Party
    new = with_job party lists_now now b older

    record EntryKept : Type 0 where
      lists_are : lists_now ≡ after_all lists (job.commands_of entry)
      fronts : (count : ℕ) → NotesKept store files party (notes.after_first count lists (job.commands_of entry))
      fetching : FetchesBy now.job.ending now.job.work store new b
      fetched : (n : ℕ) → HasReached now.job.ending n → fault_code (got_of lists_now server n) ≡ None
      asks : (n offset : ℕ) → Has (job.packets_said entry) (download_cmd n offset 0)
          → offset ≤ length (got_of lists_now server n)

    module _ (goes : GoesBy lists job_is (entry ∷ []) lists_now now.job) (kept : EntryKept) where
      does-now : DoesDownload server number b.client.entries now.job
      does-now =
          does-download server number b.client.entries now.job
          (subst (λ (doing : Work). JobReaches (new_job doing) b.client.entries now.job) asked_new
          (reaches-then (new_job a.client.asked) job_is now.job a.client.entries (entry ∷ []) w.reached
          (reaches-by lists lists_now job_is now.job (entry ∷ []) goes)))

      commands-are : job.commands_in (entry ∷ []) ≡ job.commands_of entry
      commands-are = append-nil (job.commands_of entry)

      notes-now : NotesKept store files party lists_now
      notes-now =
          subst (NotesKept store files party)
          (ap (after_all lists) (take_all (length (job.commands_of entry)) (job.commands_of entry)
          (le_refl (length (job.commands_of entry)))) ∙ sym kept.lists_are)
          (kept.fronts (length (job.commands_of entry)))

      asked-now : AskedWithin new b
      asked-now n offset has =
          by (one-cases (λ p. p ≡ download_cmd n offset 0) (said_by_client a.client) (job.packets_said entry)
          (subst (λ (l : List PacketValue). Has l (download_cmd n offset 0)) (said-one a.client.entries entry) has))
        where
          by : Has (said_by_client a.client) (download_cmd n offset 0) ⊎ Has (job.packets_said entry)
              (download_cmd n offset 0) → offset ≤ length (got_of lists_now server n)
          by (inl was) = le_trans (w.facts.files_got.asked_within.0 n offset was) (notes-now.longer n)
          by (inr here) = kept.asks n offset here

      one-kept : OneKept store files base a older entry lists_now now
      one-kept = record {
        lists_are = kept.lists_are ∙ sym (ap (after_all lists) commands-are);
        fronts = λ count.
            subst (λ (cs : List NotesCommand). NotesKept store files party (notes.after_first count lists cs))
            (sym commands-are) (kept.fronts count);
        kept = record {
          noted = λ task n file asks taken. absurd (no-upload (new_upload task 0 file) asks);
          receives = λ other n rest is up state r. absurd (no-upload (new_upload r.task r.known r.file) r.asks);
          says =
              subst (λ (doing : Work). Says doing b.client) (sym asked_is)
              (says-of number b.client now.job server does-now);
          fetching = λ link. kept.fetching;
          fetched = λ n is. kept.fetched n (reached-of now.job.ending now.down n is);
          asked_within = asked-now;
        };
      }

  -- ---- the entries

  module _ (now : Attempted) where
    -- a packet before the outcome
    module _ (packet : PacketValue) (entry : JobEntry) (taken : job.items_of entry ≡ Ok packet ∷ [])
        (none : job_is.ending ≡ None) (front : TookFront a (entry ∷ []) side) where
      it : Downloading store files base a older number side
      it = record {
        facts = w.facts;
        sound = w.sound;
        is_side = front.is_side;
        greets = front.greets;
        serves =
            subst (λ (doing : Work). Serves store doing side) asked_new
            (some-at (Serves store a.client.asked) a.server side w.facts.sessions.serves.0 front.is_side);
        says = subst (λ (doing : Work). Says doing a.client) asked_new w.facts.sessions.says.0;
        told = front.server;
      }

      next : IsNext (job.items_in a.client.entries) packet (said_by_server side)
      next =
          let items : job.items_in (a.client.entries ++ entry ∷ []) ≡ job.items_in a.client.entries ++ Ok packet ∷ [] =
          flat_map-one job.items_of a.client.entries entry
          ∙ ap (λ (l : List Item). job.items_in a.client.entries ++ l) taken in
          next-of (job.items_in a.client.entries) packet (said_by_server side)
          (front.client.0, front.client.1 ∙ ap (λ (l : List Item). l ++ front.client.0) items)

      abbrev row_is : Row Download
      row_is = download_row held (download_at server number does.rest does.phase_is) packet

      kept : RowKept store files base a older number side it does.rest packet row_is
      kept =
          packet-kept store files base a older number side it does.rest does.phase_is packet (does.came none)
          (fetching-in none) next

      -- what is fetched after its row
      fetching-row : now.job ≡ job_after (row_of work.Download row_is)
          → FetchesBy now.job.ending now.job.work store
          (new (took (Ok packet) (row_of work.Download row_is)) (after_all lists row_is.commands) now)
          (b (took (Ok packet) (row_of work.Download row_is)) (after_all lists row_is.commands) now)
      fetching-row is =
          subst
          (λ (j : JobState).
          FetchesBy j.ending j.work store
          (new (took (Ok packet) (row_of work.Download row_is)) (after_all lists row_is.commands) now)
          (b (took (Ok packet) (row_of work.Download row_is)) (after_all lists row_is.commands) now))
          (sym is) (by row_is.ending refl)
        where
          by : (o : Option Ending) → row_is.ending ≡ o
              → FetchesBy row_is.ending (work.Download row_is.state) store
              (new (took (Ok packet) (row_of work.Download row_is)) (after_all lists row_is.commands) now)
              (b (took (Ok packet) (row_of work.Download row_is)) (after_all lists row_is.commands) now)
          by None goes_on =
              subst
              (λ (o : Option Ending).
              FetchesBy o (work.Download row_is.state) store
              (new (took (Ok packet) (row_of work.Download row_is)) (after_all lists row_is.commands) now)
              (b (took (Ok packet) (row_of work.Download row_is)) (after_all lists row_is.commands) now))
              (sym goes_on) (kept.fetches now goes_on)
          by (Some ending) over =
              subst
              (λ (o : Option Ending).
              FetchesBy o (work.Download row_is.state) store
              (new (took (Ok packet) (row_of work.Download row_is)) (after_all lists row_is.commands) now)
              (b (took (Ok packet) (row_of work.Download row_is)) (after_all lists row_is.commands) now))
              (sym over) kept.checked

      took-kept : now.job ≡ job_after (row_of work.Download row_is)
          → EntryKept (took (Ok packet) (row_of work.Download row_is)) (after_all lists row_is.commands) now
      took-kept is = record {
        lists_are = refl;
        fronts = kept.fronts;
        fetching = fetching-row is;
        fetched =
            λ n reached. kept.fetched reached.ending n
            (sym (ap (λ (j : JobState). j.ending) is) ∙ reached.is) reached.reached;
        asks = kept.asks;
      }

      lost-kept : now.job ≡ after_losing (kind_of_item (Ok packet)) (row_of work.Download row_is)
          → EntryKept (lost (Ok packet) (row_of work.Download row_is)) (after_all lists row_is.commands) now
      lost-kept is = record {
        lists_are = refl;
        fronts = kept.fronts;
        fetching =
            subst
            (λ (j : JobState).
            FetchesBy j.ending j.work store
            (new (lost (Ok packet) (row_of work.Download row_is)) (after_all lists row_is.commands) now)
            (b (lost (Ok packet) (row_of work.Download row_is)) (after_all lists row_is.commands) now))
            (sym is) kept.checked;
        fetched = λ n reached. absurd (strange-never n reached);
        asks = λ n offset has. absurd has;
      }
        where
          strange-never : (n : ℕ) → HasReached now.job.ending n → ⊥
          strange-never n reached =
              let end : Some (strange_ending (kind_of_item (Ok packet))) ≡ Some reached.ending =
              sym (ap (λ (j : JobState). j.ending) is) ∙ reached.is in
              let same : strange_ending (kind_of_item (Ok packet)) ≡ reached.ending = cc in
              absurd (let no : outcome.Strange (kind_of_item (Ok packet)) ≡ outcome.Fetched n = ap
              (λ (e : Ending). e.outcome) same ∙ reached.reached in cc)

    -- the row of a packet
    row-of-packet : (packet : PacketValue) (item : Item) (row : Row Work) → item ≡ Ok packet → job_is.ending ≡ None
        → row ≡ job_row lists job_is item
        → row ≡ row_of work.Download (download_row held (download_at server number does.rest does.phase_is) packet)
    row-of-packet packet item row item_is none is =
        is ∙ row-of-work lists job_is item none ∙ ap (λ (doing : Work). item_row lists doing item) does.work_is
        ∙ ap (item_row lists (work.Download (download_at server number does.rest does.phase_is))) item_is

    entry-kept : (entry : JobEntry) (lists_now : Lists) → GoesBy lists job_is (entry ∷ []) lists_now now.job
        → TookFront a (entry ∷ []) side → EntryKept entry lists_now now
    entry-kept (took item row) lists_now goes front =
        let heard = heard-last a (took item row) side front item (inl refl) in
        let row_as = row-of-packet heard.0 item row (sym heard.1) goes.0 goes.1 in
        let given = row_of work.Download
        (download_row held (download_at server number does.rest does.phase_is) heard.0) in
        subst (λ (l : Lists). EntryKept (took item row) l now)
        (sym (goes.2.0 ∙ ap (λ (r : Row Work). after_all lists r.commands) row_as))
        (subst (λ (r : Row Work). EntryKept (took item r) (after_all lists given.commands) now) (sym row_as)
        (subst (λ (i : Item). EntryKept (took i given) (after_all lists given.commands) now) heard.1
        (took-kept heard.0 (took item row) (ap (λ (i : Item). i ∷ []) (sym heard.1)) goes.0 front
        (goes.2.1 ∙ ap job_after row_as))))
    entry-kept (lost item row) lists_now goes front =
        let heard = heard-last a (lost item row) side front item (inl refl) in
        let row_as = row-of-packet heard.0 item row (sym heard.1) goes.0 goes.1 in
        let given = row_of work.Download
        (download_row held (download_at server number does.rest does.phase_is) heard.0) in
        subst (λ (l : Lists). EntryKept (lost item row) l now)
        (sym (goes.2.0 ∙ ap (λ (r : Row Work). after_all lists r.commands) row_as))
        (subst (λ (r : Row Work). EntryKept (lost item r) (after_all lists given.commands) now) (sym row_as)
        (subst (λ (i : Item). EntryKept (lost i given) (after_all lists given.commands) now) heard.1
        (lost-kept heard.0 (lost item row) (ap (λ (i : Item). i ∷ []) (sym heard.1)) goes.0 front
        (goes.2.1 ∙ ap (λ (i : Item). after_losing (kind_of_item i) row) (sym heard.1)
        ∙ ap (after_losing (kind_of_item (Ok heard.0))) row_as))))
    entry-kept (passed item) lists_now goes front = record {
      lists_are = goes.1.0;
      fronts = fronts-none store files party w.facts;
      fetching = passed-fetching (passed item) lists_now goes.0 goes.1.0 goes.1.1;
      fetched = λ n reached.
          ap (λ (l : Lists). fault_code (got_of l server n)) goes.1.0
          ∙ w.facts.files_got.fetched.0 n
          (passed-outcome n (subst (λ (j : JobState). HasReached j.ending n) goes.1.1 reached));
      asks = λ n offset has. absurd has;
    }
      where
        passed-outcome : (n : ℕ) → HasReached job_is.ending n
            → outcome_by job_is.ending a.client.attempted.down ≡ Some (outcome.Fetched n)
        passed-outcome n reached =
            ap (λ (o : Option Ending). outcome_by o a.client.attempted.down) reached.is
            ∙ ap (λ o. Some o) reached.reached

        passed-fetching : (entry : JobEntry) (lists_then : Lists) → job_is.ending ≢ None → lists_then ≡ lists
            → now.job ≡ job_is
            → FetchesBy now.job.ending now.job.work store (new entry lists_then now) (b entry lists_then now)
        passed-fetching entry lists_then over same is =
            subst (λ (j : JobState). FetchesBy j.ending j.work store (new entry lists_then now)
            (b entry lists_then now)) (sym is)
            (subst (λ (doing : Work). FetchesBy job_is.ending doing store (new entry lists_then now)
            (b entry lists_then now)) (sym does.work_is)
            (by job_is.ending refl))
          where
            by : (o : Option Ending) → job_is.ending ≡ o
                → FetchesBy job_is.ending (work.Download (download_at server number does.rest does.phase_is)) store
                (new entry lists_then now) (b entry lists_then now)
            by None none = absurd (over none)
            by (Some ending) ended =
                let was : IsCheckedIn does.phase_is held =
                subst (λ (o : Option Ending). FetchesBy o
                (work.Download (download_at server number does.rest does.phase_is)) store party a) ended
                fetching-by in
                subst (λ (o : Option Ending). FetchesBy o
                (work.Download (download_at server number does.rest does.phase_is)) store (new entry lists_then now)
                (b entry lists_then now)) (sym ended)
                (subst (λ (l : Lists). IsCheckedIn does.phase_is (got_of l server number)) (sym same) was)
    entry-kept (queued due) lists_now goes front =
        absurd (none-due server number job_is due
        (download_at server number does.rest does.phase_is) does.work_is goes.0)

pub download-one : OneLaw IsDownloadOf
download-one store files c base a older w kind entry lists now goes side front =
    one-kept store files c base a older w kind.0 kind.1 side entry lists now goes
    (entry-kept store files c base a older w kind.0 kind.1 side now entry lists goes front)
