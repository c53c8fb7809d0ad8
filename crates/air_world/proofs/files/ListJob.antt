-- One entry of a job that selects and lists keeps its client's facts.
use Rattle.std.proofs.Common.{◌≡◌, ◌≢◌, ℕ, List, [], ◌∷◌, refl, ap, sym, ◌∙◌, subst, Option, None, Some, append-nil}
use Rattle.client_notes.specs.Several as notes
use Rattle.ftl0_client_job.specs.declared.work.Work.TheVariants as work
use Rattle.ftl0_client.specs.Entries as job
use Rattle.air_world.proofs.files.Names.{Item, Store, NotesCommand, after_all, Lists, Ending, Work, Directory, new_directory, IsNotBegun, Row, JobState, item_row, job_row, new_job, Upload, new_upload, Attempted, GoesBy, JobEntry, lost, passed, queued, took, Attempt, Asked, Party, JobReaches, said_by_client, reaches-by, reaches-then, Says, FetchesBy, IsDirectoryOf, job_gone, with_job}
use Rattle.air_world.proofs.files.JobNotes.{NotesKept}
use Rattle.air_world.proofs.files.JobOne.{OneLaw}
use Rattle.air_world.proofs.files.JobReach.{row-of-work}
use Rattle.air_world.proofs.files.JobStep.{of_attempts}
use Rattle.air_world.proofs.files.JobUploadNotes.{fronts-none}
use Rattle.air_world.proofs.files.JobWorking.{OneKept, Working, never-fetched}
use Rattle.air_world.proofs.files.ListJobSaid.{DoesList, directory_at, does-list, item-silent, none-due}
use Rattle.air_world.proofs.files.ListServed.{none-asked}

module _ (store : Store) (files : List Asked) (c : ℕ) (base : Party) (a : Attempt) (older : List Attempt)
    (w : Working store files c base a older)
    (directory : Directory) (asked_is : a.client.asked ≡ work.Directory directory) (lists_now : Lists)
    (now : Attempted) where
  abbrev party : Party
  party = of_attempts base a older

  abbrev tokens : List ℕ
  tokens = directory.tokens

  abbrev lists : Lists
  lists = base.client.lists

  abbrev job_is : JobState
  job_is = a.client.attempted.job

  asked : a.client.asked ≡ work.Directory (new_directory tokens)
  asked = asked_is ∙ ap work.Directory (subst IsNotBegun asked_is w.begun)

  does : DoesList tokens a.client.entries job_is
  does =
      does-list tokens a.client.entries job_is
      (subst (λ (doing : Work). JobReaches (new_job doing) a.client.entries job_is) asked w.reached)

  -- a packet's row has no command
  row-silent : (item : Item) (row : Row Work) → job_is.ending ≡ None → row ≡ job_row lists job_is item
      → row.commands ≡ []
  row-silent item row none is =
      ap (λ (r : Row Work). r.commands)
      (is ∙ row-of-work lists job_is item none ∙ ap (λ (doing : Work). item_row lists doing item) does.work_is)
      ∙ item-silent tokens lists does.listing does.phase_is item

  -- so an entry has none, and leaves the notes
  entry-silent : (entry : JobEntry) → GoesBy lists job_is (entry ∷ []) lists_now now.job
      → (job.commands_of entry ≡ []) × (lists_now ≡ lists)
  entry-silent (took item row) goes =
      let none = row-silent item row goes.0 goes.1 in
      (none, goes.2.0 ∙ ap (after_all lists) none)
  entry-silent (lost item row) goes =
      let none = row-silent item row goes.0 goes.1 in
      (none, goes.2.0 ∙ ap (after_all lists) none)
  entry-silent (passed item) goes = (refl, goes.1.0)
  entry-silent (queued due) goes =
      absurd (none-due job_is due (directory_at tokens does.listing does.phase_is) does.work_is goes.0)

  module _ (entry : JobEntry) (goes : GoesBy lists job_is (entry ∷ []) lists_now now.job) where
    abbrev b : Attempt
    b = job_gone (entry ∷ []) now a

    abbrev new : Party
    new = with_job party lists_now now b older

    no-commands : job.commands_in (entry ∷ []) ≡ []
    no-commands = append-nil (job.commands_of entry) ∙ (entry-silent entry goes).0

    does-now : DoesList tokens b.client.entries now.job
    does-now =
        does-list tokens b.client.entries now.job
        (subst (λ (doing : Work). JobReaches (new_job doing) b.client.entries now.job) asked
        (reaches-then (new_job a.client.asked) job_is now.job a.client.entries (entry ∷ []) w.reached
        (reaches-by lists lists_now job_is now.job (entry ∷ []) goes)))

    -- it is no upload
    no-upload : (upload : Upload) → a.client.asked ≢ work.Upload upload
    no-upload upload is = absurd (let other : work.Directory directory ≡ work.Upload upload = sym asked_is ∙ is in cc)

    nothing : (o : Option Ending)
        → FetchesBy o (work.Directory (directory_at tokens does-now.listing does-now.phase_is)) store new b
    nothing None = tt
    nothing (Some ending) = tt

    pub list-kept : OneKept store files base a older entry lists_now now
    list-kept = record {
      lists_are = (entry-silent entry goes).1 ∙ sym (ap (after_all lists) no-commands);
      fronts = λ count.
          subst (λ (commands : List NotesCommand). NotesKept store files party (notes.after_first count lists commands))
          (sym no-commands)
          (fronts-none store files party w.facts count);
      kept = record {
        noted = λ task number file asks taken. absurd (no-upload (new_upload task 0 file) asks);
        receives = λ side number rest is up state r. absurd (no-upload (new_upload r.task r.known r.file) r.asks);
        says = subst (λ (doing : Work). Says doing b.client) (sym asked_is) does-now.says;
        fetching =
            λ is. subst (λ (doing : Work). FetchesBy now.job.ending doing store new b) (sym does-now.work_is)
            (nothing now.job.ending);
        fetched = λ number is. absurd (never-fetched now.job.ending now.down number does-now.ended is);
        asked_within =
            λ number offset has. absurd (none-asked tokens (said_by_client b.client) number offset does-now.says has);
      };
    }

pub list-one : OneLaw IsDirectoryOf
list-one store files c base a older w kind entry lists now goes side front =
    list-kept store files c base a older w kind.0 kind.1 lists now entry goes
