-- Any entries of a job keep its client's facts, since each one does.
use Rattle.std.proofs.Common.{◌≡◌, ◌⊎◌, ℕ, ◌+◌, ◌-◌, ◌<◌, ◌≤◌, List, [], ◌∷◌, ◌++◌, length, take, map, Some, inl, inr}
use Rattle.std.proofs.Common.{refl, sym, ◌∙◌, ap, subst, append_assoc, append-nil, take_all, le_refl, le_of_lt, arith}
use Rattle.ftl0_server.specs.Entries as session
use Rattle.client_notes.specs.Several as notes
use Rattle.ftl0_client_job.specs.declared.ending.Outcome.TheVariants as outcome
use Rattle.ftl0_client_job.specs.declared.work.Work.TheVariants as work
use Rattle.ftl0_client_job.specs.Laws.{DueLaw, PromisesLaw}
use Rattle.ftl0_client.specs.Entries as job
use Rattle.air_world.proofs.files.Names.{⊤, cases_lt, map-append, take-append-le, flat_map-append, kind_of_item, Item, Store, NotesCommand, after_all, Lists, after_first-then, Work, EndPromises, JobStands, Row, strange_ending, JobState, job_after, new_job, Attempted, outcome_of, GoesBy, JobEntry, after_losing, lost, passed, queued, took, Attempt, AreFirstOf, Asked, Party, ServerSide, said_by_client, said_by_server, each-weaker, reaches-by, reaches-then, HasFacts, IsDirectoryOf, IsDownloadOf, IsUploadOf, JobKeeps, JobLaw, JobTookFront, Stands, TookFront, job_gone, started_with, with_job, IsWork}
use Rattle.air_world.proofs.files.JobChange.{moved}
use Rattle.air_world.proofs.files.JobEarlier.{earlier, fetched-stays}
use Rattle.air_world.proofs.files.JobNotes.{NotesKept}
use Rattle.air_world.proofs.files.JobOne.{OneLaw, keeps-same, working}
use Rattle.air_world.proofs.files.JobStep.{keeps-by, left, of_attempts}
use Rattle.air_world.proofs.files.JobStill.{keeps-none}
use Rattle.air_world.proofs.files.JobTasks.{tasks-same}
use Rattle.air_world.proofs.files.JobTook.{whole}
use Rattle.air_world.proofs.files.JobUploadCame.{said-one}
use Rattle.air_world.proofs.files.JobWorking.{OneKept, Working}

-- ---- the first of some entries

record First (lists : Lists) (before : JobState) (entry : JobEntry) (entries : List JobEntry) (lists_now : Lists)
    (now : JobState) : Type 0 where
  lists_then : Lists
  then_is : JobState
  first : GoesBy lists before (entry ∷ []) lists_then then_is
  others : GoesBy lists_then then_is entries lists_now now

first-goes : (lists : Lists) (before : JobState) (entry : JobEntry) (entries : List JobEntry) (lists_now : Lists)
    (now : JobState)
    → GoesBy lists before (entry ∷ entries) lists_now now → First lists before entry entries lists_now now
first-goes lists before (took item row) entries lists_now now goes =
    record {
      lists_then = after_all lists row.commands;
      then_is = job_after row;
      first = (goes.0, goes.1, (refl, refl));
      others = goes.2;
    }
first-goes lists before (lost item row) entries lists_now now goes =
    record {
      lists_then = after_all lists row.commands;
      then_is = after_losing (kind_of_item item) row;
      first = (goes.0, goes.1, (refl, refl));
      others = goes.2;
    }
first-goes lists before (passed item) entries lists_now now goes =
    record { lists_then = lists; then_is = before; first = (goes.0, (refl, refl)); others = goes.1 }
first-goes lists before (queued due) entries lists_now now goes =
    record { lists_then = lists; then_is = due.state; first = (goes.0, (refl, refl)); others = goes.1 }

module _ (a : Attempt) (entry : JobEntry) (entries : List JobEntry) (side : ServerSide)
    (front : TookFront a (entry ∷ entries) side) where
  -- all items are those up to the first entry, and then the others'
  items-then : job.items_in (a.client.entries ++ entry ∷ entries) ≡ job.items_in
      (a.client.entries ++ entry ∷ []) ++ job.items_in entries
  items-then =
      ap job.items_in (sym (append_assoc a.client.entries (entry ∷ []) entries))
      ∙ flat_map-append job.items_of (a.client.entries ++ entry ∷ []) entries

  first-front : TookFront a (entry ∷ []) side
  first-front = record {
    is_side = front.is_side;
    greets = front.greets;
    client = (
      job.items_in entries ++ front.client.0,
      front.client.1 ∙ ap (λ (l : List Item). l ++ front.client.0) items-then
          ∙ append_assoc (job.items_in (a.client.entries ++ entry ∷ [])) (job.items_in entries) front.client.0,
    );
    server = front.server;
  }

  other-front : (now : Attempted) → JobTookFront (job_gone (entry ∷ []) now a) entries
  other-front now = by entries (append_assoc a.client.entries (entry ∷ []) entries)
    where
      by : (es : List JobEntry) → (a.client.entries ++ entry ∷ []) ++ es ≡ a.client.entries ++ entry ∷ entries
          → JobTookFront (job_gone (entry ∷ []) now a) es
      by [] same = tt
      by (e ∷ es) same = (
        side,
        record {
          is_side = front.is_side;
          greets = front.greets;
          client =
              subst (λ (l : List JobEntry). AreFirstOf (job.items_in l) (map whole (said_by_server side)))
              (sym same) front.client;
          server = (
            front.server.0 ++ map whole (job.packets_said entry),
            ap (map whole) (said-one a.client.entries entry)
                ∙ map-append whole (said_by_client a.client) (job.packets_said entry)
                ∙ ap (λ (l : List Item). l ++ map whole (job.packets_said entry)) front.server.1
                ∙ append_assoc (session.items_in side.entries) front.server.0 (map whole (job.packets_said entry)),
          );
        },
      )

-- ---- what is true after an entry

-- the client's tasks, and its attempts' works
stands-then : (store : Store) (files : List Asked) (c : ℕ) (base : Party) (a : Attempt) (older : List Attempt)
    (entry : JobEntry) (lists : Lists) (now : Attempted)
    → Stands files c (of_attempts base a older) → NotesKept store files (of_attempts base a older) lists
    → Stands files c (with_job (of_attempts base a older) lists now (job_gone (entry ∷ []) now a) older)
stands-then store files c base a older entry lists now stands kept = record {
  call = stands.call;
  good = stands.good;
  tasks = tasks-same files c (of_attempts base a older) new refl refl refl kept.tasks stands.tasks;
  works =
      each-weaker {Q = λ (x : Attempt). IsWork files new x.client.asked} (a ∷ older)
      (λ x is. work-then x.client.asked is) stands.works;
}
  where
    new : Party
    new = with_job (of_attempts base a older) lists now (job_gone (entry ∷ []) now a) older

    work-then : (doing : Work) → IsWork files (of_attempts base a older) doing
        → IsWork files (with_job (of_attempts base a older) lists now (job_gone (entry ∷ []) now a) older) doing
    work-then (work.Upload at) is = is
    work-then (work.Directory at) is = is
    work-then (work.Download at) is = is

module _ (promises : PromisesLaw) (due_stands : DueLaw) where
  strange-promised : (asked : Work) (lists : Lists) (listing : List ℕ) (kind : ℕ)
      → EndPromises lists asked listing (Some (strange_ending kind))
  strange-promised (work.Upload at) lists listing kind = tt
  strange-promised (work.Directory at) lists listing kind = tt
  strange-promised (work.Download at) lists listing kind = tt

  -- the job
  job-then : (asked : Work) (entry : JobEntry) (lists lists_now : Lists) (before now : JobState)
      → GoesBy lists before (entry ∷ []) lists_now now
      → JobStands asked lists before → JobStands asked lists_now now
  job-then asked (took item row) lists lists_now before now goes stands =
      subst (λ (l : Lists). JobStands asked l now) (sym goes.2.0)
      (subst (JobStands asked (after_all lists row.commands)) (sym goes.2.1)
      (subst (λ (r : Row Work). JobStands asked (after_all lists r.commands) (job_after r)) (sym goes.1)
      (promises asked lists before item stands)))
  job-then asked (lost item row) lists lists_now before now goes stands =
      let after = subst (λ (r : Row Work). JobStands asked (after_all lists r.commands) (job_after r)) (sym goes.1)
      (promises asked lists before item stands) in
      subst (λ (l : Lists). JobStands asked l now) (sym goes.2.0)
      (subst (JobStands asked (after_all lists row.commands)) (sym goes.2.1)
      (record {
        same = after.same;
        go_with = tt;
        filled = after.filled;
        promises = strange-promised asked (after_all lists row.commands) _ (kind_of_item item);
      }))
  job-then asked (passed item) lists lists_now before now goes stands =
      subst (λ (l : Lists). JobStands asked l now) (sym goes.1.0) (subst (JobStands asked lists) (sym goes.1.1) stands)
  job-then asked (queued due) lists lists_now before now goes stands =
      subst (λ (l : Lists). JobStands asked l now) (sym goes.1.0)
      (subst (JobStands asked lists) (sym goes.1.1) (due_stands asked lists before due stands goes.0))

  -- ---- one entry, and the others after it

  module _ (one : OneLaw (λ asked. ⊤)) (store : Store) (files : List Asked) (c : ℕ) where
    -- the client after an entry
    working-then : (base : Party) (a : Attempt) (older : List Attempt) → Working store files c base a older
        → (entry : JobEntry) (lists : Lists) (now : Attempted)
        → GoesBy base.client.lists a.client.attempted.job (entry ∷ []) lists now.job
        → (kept : OneKept store files base a older entry lists now)
        → Working store files c (with_job (of_attempts base a older) lists now (job_gone (entry ∷ []) now a) older)
        (job_gone (entry ∷ []) now a) older
    working-then base a older w entry lists now goes kept = record {
      stands = stands-then store files c base a older entry lists now w.stands notes-now;
      link = refl;
      begun = w.begun;
      reached =
          reaches-then (new_job a.client.asked) a.client.attempted.job now.job a.client.entries (entry ∷ []) w.reached
          (reaches-by base.client.lists lists a.client.attempted.job now.job (entry ∷ []) goes);
      job = job-then a.client.asked entry base.client.lists lists a.client.attempted.job now.job goes w.job;
      sound = w.sound;
      facts =
          (keeps-by store files base a older w.facts (entry ∷ []) lists now kept.fronts kept.lists_are kept.kept).facts;
    }
      where
        commands : List NotesCommand
        commands = job.commands_in (entry ∷ [])

        notes-now : NotesKept store files (of_attempts base a older) lists
        notes-now =
            subst (NotesKept store files (of_attempts base a older))
            (ap (after_all base.client.lists) (take_all (length commands) commands (le_refl (length commands)))
            ∙ sym kept.lists_are) (kept.fronts (length commands))

    -- what is kept with the first entry and then with the others is kept with all
    keeps-then : (base : Party) (a : Attempt) (older : List Attempt) → Working store files c base a older
        → (entry : JobEntry) (entries : List JobEntry)
        (lists_then lists : Lists) (then_is now : Attempted)
        → ((number : ℕ) → outcome_of a.client.attempted ≡ Some (outcome.Fetched number)
        → outcome_of then_is ≡ Some (outcome.Fetched number))
        → OneKept store files base a older entry lists_then then_is
        → JobKeeps store files (of_attempts (with_job (of_attempts base a older) lists_then then_is
        (job_gone (entry ∷ []) then_is a) older) (job_gone (entry ∷ []) then_is a) older)
        (with_job (of_attempts base a older) lists now (job_gone entries now (job_gone (entry ∷ []) then_is a)) older)
        entries
        → JobKeeps store files (of_attempts base a older)
        (with_job (of_attempts base a older) lists now (job_gone (entry ∷ entries) now a) older) (entry ∷ entries)
    keeps-then base a older w entry entries lists_then lists then_is now stays kept others = record {
      facts =
          subst (λ (es : List JobEntry). HasFacts store files
          (with_job (of_attempts base a older) lists now (moved a now es) older))
          (append_assoc a.client.entries (entry ∷ []) entries) others.facts;
      during = λ count. by count (cases_lt count (length (job.commands_of entry)));
    }
      where
        party : Party
        party = of_attempts base a older

        first : List NotesCommand
        first = job.commands_of entry

        behind : List NotesCommand
        behind = job.commands_in entries

        -- with the commands of the first entry alone
        within : (count : ℕ) → count ≤ length first
            → HasFacts store files (started_with (of_attempts base a older)
            (notes.after_first count base.client.lists (first ++ behind)))
        within count few =
            subst (λ (cs : List NotesCommand). HasFacts store files
            (started_with (of_attempts base a older) (after_all base.client.lists cs)))
            (ap (take count) (append-nil first) ∙ sym (take-append-le count first behind few))
            (left store files base a older w.facts (notes.after_first count base.client.lists (first ++ []))
            (kept.fronts count))

        -- with commands of the others too
        beyond : (count : ℕ)
            → HasFacts store files (started_with (of_attempts base a older)
            (notes.after_first (length first + count) base.client.lists (first ++ behind)))
        beyond count =
            subst (λ (l : Lists). HasFacts store files (started_with (of_attempts base a older) l))
            (ap (λ (l : Lists). notes.after_first count l behind)
            (kept.lists_are ∙ ap (after_all base.client.lists) (append-nil first))
            ∙ sym (after_first-then count first behind base.client.lists))
            (earlier store files base a older entry then_is (notes.after_first count lists_then behind) stays w.facts
            (others.during count))

        by : (count : ℕ) → (count < length first) ⊎ (length first ≤ count)
            → HasFacts store files (started_with (of_attempts base a older)
            (notes.after_first count base.client.lists (first ++ behind)))
        by count (inl few) = within count (le_of_lt few)
        by count (inr many) =
            let sum : length first + (count - length first) ≡ count = omega (arith, many) in
            subst (λ (n : ℕ). HasFacts store files (started_with (of_attempts base a older)
            (notes.after_first n base.client.lists (first ++ behind)))) sum
            (beyond (count - length first))

    keeps-all : (entries : List JobEntry) (base : Party) (a : Attempt) (older : List Attempt)
        → Working store files c base a older → (lists : Lists) (now : Attempted)
        → GoesBy base.client.lists a.client.attempted.job entries lists now.job → JobTookFront a entries
        → JobKeeps store files (of_attempts base a older)
        (with_job (of_attempts base a older) lists now (job_gone entries now a) older) entries
    keeps-all [] base a older w lists now goes front =
        keeps-none store files base a older now goes.1 w.facts w.link lists goes.0
    keeps-all (entry ∷ entries) base a older w lists now goes front =
        let split = first-goes base.client.lists a.client.attempted.job entry entries lists now.job goes in
        let then_is : Attempted = record a.client.attempted { job = split.then_is } in
        let kept = one store files c base a older w tt entry split.lists_then then_is split.first front.0
        (first-front a entry entries front.0 front.1) in
        keeps-then base a older w entry entries split.lists_then lists then_is now
        (λ number is. fetched-stays entry base.client.lists split.lists_then a.client.attempted.job split.then_is
        a.client.attempted.down number split.first is) kept
        (keeps-all entries (with_job (of_attempts base a older) split.lists_then then_is
        (job_gone (entry ∷ []) then_is a) older) (job_gone (entry ∷ []) then_is a) older
        (working-then base a older w entry split.lists_then then_is split.first kept) lists now split.others
        (other-front a entry entries front.0 front.1 then_is))

  -- any entries of a job of whatever work
  pub job-law : OneLaw (λ asked. ⊤) → JobLaw
  job-law one store files c party entries lists now works kind such goes =
      keeps-same store files party (with_job party lists now (job_gone entries now works.attempt) works.older)
      works.attempt works.older entries works.attempts_are
      (keeps-all one store files c entries party works.attempt works.older
      (working store files c party works) lists now goes.goes goes.front)

-- ---- by the work

pub one-any : OneLaw IsUploadOf → OneLaw IsDirectoryOf → OneLaw IsDownloadOf → OneLaw (λ asked. ⊤)
one-any upload list download store files c base a older w kind entry lists now goes side front = by a.client.asked refl
  where
    by : (doing : Work) → a.client.asked ≡ doing → OneKept store files base a older entry lists now
    by (work.Upload at) is = upload store files c base a older w (at, is) entry lists now goes side front
    by (work.Directory at) is = list store files c base a older w (at, is) entry lists now goes side front
    by (work.Download at) is = download store files c base a older w (at, is) entry lists now goes side front
