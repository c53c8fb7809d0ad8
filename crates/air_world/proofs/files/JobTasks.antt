-- What a job's entries leave of its client's tasks: none of their commands is a start, so each task stays except for
-- its number and how far it has come.
use Rattle.std.proofs.Common.{◌≡◌, ℕ, ◌-◌, zero, suc, Bool, true, false, List, [], ◌∷◌, length, take, Option, None}
use Rattle.std.proofs.Common.{Some, Ok, Err, inl, inr, refl, sym, ◌∙◌, ap, subst}
use Rattle.std.specs.Prelude.{◌==◌, if◌then◌else◌}
use Rattle.client_notes.specs.Command.{after, got, refused}
use Rattle.client_notes.specs.Several as notes
use Rattle.client_notes.specs.declared.progress.Progress.TheVariants as progress
use Rattle.ftl0_client_job.specs.declared.work.Work.TheVariants as work
use Rattle.ftl0_client.specs.Entries as job
use Rattle.air_world.proofs.files.Names.{slice_get, slice_set, ⊤, AllByRecursion, cases_eq, length-set, All-from_recursion, All-take, recursion_from_All, same_Some, slice_get_within, CallSign, Item, PacketValue, slice_get-set_other, slice_get-set_same, NotesCommand, acked, changed_at, forgot, numbered, set_some, start, with_task, after_all, Lists, Task, got_of, Ending, Work, Download, download_row, gots, last_got, Row, JobState, item_row, job_after, job_row, row_by, Upload, upload_row, GoesBy, JobEntry, lost, passed, queued, took, Asked, Party, each-append, JobTasksLaw, started_with, AreTasks}
use Rattle.air_world.proofs.files.DownloadJobRows.{DownloadCases, download-cases}
use Rattle.air_world.proofs.files.JobNotes.{SameTasks}
use Rattle.air_world.proofs.files.JobUploadRows.{UploadCases, upload-cases}
use Rattle.air_world.proofs.files.ListJobSaid.{item-silent}

-- the command begins no task
abbrev pub IsNoStart : NotesCommand → Type 0
IsNoStart (start task server caller name file_length digest) = ⊥
IsNoStart (numbered task number) = ⊤
IsNoStart (acked task) = ⊤
IsNoStart (refused task code) = ⊤
IsNoStart (got server number octets) = ⊤
IsNoStart (forgot server number) = ⊤

-- none of these commands does
abbrev pub AreNoStarts : List NotesCommand → Type 0
AreNoStarts commands = AllByRecursion IsNoStart commands

-- ---- the same tasks

same-none : (lists : Lists) → SameTasks lists lists
same-none lists = record { each = λ task entry found. (entry, found, refl); as_many = refl }

same-then : (old mid new : Lists) → SameTasks old mid → SameTasks mid new → SameTasks old new
same-then old mid new one two = record {
  each = λ task entry found.
      let last = two.each task entry found in
      let first = one.each task last.0 last.1 in (
        first.0,
        first.1,
        last.2 ∙ ap (λ (t : Task). record t { number = entry.number; progress = entry.progress }) first.2,
      );
  as_many = two.as_many ∙ one.as_many;
}

-- ---- one command

-- the task is that one, except for its number and how far it has come
abbrev IsSame : Task → Task → Type 0
IsSame before now = now ≡ record before { number = now.number; progress = now.progress }

module _ (change : Task → Task) (same : (t : Task) → IsSame t (change t)) where
  -- what is at a place once a task was changed
  changed-at : (tasks : List Task) (place other : ℕ) (o : Option Task) → slice_get tasks place ≡ o → (entry : Task)
      → slice_get (set_some change tasks place o) other ≡ Some entry
      → (before : Task) × (slice_get tasks other ≡ Some before) × IsSame before entry
  changed-at tasks place other None is entry found = (entry, found, refl)
  changed-at tasks place other (Some t) is entry found =
      elim (cases_eq other place) [
        | inl here ↦
            let there = slice_get-set_same tasks place (change t) (slice_get_within tasks place t is) in
            let it : change t ≡ entry =
            same_Some (change t) entry
            (sym there ∙ subst (λ (n : ℕ). slice_get (slice_set tasks place (change t)) n ≡ Some entry) here
            found) in
            (t, ap (slice_get tasks) here ∙ is, subst (IsSame t) it (same t))
        | inr different ↦ (entry, sym (slice_get-set_other tasks place other (change t) different) ∙ found, refl)
      ]

  as-many : (tasks : List Task) (place : ℕ) (o : Option Task) → length (set_some change tasks place o) ≡ length tasks
  as-many tasks place None = refl
  as-many tasks place (Some t) = length-set tasks place (change t)

  same-changed : (lists : Lists) (task : ℕ) → SameTasks lists (with_task lists task change)
  same-changed lists task = record {
    each = λ other entry found. by other entry (other == 0) found;
    as_many = as-many lists.tasks (task - 1) (slice_get lists.tasks (task - 1));
  }
    where
      by : (other : ℕ) (entry : Task) (b : Bool)
          → (if b then None else slice_get (changed_at (task - 1) change lists.tasks) (other - 1)) ≡ Some entry
          → (before : Task) × ((if b then None else slice_get lists.tasks (other - 1)) ≡ Some before) × IsSame before
          entry
      by other entry true found = absurd (cc found)
      by other entry false found =
          changed-at lists.tasks (task - 1) (other - 1) (slice_get lists.tasks (task - 1)) refl entry found

same-one : (lists : Lists) (command : NotesCommand) → IsNoStart command → SameTasks lists (after lists command)
same-one lists (start task server caller name file_length digest) none = absurd none
same-one lists (numbered task number) none = same-changed (λ t. record t { number = number }) (λ t. refl) lists task
same-one lists (acked task) none = same-changed (λ t. record t { progress = progress.Acked }) (λ t. refl) lists task
same-one lists (refused task code) none =
    same-changed (λ t. record t { progress = progress.Refused code }) (λ t. refl) lists task
same-one lists (got server number octets) none =
    record { each = λ task entry found. (entry, found, refl); as_many = refl }
same-one lists (forgot server number) none = record { each = λ task entry found. (entry, found, refl); as_many = refl }

-- any commands that begin no task
pub same-all : (commands : List NotesCommand) (lists : Lists) → AreNoStarts commands
    → SameTasks lists (after_all lists commands)
same-all [] lists none = same-none lists
same-all (command ∷ commands) lists none =
    same-then lists (after lists command) (after_all (after lists command) commands) (same-one lists command none.0)
    (same-all commands (after lists command) none.1)

-- ---- the commands of a row

no-refusal : (b : Bool) (task code : ℕ) → AreNoStarts (if b then [] else refused task code ∷ [])
no-refusal true task code = tt
no-refusal false task code = (tt, tt)

no-number : (b : Bool) (task number : ℕ) → AreNoStarts (if b then numbered task number ∷ [] else [])
no-number true task number = (tt, tt)
no-number false task number = tt

upload-starts : (at : Upload) (packet : PacketValue) → AreNoStarts (upload_row at packet).commands
upload-starts at packet =
    upload-cases at.task at.known at.file (λ _ _ row. AreNoStarts row.commands) each at.phase packet
  where
    each : UploadCases at.task at.known at.file (λ _ _ row. AreNoStarts row.commands)
    each = record {
      strange_rows = λ p packet kind none. tt;
      login = λ moment flags. tt;
      go = λ number offset may. no-number (at.known == 0) at.task number;
      complete = λ code is. (tt, tt);
      refused_go = λ code. no-refusal (code == 3) at.task code;
      broken_off = λ number place code. no-refusal (code == 3) at.task code;
      ack = λ number. (tt, tt);
      refused_ack = λ number code. no-refusal (code == 3) at.task code;
    }

no-gots : (server : CallSign) (number count : ℕ) (octets : List ℕ) → AreNoStarts (gots server number count octets)
no-gots server number zero octets = tt
no-gots server number (suc count) octets = (tt, no-gots server number count _)

no-last : (server : CallSign) (number : ℕ) (octets : List ℕ) → AreNoStarts (last_got server number octets)
no-last server number [] = tt
no-last server number (octet ∷ octets) = (tt, tt)

no-forgot : (b : Bool) (server : CallSign) (number : ℕ) → AreNoStarts (if b then forgot server number ∷ [] else [])
no-forgot true server number = (tt, tt)
no-forgot false server number = tt

download-starts : (held : List ℕ) (at : Download) (packet : PacketValue)
    → AreNoStarts (download_row held at packet).commands
download-starts held at packet =
    download-cases at.server at.number held at.rest (λ _ _ row. AreNoStarts row.commands) each at.phase packet
  where
    each : DownloadCases at.server at.number held at.rest (λ _ _ row. AreNoStarts row.commands)
    each = record {
      strange_rows = λ p packet kind. tt;
      login = λ moment flags. tt;
      octets = λ octets. no-gots at.server at.number _ _;
      whole = λ is. no-last at.server at.number at.rest;
      bad =
          λ code is. each-append IsNoStart (last_got at.server at.number at.rest) (forgot at.server at.number ∷ [])
          (no-last at.server at.number at.rest) (tt, tt);
      refused = λ code. no-forgot (code == 2) at.server at.number;
      done = tt;
    }

item-starts : (lists : Lists) (doing : Work) (item : Item) → AreNoStarts (item_row lists doing item).commands
item-starts lists (work.Upload at) (Ok packet) = upload-starts at packet
item-starts lists (work.Directory at) (Ok packet) =
    subst AreNoStarts (sym (item-silent at.tokens lists at.listing at.phase (Ok packet))) tt
item-starts lists (work.Download at) (Ok packet) = download-starts (got_of lists at.server at.number) at packet
item-starts lists doing (Err malformed) = tt

job-starts : (lists : Lists) (before : JobState) (item : Item) → AreNoStarts (job_row lists before item).commands
unfolding job_row
job-starts lists before item = by before.ending
  where
    by : (o : Option Ending) → AreNoStarts (row_by lists before.work item o).commands
    by None = item-starts lists before.work item
    by (Some ending) = tt

-- ---- the commands of entries

row-starts : (lists : Lists) (before : JobState) (item : Item) (row : Row Work) → row ≡ job_row lists before item
    → AreNoStarts row.commands
row-starts lists before item row is =
    subst (λ (r : Row Work). AreNoStarts r.commands) (sym is) (job-starts lists before item)

pub entries-starts : (entries : List JobEntry) (lists lists_now : Lists) (before now : JobState)
    → GoesBy lists before entries lists_now now
    → AreNoStarts (job.commands_in entries)
entries-starts [] lists lists_now before now goes = tt
entries-starts (took item row ∷ entries) lists lists_now before now goes =
    each-append IsNoStart row.commands (job.commands_in entries) (row-starts lists before item row goes.1)
    (entries-starts entries (after_all lists row.commands) lists_now (job_after row) now goes.2)
entries-starts (lost item row ∷ entries) lists lists_now before now goes =
    each-append IsNoStart row.commands (job.commands_in entries) (row-starts lists before item row goes.1)
    (entries-starts entries (after_all lists row.commands) lists_now _ now goes.2)
entries-starts (passed item ∷ entries) lists lists_now before now goes =
    entries-starts entries lists lists_now before now goes.1
entries-starts (queued due ∷ entries) lists lists_now before now goes =
    entries-starts entries lists lists_now due.state now goes.1

-- ---- the client's tasks

-- A client's tasks are those of its uploads once its notes have the same tasks.
pub tasks-same : (files : List Asked) (c : ℕ) (old new : Party) → new.uploads ≡ old.uploads
    → new.client.server ≡ old.client.server
    → new.client.me ≡ old.client.me → SameTasks old.client.lists new.client.lists → AreTasks files c old
    → AreTasks files c new
tasks-same files c old new uploads server me same tasks = record {
  each = λ task it found.
      let before = same.each task it found in
      let is = tasks.each task before.0 before.1 in
      record {
        upload = is.upload;
        is_upload = ap (λ (l : List ℕ). if task == 0 then None else slice_get l (task - 1)) uploads ∙ is.is_upload;
        asked = is.asked;
        is_asked = is.is_asked;
        whose = is.whose;
        server_is = ap (λ (t : Task). t.server) before.2 ∙ is.server_is ∙ sym server;
        caller_is = ap (λ (t : Task). t.caller) before.2 ∙ is.caller_is ∙ sym me;
        name_is = ap (λ (t : Task). t.name) before.2 ∙ is.name_is;
        length_is = ap (λ (t : Task). t.length) before.2 ∙ is.length_is;
        digest_is = ap (λ (t : Task). t.digest) before.2 ∙ is.digest_is;
      };
  as_many = ap length uploads ∙ tasks.as_many ∙ sym same.as_many;
}

-- They are, if its stations, its notes and its uploads are as they were.
pub tasks-lists : (files : List Asked) (c : ℕ) (one other : Party) → other.client.me ≡ one.client.me
    → other.client.server ≡ one.client.server → other.client.lists ≡ one.client.lists → other.uploads ≡ one.uploads
    → AreTasks files c one → AreTasks files c other
tasks-lists files c one other me server lists uploads tasks =
    tasks-same files c one other uploads server me
    (subst (λ (it : Lists). SameTasks one.client.lists it) (sym lists) (same-none one.client.lists)) tasks

pub job-tasks : JobTasksLaw
job-tasks files c party entries lists_now before now tasks goes count =
    tasks-same files c party (started_with party (notes.after_first count party.client.lists commands)) refl refl refl
    (same-all (take count commands) party.client.lists
    (recursion_from_All IsNoStart (take count commands)
    (All-take IsNoStart count commands
    (All-from_recursion IsNoStart commands (entries-starts entries party.client.lists lists_now before now goes)))))
    tasks
  where
    commands : List NotesCommand
    commands = job.commands_in entries
