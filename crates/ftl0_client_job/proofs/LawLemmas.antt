-- What the outcomes of a job promise, and how it goes on.
use Rattle.std.proofs.Common.{◌≡◌, ℕ, zero, suc, ◌+◌, ◌-◌, ◌*◌, ◌/◌, ◌≤◌, ◌<◌, List, [], ◌∷◌, ◌++◌, Bool, true, false, length, take, drop, refl, sym, ◌∙◌, ap, subst, arith, length-append, length-drop, append_assoc, inl, inr}
use Rattle.std.specs.Prelude.{◌==◌, if◌then◌else◌, ◌⊎◌}
use Rattle.client_notes.specs.declared.answers.Begun.TheVariants as begun
use Rattle.client_notes.specs.declared.answers.Noted.TheVariants as noted
use Rattle.client_notes.specs.declared.progress.Progress.TheVariants as progress
use Rattle.ftl0_client_job.specs.declared.ending.Outcome.TheVariants as outcome
use Rattle.ftl0_client_job.specs.declared.phases.DownloadPhase.TheVariants as fetch
use Rattle.ftl0_client_job.specs.declared.phases.UploadPhase.TheVariants as phase
use Rattle.ftl0_client_job.specs.Download as download
use Rattle.ftl0_client_job.specs.declared.work.Work.TheVariants as work
use Rattle.ftl0_client_job.specs.Upload as upload
use Rattle.ftl0_client_job.proofs.Names.{IsTrue, nat_le, nat_lt, slice_get, Option, None, Some, Ok, Err, Result, IsErr, option_map, get_or-append_seam, nat_tests, take-append-drop, slice_get-get_or, CallSign, Item, PacketValue, data_part, data_end, login_resp, ul_go_resp, download_cmd, fault_code, Begun, longest_file, Progress, NotesRefusal, StartsBy, start_reaches, answer_at, answer_by, answer_last, answer_of, fresh_task, noted_as, noted_at, NotesCommand, acked, after, new_task, AreAllowed, after_all, Lists, Task, got_of, is_of_file, last_task, task_count, task_of, Does, Untouched, NotesState, StandsFor, Ghosts, AreAllowed-first, acked-stays, both-left, task-after, Ending, DownloadPhase, UploadPhase, Download, download_row, unnoted, whole_gots, with_rest, DuePacket, PutsDue, due_by, due_from, due_in, in_job, in_work, most_data, next_due, place_after, upload_due, GoBy, HasGot, HasTask, IsCheckedIn, NotesGoWith, number_in, Acknowledges, IsAckedIn, IsStarted, reached, started, Row, ends, goes_on, strange, Work, JobState, job_row, new_job, row_by, Upload, in_phase, new_upload, upload_row}
use Rattle.ftl0_client_job.proofs.BlockLemmas.{gots-after}
use Rattle.ftl0_client_job.proofs.CaseLemmas.{DownloadRows, UploadRows, download-rows, upload-rows}
use Rattle.ftl0_client_job.proofs.StaysLemmas.{stays-item}

-- ---- the notes go with the job

pub stays : (lists : Lists) (job : JobState) (item : Item) → NotesGoWith lists job
    → NotesGoWith (after_all lists (job_row lists job item).commands) (record { work = (job_row lists job item).state; ending = (job_row lists job item).ending })
unfolding job_row
stays lists job item goes = by job.ending goes
  where
    by : (o : Option Ending) → GoBy o lists job.work → GoBy (row_by lists job.work item o).ending (after_all lists (row_by lists job.work item o).commands) (row_by lists job.work item o).state
    by None went = stays-item lists job.work item went
    by (Some ending) went = tt

-- ---- what a start gives

last-there : (tasks : List Task) (entry : Task) → slice_get (tasks ++ entry ∷ []) (length tasks) ≡ Some entry
last-there tasks entry =
    let sum : length (tasks ++ entry ∷ []) ≡ length tasks + length (entry ∷ []) = length-append tasks (entry ∷ []) in
    slice_get-get_or (tasks ++ entry ∷ []) (length tasks) entry (omega (arith, sum)) ∙ ap Some (get_or-append_seam tasks entry [] entry)

-- a task that was just begun
pub task-begun : (lists : Lists) (entry : Task) → task_of (record lists { tasks = lists.tasks ++ entry ∷ [] }) (task_count lists + 1) ≡ Some entry
task-begun lists entry =
    let some : (task_count lists + 1 == 0) ≡ false = grind (arith, nat_tests) in
    let place : task_count lists ≡ task_count lists + 1 - 1 = omega arith in
    rw some (subst (λ (k : ℕ). slice_get (lists.tasks ++ entry ∷ []) k ≡ Some entry) place (last-there lists.tasks entry))

fresh : (lists : Lists) (server caller : CallSign) (name file digest : List ℕ)
    → HasTask (after lists (fresh_task lists server caller name (length file) digest)) (new_upload (task_count lists + 1) 0 file)
fresh lists server caller name file digest =
    let entry : Task = new_task server caller name (length file) digest in
    record {
      entry = entry;
      is_entry = task-begun lists entry;
      going = refl;
      number = refl;
      file_length = refl;
    }

going : (lists : Lists) (server caller : CallSign) (name file digest : List ℕ) (task number : ℕ)
    → answer_of lists server caller name (length file) digest ≡ Ok (Some (begun.Going task number)) → HasTask lists (new_upload task number file)
going lists server caller name file digest task number is = by_last (last_task lists server caller name) is
  where
    by_progress : (t : ℕ) (entry : Task) (b : Bool) (p : Progress) → task_of lists t ≡ Some entry → is_of_file (length file) digest entry ≡ b → entry.progress ≡ p
        → answer_by t entry b p ≡ Ok (Some (begun.Going task number)) → HasTask lists (new_upload task number file)
    by_progress t entry true progress.Acked found of_file far same = absurd (cc same)
    by_progress t entry false progress.Acked found of_file far same = absurd (cc same)
    by_progress t entry true progress.Going found of_file far same =
        let task_is : t ≡ task = cc same in
        let number_is : entry.number ≡ number = cc same in
        let test : (entry.length == length file) ≡ true = both-left (entry.length == length file) _ of_file in
        record {
          entry = entry;
          is_entry = subst (λ (k : ℕ). task_of lists k ≡ Some entry) task_is found;
          going = far;
          number = number_is;
          file_length = grind (arith, nat_tests);
        }
    by_progress t entry false progress.Going found of_file far same = absurd (cc same)
    by_progress t entry true (progress.Refused code) found of_file far same = absurd (cc same)
    by_progress t entry false (progress.Refused code) found of_file far same = absurd (cc same)

    by_task : (t : ℕ) (o : Option Task) → task_of lists t ≡ o → answer_at t (length file) digest o ≡ Ok (Some (begun.Going task number)) → HasTask lists (new_upload task number file)
    by_task t None found same = absurd (cc same)
    by_task t (Some entry) found same = by_progress t entry (is_of_file (length file) digest entry) entry.progress found refl refl same

    by_last : (o : Option ℕ) → answer_last lists (length file) digest o ≡ Ok (Some (begun.Going task number)) → HasTask lists (new_upload task number file)
    by_last None same = absurd (cc same)
    by_last (Some t) same = by_task t (task_of lists t) refl same

-- no answer of an earlier task is that a fresh one was noted
pub not-fresh : (lists : Lists) (server caller : CallSign) (name digest : List ℕ) (len task : ℕ) → answer_of lists server caller name len digest ≡ Ok (Some (begun.Fresh task)) → ⊥
not-fresh lists server caller name digest len task is = by_last (last_task lists server caller name) is
  where
    by_progress : (t : ℕ) (entry : Task) (b : Bool) (p : Progress) → answer_by t entry b p ≡ Ok (Some (begun.Fresh task)) → ⊥
    by_progress t entry true progress.Acked same = cc same
    by_progress t entry false progress.Acked same = cc same
    by_progress t entry true progress.Going same = cc same
    by_progress t entry false progress.Going same = cc same
    by_progress t entry true (progress.Refused code) same = cc same
    by_progress t entry false (progress.Refused code) same = cc same

    by_task : (t : ℕ) (o : Option Task) → answer_at t len digest o ≡ Ok (Some (begun.Fresh task)) → ⊥
    by_task t None same = cc same
    by_task t (Some entry) same = by_progress t entry (is_of_file len digest entry) entry.progress same

    by_last : (o : Option ℕ) → answer_last lists len digest o ≡ Ok (Some (begun.Fresh task)) → ⊥
    by_last None same = cc same
    by_last (Some t) same = by_task t (task_of lists t) same

-- the number of a fresh task
pub fresh-number : (old : NotesState) (r : Result (Option Begun) NotesRefusal) (task : ℕ) → (r ≡ Ok (Some (begun.Fresh task)) → ⊥) → StartsBy old r (Ok (begun.Fresh task)) → task ≡ task_count old.lists + 1
fresh-number old (Ok None) task none starts = let is = starts.1 in cc is
fresh-number old (Ok (Some kept)) task none starts = absurd (none (let kept_is : kept ≡ begun.Fresh task = cc starts in ap (λ (b : Begun). Ok (Some b)) kept_is))
fresh-number old (Err refusal) task none starts = absurd (cc starts)

-- the answer of an earlier task that is under way
pub going-answer : (old : NotesState) (r : Result (Option Begun) NotesRefusal) (task number : ℕ) → StartsBy old r (Ok (begun.Going task number)) → r ≡ Ok (Some (begun.Going task number))
going-answer old (Ok None) task number starts = absurd (let is = starts.1 in cc is)
going-answer old (Ok (Some kept)) task number starts = let kept_is : kept ≡ begun.Going task number = cc starts in ap (λ (b : Begun). Ok (Some b)) kept_is
going-answer old (Err refusal) task number starts = absurd (cc starts)

pub is-started : {D : Type 0} (g : Ghosts D) (old new : NotesState) (disk disk_now : D) (server caller : CallSign) (name file digest : List ℕ) (given : Begun)
    → StartsBy old (answer_of old.lists server caller name (length file) digest) (started given) → IsTrue (start_reaches (started given)) ⊎ Untouched old new disk disk_now
    → (IsTrue (start_reaches (started given)) → Does g (IsErr (started given)) old new disk disk_now (fresh_task old.lists server caller name (length file) digest)) → IsStarted new.lists file given
is-started g old new disk disk_now server caller name file digest (begun.Fresh task) starts untouched does =
    let number : task ≡ task_count old.lists + 1 =
    fresh-number old (answer_of old.lists server caller name (length file) digest) task (not-fresh old.lists server caller name digest (length file) task) starts in
    let made = ((does refl).done (λ e. cc e)).lists in
    subst (λ (l : Lists). HasTask l (new_upload task 0 file)) (sym made)
    (subst (λ (k : ℕ). HasTask (after old.lists (fresh_task old.lists server caller name (length file) digest)) (new_upload k 0 file)) (sym number) (fresh old.lists server caller name file digest))
is-started g old new disk disk_now server caller name file digest (begun.Going task number) starts untouched does =
    let is = going-answer old (answer_of old.lists server caller name (length file) digest) task number starts in
    subst (λ (n : NotesState). HasTask n.lists (new_upload task number file)) (sym (same-of old new disk disk_now untouched)) (going old.lists server caller name file digest task number is)
  where
    same-of : {D : Type 0} (old new : NotesState) (disk disk_now : D) → IsTrue false ⊎ Untouched old new disk disk_now → new ≡ old
    same-of old new disk disk_now (inl never) = absurd (cc never)
    same-of old new disk disk_now (inr same) = same.same
is-started g old new disk disk_now server caller name file digest (begun.Already number) starts untouched does = tt

-- ---- what is acknowledged

-- it is noted that an upload whose file has this number was acknowledged with it
pub acked-now : (lists : Lists) (at : Upload) (number : ℕ) → HasTask lists at → number_in at.phase at.known ≡ number → noted_at (after lists (acked at.task)) at.task ≡ Some (noted.Acked at.task number)
acked-now lists at number has is =
    ap (option_map (noted_as at.task)) (task-after lists at.task (λ t. record t { progress = progress.Acked }) has.entry has.is_entry)
    ∙ ap (λ (n : ℕ). Some (noted.Acked at.task n)) (has.number ∙ is)

-- since the first command, whatever comes after it
acked-in : (lists : Lists) (at : Upload) (number : ℕ) (row : Row Upload) → HasTask lists at → number_in at.phase at.known ≡ number → row.commands ≡ acked at.task ∷ [] → Acknowledges lists at.task number row
acked-in lists at number row has is commands = record {
  commands = commands;
  stands = λ others least most image allowed some makes.
      let all : row.commands ++ others ≡ acked at.task ∷ others = ap (λ (cs : List NotesCommand). cs ++ others) commands in
      stands-by others image (subst (λ (cs : List NotesCommand). AreAllowed lists cs) all allowed) makes.0 (omega (arith, some, makes.1))
      (subst (λ (cs : List NotesCommand). StandsFor image (after_all lists (take makes.0 cs))) all makes.3);
}
  where
    stands-by : (others : List NotesCommand) (image : List ℕ) → AreAllowed lists (acked at.task ∷ others) → (count : ℕ) → 1 ≤ count
        → StandsFor image (after_all lists (take count (acked at.task ∷ others))) → IsAckedIn at.task number image
    stands-by others image allowed zero some stands = absurd (omega (arith, some))
    stands-by others image allowed (suc count) some stands = (
      after_all (after lists (acked at.task)) (take count others),
      stands,
      acked-stays (after lists (acked at.task)) (take count others) at.task number
          (AreAllowed-first count others (after lists (acked at.task)) allowed.1) (acked-now lists at number has is),
    )

-- a row that ends so acknowledges
abbrev AcknowledgesBy : Lists → Upload → ℕ → Row Upload → Type 0
AcknowledgesBy lists at number row = reached row ≡ Some (outcome.Acked number) → Acknowledges lists at.task number row

pub acknowledged : (lists : Lists) (at : Upload) (packet : PacketValue) (number : ℕ) → HasTask lists at → reached (upload_row at packet) ≡ Some (outcome.Acked number)
    → Acknowledges lists at.task number (upload_row at packet)
acknowledged lists at packet number has = upload-rows (AcknowledgesBy lists at number) at rows packet
  where
    rows : UploadRows (AcknowledgesBy lists at number) at
    rows = record {
      strange_rows = λ kind is. absurd (cc is);
      login = λ here is. absurd (cc is);
      go = λ of offset here may is. absurd (cc is);
      complete = λ here is.
          let same : at.known ≡ number = cc is in
          acked-in lists at number (ends at (acked at.task ∷ []) (outcome.Acked at.known)) has (ap (λ (p : UploadPhase). number_in p at.known) here ∙ same) refl;
      refused_rows = λ code is. absurd (cc is);
      broken_off = λ code is. absurd (cc is);
      ack = λ given here is.
          let same : given ≡ number = cc is in
          acked-in lists at number (ends at (acked at.task ∷ []) (outcome.Acked given)) has (ap (λ (p : UploadPhase). number_in p at.known) here ∙ same) refl;
    }

-- ---- how a job is continued

pub continued : (at : Upload) (number offset : ℕ) → at.phase ≡ phase.Go → at.known ≡ number → 1 ≤ number → offset < length at.file
    → (upload_row at (ul_go_resp number offset) ≡ goes_on (in_phase at (phase.Sending number offset)) [] [])
    × (upload_due (in_phase at (phase.Sending number offset))
    ≡ Some (record { packet = data_part (take most_data (drop offset at.file)); state = in_phase at (phase.Sending number (place_after at offset)) }))
unfolding upload_row
continued at number offset here known some within =
    let old : (at.known == 0) ≡ false = grind (arith, nat_tests) in
    let its : (number == at.known) ≡ true = grind (arith, nat_tests) in
    let fits : nat_le offset (length at.file) ≡ true = grind (arith, nat_tests) in
    let left : length (drop offset at.file) ≡ length at.file - offset = length-drop offset at.file in
    let test : (length (drop offset at.file) == 0) ≡ false = grind (arith, nat_tests) in
    (ap (λ (p : UploadPhase). upload.row_in p at (ul_go_resp number offset)) here ∙ rw (old, its, fits) refl, rw test refl)

pub resumed : (held : List ℕ) (at : Download) (moment flags : ℕ) → at.phase ≡ fetch.Login
    → (download_row held at (login_resp moment flags)).replies ≡ download_cmd at.number (length held) 0 ∷ []
unfolding download_row
resumed held at moment flags here = ap (λ (p : DownloadPhase). (download.row_in p held at (login_resp moment flags)).replies) here

-- ---- what is fetched

data-octets : (b : Bool) (lists : Lists) (at : Download) (octets : List ℕ) (row : Row Download)
    → (if b then strange at 0 else goes_on (with_rest at (unnoted (at.rest ++ octets))) (whole_gots at.server at.number (at.rest ++ octets)) []) ≡ row → row.ending ≡ None
    → got_of (after_all lists row.commands) at.server at.number ++ row.state.rest ≡ got_of lists at.server at.number ++ (at.rest ++ octets)
data-octets true lists at octets row is none = absurd (let e = ap (λ (r : Row Download). r.ending) is ∙ none in cc e)
data-octets false lists at octets row is none =
    let all : List ℕ = at.rest ++ octets in
    let n = length all / 512 in
    let P : Row Download → Type 0 = λ r. got_of (after_all lists r.commands) at.server at.number ++ r.state.rest ≡ got_of lists at.server at.number ++ all in
    subst P is
    (ap (λ (os : List ℕ). os ++ unnoted all) (gots-after at.server at.number n all lists)
    ∙ append_assoc (got_of lists at.server at.number) (take (512 * n) all) (drop (512 * n) all)
    ∙ ap (λ (os : List ℕ). got_of lists at.server at.number ++ os) (take-append-drop (512 * n) all))

pub fetching : (lists : Lists) (at : Download) (octets : List ℕ) (row : Row Download) → at.phase ≡ fetch.Fetching → download_row (got_of lists at.server at.number) at (data_part octets) ≡ row
    → row.ending ≡ None → got_of (after_all lists row.commands) at.server at.number ++ row.state.rest ≡ got_of lists at.server at.number ++ (at.rest ++ octets)
unfolding download_row
fetching lists at octets row here is none =
    data-octets (nat_lt longest_file (length (got_of lists at.server at.number) + length (at.rest ++ octets))) lists at octets row
    (ap (λ (p : DownloadPhase). download.row_in p (got_of lists at.server at.number) at (data_part octets)) (sym here) ∙ is) none

-- a row by which a file was fetched
abbrev IsFetched : List ℕ → Download → ℕ → Row Download → Type 0
IsFetched held at number row = (number ≡ at.number) × (fault_code held ≡ None) × (row.commands ≡ [])

-- by a row that ends so the file was fetched
abbrev FetchedBy : List ℕ → Download → ℕ → Row Download → Type 0
FetchedBy held at number row = reached row ≡ Some (outcome.Fetched number) → IsFetched held at number row

pub fetched : (lists : Lists) (at : Download) (packet : PacketValue) (number : ℕ) → HasGot lists at
    → reached (download_row (got_of lists at.server at.number) at packet) ≡ Some (outcome.Fetched number)
    → (number ≡ at.number) × (fault_code (got_of lists at.server at.number) ≡ None) × ((download_row (got_of lists at.server at.number) at packet).commands ≡ [])
fetched lists at packet number has = download-rows (FetchedBy held at number) held at rows packet
  where
    held : List ℕ
    held = got_of lists at.server at.number

    rows : DownloadRows (FetchedBy held at number) held at
    rows = record {
      strange_rows = λ kind is. absurd (cc is);
      refused_rows = λ code is. absurd (cc is);
      login = λ is. absurd (cc is);
      octets = λ octets here few is. absurd (cc is);
      whole = λ whole is. absurd (cc is);
      bad = λ code is. absurd (cc is);
      done = λ here is.
          let same : at.number ≡ number = cc is in
          (sym same, subst (λ (p : DownloadPhase). IsCheckedIn p held) here has.checked, refl);
    }

-- ---- what is due

-- the notes go with an upload of which DATA or DATA_END was sent
due-task : (lists : Lists) (at : Upload) (number place : ℕ) → at.phase ≡ phase.Sending number place → HasTask lists at → HasTask lists (due_from at number place).state
due-task lists at number place here has = by (length (drop place at.file) == 0)
  where
    number_is : has.entry.number ≡ number
    number_is = has.number ∙ ap (λ (p : UploadPhase). number_in p at.known) here

    by : (b : Bool) → let due : DuePacket Upload = if b then record { packet = data_end; state = in_phase at (phase.Ack number) }
        else record { packet = data_part (take most_data (drop place at.file)); state = in_phase at (phase.Sending number (place_after at place)) } in HasTask lists due.state
    by true = record { entry = has.entry; is_entry = has.is_entry; going = has.going; number = number_is; file_length = has.file_length }
    by false = record { entry = has.entry; is_entry = has.is_entry; going = has.going; number = number_is; file_length = has.file_length }

due-upload : (lists : Lists) (at : Upload) (p : UploadPhase) (put : Bool) (now : JobState) (out out_now : List ℕ) → at.phase ≡ p → HasTask lists at
    → PutsDue (option_map in_job (option_map in_work (due_in p at))) put (new_job (work.Upload at)) now out out_now → NotesGoWith lists now
due-upload lists at phase.Login put now out out_now here has puts = subst (NotesGoWith lists) (sym puts.1) has
due-upload lists at phase.Go put now out out_now here has puts = subst (NotesGoWith lists) (sym puts.1) has
due-upload lists at (phase.Sending number place) put now out out_now here has puts = subst (NotesGoWith lists) (sym puts.1) (due-task lists at number place here has)
due-upload lists at (phase.Ack number) put now out out_now here has puts = subst (NotesGoWith lists) (sym puts.1) has

due-work : (lists : Lists) (doing : Work) (o : Option Ending) (put : Bool) (now : JobState) (out out_now : List ℕ) → GoBy o lists doing
    → PutsDue (due_by o doing) put (record { work = doing; ending = o }) now out out_now → NotesGoWith lists now
due-work lists doing (Some ending) put now out out_now goes puts = subst (NotesGoWith lists) (sym puts.1) tt
due-work lists (work.Upload at) None put now out out_now goes puts = due-upload lists at at.phase put now out out_now refl goes puts
due-work lists (work.Directory at) None put now out out_now goes puts = subst (NotesGoWith lists) (sym puts.1) tt
due-work lists (work.Download at) None put now out out_now goes puts = subst (NotesGoWith lists) (sym puts.1) goes

-- the notes that go with a job go with it once what was due was sent
pub due-goes : (lists : Lists) (job now : JobState) (put : Bool) (out out_now : List ℕ) → PutsDue (next_due job) put job now out out_now → NotesGoWith lists job → NotesGoWith lists now
due-goes lists job now put out out_now puts goes = due-work lists job.work job.ending put now out out_now goes puts
