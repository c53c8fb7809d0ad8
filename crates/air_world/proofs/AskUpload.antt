-- A new file may be asked of a client: it has its task then.
use Rattle.std.proofs.Common.{◌≡◌, ◌⊎◌, ⊎_elim, ℕ, zero, suc, ◌+◌, ◌-◌, ◌==◌, ◌<◌, ◌≤◌, false, List, [], ◌∷◌, ◌++◌}
use Rattle.std.proofs.Common.{length, refl, sym, ap, ◌∙◌, subst, arith, Option, None, Some, inl, inr, length-append}
use Rattle.ftl0_client_job.specs.declared.work.Work.TheVariants as work
use Rattle.air_world.proofs.Names.{sha256, option_and_then, option_map, slice_get, eqb_tells, same_Some, fresh_task, after_all, most_tasks, Task, task_count, task_of, task-at, Upload, new_upload, Work, Attempt, Asked, IsFileOf, Party, upload_of, each-weaker, BeginLaw, AreTasks, IsTaskFor, IsWork, IsGoodFile, file-more, place-more, task-some, task_for, next_upload, Sound, PartyAt, World}
use Rattle.air_world.proofs.Asked.{MayBeAsked}
use Rattle.air_world.proofs.GoodFile.{good-upload}
use Rattle.air_world.proofs.Served.{stands}

-- ---- one more at the end of a list

place-new : {X : Type 0} (xs : List X) (last : X) → slice_get (xs ++ last ∷ []) (length xs) ≡ Some last
place-new [] last = refl
place-new (x ∷ xs) last = place-new xs last

-- what is at a place of a list with one more was there before, or is that one, at the end
place-before : {X : Type 0} (xs : List X) (last : X) (place : ℕ) (x : X) → slice_get (xs ++ last ∷ []) place ≡ Some x
    → (slice_get xs place ≡ Some x) ⊎ ((place ≡ length xs) × (x ≡ last))
place-before [] last zero x there = inr (refl, sym (same_Some last x there))
place-before [] last (suc place) x there = absurd (cc)
place-before (y ∷ ys) last zero x there = inl there
place-before (y ∷ ys) last (suc place) x there =
    ⊎_elim (λ was. inl was) (λ new. inr (ap suc new.0, new.1)) (place-before ys last place x there)

-- ---- a client with one upload more

-- the upload of a task that was there is the same
upload-more : (party base : Party) (more : List ℕ) (task upload : ℕ) → base.uploads ≡ party.uploads ++ more
    → upload_of party task ≡ Some upload → upload_of base task ≡ Some upload
upload-more party base more task upload uploads is = elim (eqb_tells task 0) [
  | inl w ↦ absurd (let none = rw w.0 at is in let x : ⊥ = cc in x)
  | inr w ↦ rw w.0
      (subst (λ list. slice_get list (task - 1) ≡ Some upload) (sym uploads)
      (place-more party.uploads more (task - 1) upload (rw w.0 at is)))
]

-- and so is its file
file-same : (files : List Asked) (party base : Party) (more : List ℕ) (task : ℕ) (file : List ℕ)
    → base.uploads ≡ party.uploads ++ more → IsFileOf files party task file → IsFileOf files base task file
file-same files party base more task file uploads is = by (upload_of party task) refl is
  where
    by : (o : Option ℕ) → upload_of party task ≡ o
        → option_map (λ (asked : Asked). asked.file) (option_and_then (slice_get files) o) ≡ Some file
        → IsFileOf files base task file
    by None there is = absurd (cc)
    by (Some upload) there is =
        ap (λ o. option_map (λ (asked : Asked). asked.file) (option_and_then (slice_get files) o))
        (upload-more party base more task upload uploads there) ∙ is

-- the client once the task of the upload is noted, which is the next one of the world
abbrev pub tasked : World → Asked → Party → Party
tasked world it party =
    record party {
      client =
          record party.client {
            lists =
                after_all party.client.lists
                (fresh_task party.client.lists party.client.server party.client.me it.name (length it.file)
                (sha256 it.file) ∷ []);
          };
      uploads = party.uploads ++ length world.files ∷ [];
    }

module _ (old : World) (c : ℕ) (party : Party) (it : Asked) (sound : Sound old) (is : PartyAt old c party)
    (whose : it.client ≡ c) where
  abbrev base : Party
  base = tasked old it party

  abbrev files : List Asked
  files = old.files ++ it ∷ []

  abbrev last : ℕ
  last = task_count party.client.lists + 1

  abbrev tasks : AreTasks old.files c party
  tasks = (sound.parties c party is).tasks

  last-upload : upload_of base last ≡ Some (length old.files)
  last-upload = elim (eqb_tells last 0) [
    | inl w ↦ absurd (let none = w.1 in omega arith)
    | inr w ↦ rw w.0
        (subst (λ place. slice_get base.uploads place ≡ Some (length old.files))
        (let many = tasks.as_many in let same : length party.uploads ≡ last - 1 = omega arith in same)
        (place-new party.uploads (length old.files)))
  ]

  last-task : task_of base.client.lists last ≡ Some (task_for party it)
  last-task = elim (eqb_tells last 0) [
    | inl w ↦ absurd (let none = w.1 in omega arith)
    | inr w ↦ rw w.0
        (subst (λ place. slice_get base.client.lists.tasks place ≡ Some (task_for party it))
        (let same : length party.client.lists.tasks ≡ last - 1 = omega arith in same)
        (place-new party.client.lists.tasks (task_for party it)))
  ]

  last-file : IsFileOf files base last it.file
  last-file =
      ap (λ o. option_map (λ (asked : Asked). asked.file) (option_and_then (slice_get files) o)) last-upload
      ∙ ap (option_map (λ (asked : Asked). asked.file)) (place-new old.files it)

  -- the new task is such as it should be
  new-task-for : IsTaskFor files c base last (task_for party it)
  new-task-for = record {
    upload = length old.files;
    is_upload = last-upload;
    asked = it;
    is_asked = place-new old.files it;
    whose = whose;
    server_is = refl;
    caller_is = refl;
    name_is = refl;
    length_is = refl;
    digest_is = refl;
  }

  -- and a task that was there is so still
  old-task-for : (task : ℕ) (entry : Task) → IsTaskFor old.files c party task entry
      → IsTaskFor files c base task entry
  old-task-for task entry was = record {
    upload = was.upload;
    is_upload = upload-more party base (length old.files ∷ []) task was.upload refl was.is_upload;
    asked = was.asked;
    is_asked = place-more old.files (it ∷ []) was.upload was.asked was.is_asked;
    whose = was.whose;
    server_is = was.server_is;
    caller_is = was.caller_is;
    name_is = was.name_is;
    length_is = was.length_is;
    digest_is = was.digest_is;
  }

  each-task : (task : ℕ) (entry : Task) → task_of base.client.lists task ≡ Some entry
      → IsTaskFor files c base task entry
  each-task task entry found =
      let some : (task == 0) ≡ false = task-some base.client.lists task entry found in
      ⊎_elim
      (λ (was : slice_get party.client.lists.tasks (task - 1) ≡ Some entry).
      old-task-for task entry (tasks.each task entry (rw some was)))
      (λ (new : (task - 1 ≡ length party.client.lists.tasks) × (entry ≡ task_for party it)).
      by some new.0 new.1)
      (place-before party.client.lists.tasks (task_for party it) (task - 1) entry
      (task-at base.client.lists task entry found))
    where
      by : (task == 0) ≡ false → task - 1 ≡ length party.client.lists.tasks → entry ≡ task_for party it
          → IsTaskFor files c base task entry
      by some place entry_is = elim (eqb_tells task 0) [
        | inl w ↦ absurd (let is = w.0 in let x : ⊥ = cc in x)
        | inr w ↦
            let differs = w.1 in
            let same : last ≡ task = omega (arith, place, differs) in
            subst (λ number. IsTaskFor files c base number entry) same
            (subst (λ (it : Task). IsTaskFor files c base last it) (sym entry_is) new-task-for)
      ]

  tasks-now : AreTasks files c base
  tasks-now = record {
    each = each-task;
    as_many =
        let many = tasks.as_many in
        omega (
          arith,
          length-append party.uploads (length old.files ∷ []),
          length-append party.client.lists.tasks (task_for party it ∷ []),
        );
  }

  work-now : (asked : Work) → IsWork old.files party asked → IsWork files base asked
  work-now (work.Upload at) work_is =
      file-same files party base (length old.files ∷ []) at.task at.file refl
      (file-more old.files (it ∷ []) party at.task at.file work_is)
  work-now (work.Directory at) work_is = work_is
  work-now (work.Download at) work_is = work_is

  pub ask-file : BeginLaw → task_count party.client.lists < most_tasks → IsGoodFile it.file
      → MayBeAsked old c party base (it ∷ []) (work.Upload (new_upload last 0 it.file))
  ask-file begin few good =
      record {
        base_is =
            record {
              me = refl;
              server = refl;
              window = refl;
              attempts = refl;
              facts =
                  begin.begun old.server.store old.files c party it (stands old sound c party is) few
                  (sound.parties c party is).facts;
              tasks = tasks-now;
              works =
                  each-weaker {P = (λ (a : Attempt). IsWork old.files party a.client.asked)} {Q =
                  (λ a. IsWork files base a.client.asked)} party.attempts
                  (λ a works. work-now a.client.asked works) (sound.parties c party is).works;
              good = (good, tt);
            };
        link = refl;
        stray = refl;
        begun = refl;
        go_with =
            record {
              entry = task_for party it;
              is_entry = last-task;
              going = refl;
              number = refl;
              file_length = refl;
            };
        goes_on = λ task known file same some.
            let uploads : new_upload last 0 it.file ≡ new_upload task known file = cc same in
            let none : 0 ≡ known = ap (λ (at : Upload). at.known) uploads in
            absurd (omega (arith, some, none));
        work = last-file;
      }

-- the upload that a schedule asks next, with a body of this number of octets
pub ask-upload : BeginLaw → (old : World) (c : ℕ) (party : Party) (count : ℕ) → Sound old → PartyAt old c party
    → task_count party.client.lists < most_tasks → count ≤ 40000
    → MayBeAsked old c party (tasked old (next_upload old c count) party) (next_upload old c count ∷ [])
    (work.Upload (new_upload (task_count party.client.lists + 1) 0 (next_upload old c count).file))
ask-upload begin old c party count sound is few short =
    ask-file old c party (next_upload old c count) sound is refl begin few (good-upload (length old.files) count short)
