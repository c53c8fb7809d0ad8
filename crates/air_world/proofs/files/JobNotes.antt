-- What commands of a client's notes keep of its tasks and of the files that it got, over the same store.
use Rattle.std.proofs.Common.{◌≡◌, ◌≢◌, ℕ, ◌-◌, ◌≤◌, Bool, true, false, List, length, Option, None, Some, refl, sym}
use Rattle.std.proofs.Common.{◌∙◌, ap, subst, arith, le_refl, ⊎_elim}
use Rattle.std.specs.Prelude.{◌==◌, if◌then◌else◌}
use Rattle.client_notes.specs.declared.answers.Noted.TheVariants as noted
use Rattle.client_notes.specs.declared.progress.Progress.{Progress}
use Rattle.client_notes.specs.declared.progress.Progress.TheVariants as progress
use Rattle.air_world.proofs.files.Names.{slice_get, option_map, eqb_tells, nat_tests, length-set, same_Some, fault_code, slice_get-set_other, Store, noted_as, noted_at, noted_by, changed_at, set_some, with_task, Lists, Task, got_of, task_of, task-after, task-at, Asked, IsFileOf, Party, AreFirstIfAny, HasFacts, HasNumber, IsNumbered, got, IsTaskKept}

-- the task has this number in the notes
pub record NumberIn (lists : Lists) (task number : ℕ) : Type 0 where
  pub entry : Task
  pub is_entry : task_of lists task ≡ Some entry
  pub number_is : entry.number ≡ number
  pub some : 1 ≤ number

-- it is acknowledged with this number
abbrev pub AckedIn : Lists → ℕ → ℕ → Type 0
AckedIn lists task number = noted_at lists task ≡ Some (noted.Acked task number)

-- Each task is one that there was, except for its number and how far it has come, and there are as many.
pub record SameTasks (old new : Lists) : Type 0 where
  pub each :
      (task : ℕ) (entry : Task) → task_of new task ≡ Some entry
      → (before : Task) × (task_of old task ≡ Some
      before) × (entry ≡ record before { number = entry.number; progress = entry.progress })
  pub as_many : length new.tasks ≡ length old.tasks

-- What is kept by notes that a client's become: its tasks and their numbers, of which each numbered one is what the
-- facts say; what is acknowledged is kept; and what is got stays a prefix of a file.
pub record NotesKept (store : Store) (files : List Asked) (party : Party) (lists : Lists) : Type 0 where
  pub tasks : SameTasks party.client.lists lists
  pub numbers : (task number : ℕ) → NumberIn party.client.lists task number → NumberIn lists task number
  pub numbered : (task number : ℕ) (file : List ℕ) → NumberIn lists task number → IsFileOf files party task file
      → IsNumbered store party task number file
  pub acknowledged : (task number : ℕ) → AckedIn lists task number → IsTaskKept files store party task number
  pub front : (number : ℕ) → AreFirstIfAny store number (got_of lists party.client.server number)
  pub fetched : (number : ℕ) → fault_code (got party number) ≡ None
      → fault_code (got_of lists party.client.server number) ≡ None
  pub longer : (number : ℕ) → length (got party number) ≤ length (got_of lists party.client.server number)

-- ---- a task that is changed

other-task : (lists : Lists) (task other : ℕ) (change : Task → Task) (entry : Task) → task_of lists task ≡ Some entry
    → other ≢ task
    → task_of (with_task lists task change) other ≡ task_of lists other
other-task lists task other change entry found different = by (other == 0) refl
  where
    from : slice_get (changed_at (task - 1) change lists.tasks) (other - 1) ≡ slice_get lists.tasks (other - 1)
        → (b : Bool)
        → (if b then None else slice_get (changed_at (task - 1) change lists.tasks)
        (other - 1)) ≡ (if b then None else slice_get lists.tasks (other - 1))
    from same true = refl
    from same false = same

    some : (b : Bool) → (task == 0) ≡ b → 1 ≤ task
    some true is =
        absurd (let none : task_of lists task ≡ None = ap
        (λ (b : Bool). if b then None else slice_get lists.tasks (task - 1)) is in let no : Some entry ≡ None =
        sym found ∙ none in cc no)
    some false is = grind (arith, nat_tests)

    by : (b : Bool) → (other == 0) ≡ b → task_of (with_task lists task change) other ≡ task_of lists other
    by true is =
        ap (λ (b : Bool). if b then None else slice_get (changed_at (task - 1) change lists.tasks) (other - 1)) is
        ∙ sym (ap (λ (b : Bool). if b then None else slice_get lists.tasks (other - 1)) is)
    by false is =
        let least = some (task == 0) refl in
        let place : other - 1 ≢ task - 1 = λ same. different (grind (arith, nat_tests)) in
        let there = task-at lists task entry found in
        from
        (ap (λ (o : Option Task). slice_get (set_some change lists.tasks (task - 1) o) (other - 1)) there
        ∙ slice_get-set_other lists.tasks (task - 1) (other - 1) (change entry) place) (other == 0)

acked-by : (task number given : ℕ) (p : Progress) → noted_by task given p ≡ noted.Acked task number
    → (p ≡ progress.Acked) × (given ≡ number)
acked-by task number given progress.Going is = absurd (cc is)
acked-by task number given progress.Acked is = (refl, cc)
acked-by task number given (progress.Refused code) is = absurd (cc is)

acked-entry : (task number : ℕ) (o : Option Task) (entry : Task) → o ≡ Some entry
    → option_map (noted_as task) o ≡ Some (noted.Acked task number)
    → (entry.progress ≡ progress.Acked) × (entry.number ≡ number)
acked-entry task number o entry is noted_is =
    acked-by task number entry.number entry.progress
    (same_Some (noted_as task entry) (noted.Acked task number) (ap (option_map (noted_as task)) (sym is) ∙ noted_is))

module _ (store : Store) (files : List Asked) (party : Party) (facts : HasFacts store files party) where
  abbrev old : Lists
  old = party.client.lists

  number-of : (task number : ℕ) → NumberIn old task number → HasNumber party task number
  number-of task number has =
      record { entry = has.entry; is_entry = has.is_entry; number_is = has.number_is; some = has.some }

  -- nothing changed
  pub kept-same : NotesKept store files party old
  kept-same = record {
    tasks = record { each = λ task entry found. (entry, found, refl); as_many = refl };
    numbers = λ task number has. has;
    numbered = λ task number file has is. facts.tasks.numbered task number file (number-of task number has) is;
    acknowledged = facts.tasks.acknowledged;
    front = facts.files_got.got_front;
    fetched = λ number is. is;
    longer = λ number. le_refl (length (got party number));
  }

  -- one task changed
  module _ (task : ℕ) (entry : Task) (found : task_of old task ≡ Some entry) (change : Task → Task)
      (same : change entry ≡ record entry { number = (change entry).number; progress = (change entry).progress })
      (stays : 1 ≤ entry.number → (change entry).number ≡ entry.number)
      (numbered : (number : ℕ) (file : List ℕ) → 1 ≤ number → (change entry).number ≡ number
      → IsFileOf files party task file → IsNumbered store party task number file)
      (acked : (number : ℕ) → (change entry).progress ≡ progress.Acked → (change entry).number ≡ number
      → IsTaskKept files store party task number) where
    abbrev now : Lists
    now = with_task old task change

    here : task_of now task ≡ Some (change entry)
    here = task-after old task change entry found

    there : (other : ℕ) → other ≢ task → task_of now other ≡ task_of old other
    there other different = other-task old task other change entry found different

    -- what is so of the task, and of each other one, is so of each
    each-task : {Q : ℕ → Type 0} → Q task → ((other : ℕ) → other ≢ task → Q other) → (other : ℕ) → Q other
    each-task {Q = Q} one others other =
        ⊎_elim (λ (w : ((other == task) ≡ true) × (other ≡ task)). subst Q (sym w.1) one)
        (λ (w : ((other == task) ≡ false) × (other ≢ task)). others other w.1)
        (eqb_tells other task)

    kept-tasks : SameTasks old now
    kept-tasks = record {
      each =
          each-task {Q = λ it. (new : Task) → task_of now it ≡ Some new
          → (before : Task) × (task_of old it ≡ Some
          before) × (new ≡ record before { number = new.number; progress = new.progress })}
          (λ new is.
          let it : change entry ≡ new = same_Some (change entry) new (sym here ∙ is) in
          (entry, found, subst (λ (t : Task). t ≡ record entry { number = t.number; progress = t.progress }) it same))
          (λ other different new is. (new, sym (there other different) ∙ is, refl));
      as_many =
          ap (λ (o : Option Task). length (set_some change old.tasks (task - 1) o)) (task-at old task entry found)
          ∙ length-set old.tasks (task - 1) (change entry);
    }

    pub kept-task : NotesKept store files party now
    kept-task = record {
      tasks = kept-tasks;
      numbers = each-task {Q = λ it. (number : ℕ) → NumberIn old it number → NumberIn now it number}
          (λ number has.
          let it : has.entry ≡ entry = same_Some has.entry entry (sym has.is_entry ∙ found) in
          let is : entry.number ≡ number = ap (λ (t : Task). t.number) (sym it) ∙ has.number_is in
          record {
            entry = change entry;
            is_entry = here;
            number_is = stays (subst (λ (n : ℕ). 1 ≤ n) (sym is) has.some) ∙ is;
            some = has.some;
          })
          (λ other different number has. record {
            entry = has.entry;
            is_entry = there other different ∙ has.is_entry;
            number_is = has.number_is;
            some = has.some;
          });
      numbered =
          each-task {Q = λ it. (number : ℕ) (file : List ℕ) → NumberIn now it number → IsFileOf files party it file
          → IsNumbered store party it number file}
          (λ number file has is.
          let it : has.entry ≡ change entry = same_Some has.entry (change entry) (sym has.is_entry ∙ here) in
          numbered number file has.some (ap (λ (t : Task). t.number) (sym it) ∙ has.number_is) is)
          (λ other different number file has is.
          facts.tasks.numbered other number file
          (record {
            entry = has.entry;
            is_entry = sym (there other different) ∙ has.is_entry;
            number_is = has.number_is;
            some = has.some;
          }) is);
      acknowledged = each-task {Q = λ it. (number : ℕ) → AckedIn now it number → IsTaskKept files store party it number}
          (λ number is.
          let both = acked-entry task number (task_of now task) (change entry) here is in
          acked number both.0 both.1)
          (λ other different number is.
          facts.tasks.acknowledged other number (ap (option_map (noted_as other)) (sym (there other different)) ∙ is));
      front = facts.files_got.got_front;
      fetched = λ number is. is;
      longer = λ number. le_refl (length (got party number));
    }
