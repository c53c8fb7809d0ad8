-- What commands make of a task.
use Rattle.std.proofs.Common.{◌≡◌, ◌≢◌, ⊎_elim, ℕ, ◌+◌, ◌-◌, ◌<◌, ◌≤◌, Bool, true, false, List, [], ◌∷◌, ◌++◌, length, Option, None, Some, refl, sym, ◌∙◌, ap, arith, length-append}
use Rattle.std.specs.Prelude.{◌&&◌, ◌==◌}
use Rattle.client_notes.specs.declared.answers.Noted.TheVariants as noted
use Rattle.client_notes.specs.declared.progress.Progress.TheVariants as progress
use Rattle.client_notes.proofs.Names.{IsTrue, nat_le, nat_lt, slice_get, option_map, set, eqb_tells, leb_tells, nat_tests, get_or-set_other, get_or-set_same, get_or_append_left, length-set, get_or_from_slice_get, slice_get-get_or, slice_get_past, slice_get_within, noted_as, noted_at, noted_by, NotesCommand, acked, after, changed_at, forgot, got, is_allowed, is_going, is_numbered, is_unnumbered, numbered, passes, refused, set_some, start, with_task, AreAllowed, after_all, Lists, Task, task_of, Progress}

-- ---- a place of a list

set-there : {X : Type 0} (xs : List X) (i : ℕ) (x y : X) → slice_get xs i ≡ Some x → slice_get (set xs i y) i ≡ Some y
set-there xs i x y is =
    let within : i < length xs = slice_get_within xs i x is in
    let same : length (set xs i y) ≡ length xs = length-set xs i y in
    slice_get-get_or (set xs i y) i y (omega arith) ∙ ap Some (get_or-set_same xs i y y within)

set-other : {X : Type 0} (xs : List X) (i j : ℕ) (y : X) → j ≢ i → slice_get (set xs i y) j ≡ slice_get xs j
set-other xs i j y other =
    let same : length (set xs i y) ≡ length xs = length-set xs i y in
    ⊎_elim
    (λ (w : (nat_le (length xs) j ≡ true) × (length xs ≤ j)).
    let past = w.1 in
    slice_get_past (set xs i y) j (omega arith) ∙ sym (slice_get_past xs j past))
    (λ (w : (nat_le (length xs) j ≡ false) × (j < length xs)).
    let within = w.1 in
    slice_get-get_or (set xs i y) j y (omega arith) ∙ ap Some (get_or-set_other xs i j y y other) ∙ sym (slice_get-get_or xs j y within))
    (leb_tells (length xs) j)

append-there : {X : Type 0} (xs ys : List X) (i : ℕ) (x : X) → slice_get xs i ≡ Some x → slice_get (xs ++ ys) i ≡ Some x
append-there xs ys i x is =
    let within : i < length xs = slice_get_within xs i x is in
    let sum : length (xs ++ ys) ≡ length xs + length ys = length-append xs ys in
    slice_get-get_or (xs ++ ys) i x (omega arith) ∙ ap Some (get_or_append_left xs ys x i within ∙ get_or_from_slice_get xs i x x is)

changed-there : {X : Type 0} (place : ℕ) (change : X → X) (xs : List X) (x : X) → slice_get xs place ≡ Some x → slice_get (changed_at place change xs) place ≡ Some (change x)
changed-there place change xs x is = ap (λ o. slice_get (set_some change xs place o) place) is ∙ set-there xs place x (change x) is

changed-other : {X : Type 0} (place other : ℕ) (change : X → X) (xs : List X) → other ≢ place → slice_get (changed_at place change xs) other ≡ slice_get xs other
changed-other {X = X} place other change xs different = by (slice_get xs place)
  where
    by : (o : Option X) → slice_get (set_some change xs place o) other ≡ slice_get xs other
    by None = refl
    by (Some x) = set-other xs place other (change x) different

-- ---- a task

-- a task that there is hasn't number 0, and stands at the place before its number
module _ (lists : Lists) (task : ℕ) (entry : Task) (found : task_of lists task ≡ Some entry) where
  pub task-some : (task == 0) ≡ false
  task-some =
      ⊎_elim
      (λ (w : ((task == 0) ≡ true) × (task ≡ 0)). absurd (let none = rw w.0 at found in cc))
      (λ (w : ((task == 0) ≡ false) × (task ≢ 0)). w.0)
      (eqb_tells task 0)

  pub task-at : slice_get lists.tasks (task - 1) ≡ Some entry
  task-at = rw task-some at found

-- changed so
pub task-after : (lists : Lists) (task : ℕ) (change : Task → Task) (entry : Task) → task_of lists task ≡ Some entry → task_of (with_task lists task change) task ≡ Some (change entry)
task-after lists task change entry found = rw (task-some lists task entry found) (changed-there (task - 1) change lists.tasks entry (task-at lists task entry found))

-- a change of another task
pub task-other : (lists : Lists) (task other : ℕ) (change : Task → Task) (entry changed : Task) → task_of lists task ≡ Some changed → other ≢ task → task_of lists other ≡ Some entry
    → task_of (with_task lists task change) other ≡ Some entry
task-other lists task other change entry changed there different found =
    let some : (task == 0) ≡ false = task-some lists task changed there in
    let some_other : (other == 0) ≡ false = task-some lists other entry found in
    let place : other - 1 ≢ task - 1 = λ same. different (grind (arith, nat_tests)) in
    rw some_other (changed-other (task - 1) (other - 1) change lists.tasks place ∙ task-at lists other entry found)

-- a task more
pub task-more : (lists : Lists) (task : ℕ) (more : List Task) (entry : Task) → task_of lists task ≡ Some entry → task_of (record lists { tasks = lists.tasks ++ more }) task ≡ Some entry
task-more lists task more entry found = rw (task-some lists task entry found) (append-there lists.tasks more (task - 1) entry (task-at lists task entry found))

-- ---- what was acknowledged

pub passed : (test : Task → Bool) (o : Option Task) → IsTrue (passes test o) → (e : Task) × (o ≡ Some e) × IsTrue (test e)
passed test None ok = absurd (cc ok)
passed test (Some e) ok = (e, refl, ok)

pub both-left : (a b : Bool) → IsTrue (a && b) → IsTrue a
both-left true b ok = refl
both-left false b ok = absurd (cc ok)

-- a change of a task that is unfinished leaves one that isn't
going-changed : (lists : Lists) (task other : ℕ) (change : Task → Task) (entry : Task) (test : Task → Bool) → ((e : Task) → IsTrue (test e) → IsTrue (is_going e.progress))
    → IsTrue (passes test (task_of lists task)) → task_of lists other ≡ Some entry → entry.progress ≡ progress.Acked → task_of (with_task lists task change) other ≡ Some entry
going-changed lists task other change entry test goes ok found acked_is =
    let there = passed test (task_of lists task) ok in
    let different : other ≢ task = λ same.
    let one : Some there.0 ≡ Some entry = sym there.1 ∙ ap (task_of lists) (sym same) ∙ found in
    let is : there.0 ≡ entry = cc in
    let going : is_going entry.progress ≡ true = ap (λ (e : Task). is_going e.progress) (sym is) ∙ goes there.0 there.2 in
    let not_going : is_going entry.progress ≡ false = ap is_going acked_is in
    cc in
    task-other lists task other change entry there.0 there.1 different found

pub acked-same : (lists : Lists) (command : NotesCommand) (task : ℕ) (entry : Task) → IsTrue (is_allowed lists command) → task_of lists task ≡ Some entry → entry.progress ≡ progress.Acked
    → task_of (after lists command) task ≡ Some entry
acked-same lists (start number server caller name file_length digest) task entry ok found is = task-more lists task _ entry found
acked-same lists (numbered t number) task entry ok found is =
    going-changed lists t task _ entry is_unnumbered (λ e unnumbered. both-left (is_going e.progress) (e.number == 0) unnumbered) (both-left (passes is_unnumbered (task_of lists t)) (nat_lt 0 number) ok) found is
acked-same lists (acked t) task entry ok found is = going-changed lists t task _ entry is_numbered (λ e with_number. both-left (is_going e.progress) (nat_lt 0 e.number) with_number) ok found is
acked-same lists (refused t code) task entry ok found is = going-changed lists t task _ entry (λ e. is_going e.progress) (λ e going. going) ok found is
acked-same lists (got server number octets) task entry ok found is = found
acked-same lists (forgot server number) task entry ok found is = found

pub acked-all : (commands : List NotesCommand) (lists : Lists) (task : ℕ) (entry : Task) → AreAllowed lists commands → task_of lists task ≡ Some entry → entry.progress ≡ progress.Acked
    → task_of (after_all lists commands) task ≡ Some entry
acked-all [] lists task entry ok found is = found
acked-all (command ∷ commands) lists task entry ok found is = acked-all commands (after lists command) task entry ok.1 (acked-same lists command task entry ok.0 found is) is

-- a task of which this is noted was acknowledged
noted-acked : (lists : Lists) (task number : ℕ) → noted_at lists task ≡ Some (noted.Acked task number) → (entry : Task) × (task_of lists task ≡ Some entry) × (entry.progress ≡ progress.Acked)
noted-acked lists task number is = by (task_of lists task) refl is
  where
    acked_by : (t n : ℕ) (p : Progress) → Some (noted_by t n p) ≡ Some (noted.Acked task number) → p ≡ progress.Acked
    acked_by t n progress.Going same = absurd (cc same)
    acked_by t n progress.Acked same = refl
    acked_by t n (progress.Refused code) same = absurd (cc same)

    by : (o : Option Task) → task_of lists task ≡ o → option_map (noted_as task) o ≡ Some (noted.Acked task number) → (entry : Task) × (task_of lists task ≡ Some entry) × (entry.progress ≡ progress.Acked)
    by None found same = absurd (cc same)
    by (Some entry) found same = (entry, found, acked_by task entry.number entry.progress same)

pub acked-stays : (lists : Lists) (commands : List NotesCommand) (task number : ℕ) → AreAllowed lists commands → noted_at lists task ≡ Some (noted.Acked task number)
    → noted_at (after_all lists commands) task ≡ Some (noted.Acked task number)
acked-stays lists commands task number ok is =
    let was = noted-acked lists task number is in
    ap (option_map (noted_as task)) (acked-all commands lists task was.0 ok was.1 was.2) ∙ ap (option_map (noted_as task)) (sym was.1) ∙ is
