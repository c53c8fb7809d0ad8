-- The task that a start of the notes gives is of its server, caller and digest.
use Rattle.std.proofs.Common.{◌≡◌, ◌⊎◌, inl, inr, ℕ, ◌+◌, ◌-◌, ◌<◌, Bool, true, false, List, get_or, refl, sym, ◌∙◌, ap, subst, arith, eq-eqb}
use Rattle.std.specs.Prelude.{◌&&◌, ◌==◌}
use Rattle.std.proofs.lemmas.List.Quantifiers.{position-Some}
use Rattle.client_notes.specs.declared.answers.Begun.TheVariants as begun
use Rattle.client_notes.specs.declared.progress.Progress.TheVariants as progress
use Rattle.ftl0_client_job.proofs.Names.{IsErr, IsTrue, Option, None, Some, Ok, length, reverse, option_map, bytes_eq, get_or-reverse, length-reverse, get_or_from_slice_get, bytes_eq-Decides, Ghosts, CallSign, Begun, Progress, StartsBy, answer_at, answer_by, answer_last, answer_of, fresh_task, start_reaches, after, new_task, Lists, Task, is_of_file, is_same_call, is_task_for, last_task, place_from_end, task_count, task_of, Does, Untouched, NotesState, both-left, task-at, IsTaskOf, IsOwned, started}
use Rattle.ftl0_client_job.proofs.LawLemmas.{fresh-number, going-answer, not-fresh, task-begun}
use Rattle.ftl0_client_job.proofs.StaysLemmas.{both-right}

-- ---- the last task of a server, caller and name

same-octets : (xs : List ℕ) → bytes_eq xs xs ≡ true
same-octets xs = (bytes_eq-Decides xs xs).1 refl

same-call : (call : CallSign) → is_same_call call call ≡ true
same-call call = rw (same-octets call.chars) (eq-eqb call.ssid call.ssid refl)

module _ (lists : Lists) (server caller : CallSign) (name : List ℕ) where
  -- it is for these
  last-is : (task : ℕ) (entry : Task) → last_task lists server caller name ≡ Some task → task_of lists task ≡ Some entry → is_task_for server caller name entry ≡ true
  last-is task entry last found = by (place_from_end lists server caller name) refl last
    where
      by : (o : Option ℕ) → place_from_end lists server caller name ≡ o → option_map (λ (place : ℕ). task_count lists - place) o ≡ Some task → is_task_for server caller name entry ≡ true
      by None at is = absurd (cc is)
      by (Some place) at is =
          let number : task_count lists - place ≡ task = cc is in
          let some = position-Some (is_task_for server caller name) (reverse lists.tasks) place entry at in
          let len : length (reverse lists.tasks) ≡ length lists.tasks = length-reverse lists.tasks in
          let within : place < length lists.tasks = let below = some.0 in omega (arith, below, len) in
          let there : length lists.tasks - 1 - place ≡ task - 1 = omega (arith, number) in
          let get = get_or-reverse lists.tasks place entry within ∙ ap (λ (k : ℕ). get_or lists.tasks k entry) there
          ∙ get_or_from_slice_get lists.tasks (task - 1) entry entry (task-at lists task entry found) in
          ap (is_task_for server caller name) (sym get) ∙ some.1

-- ---- a fresh task

fresh-owned : (lists : Lists) (server caller : CallSign) (name digest : List ℕ) (len : ℕ) → IsTaskOf (after lists (fresh_task lists server caller name len digest)) server caller digest (task_count lists + 1)
fresh-owned lists server caller name digest len =
    record {
      entry = new_task server caller name len digest;
      is_entry = task-begun lists (new_task server caller name len digest);
      of_server = same-call server;
      of_caller = same-call caller;
      of_file = refl;
    }

-- ---- one that is under way

going-owned : (lists : Lists) (server caller : CallSign) (name digest : List ℕ) (len task number : ℕ)
    → answer_of lists server caller name len digest ≡ Ok (Some (begun.Going task number)) → IsTaskOf lists server caller digest task
going-owned lists server caller name digest len task number is = by_last (last_task lists server caller name) refl is
  where
    owned : (entry : Task) → task_of lists task ≡ Some entry → last_task lists server caller name ≡ Some task → is_of_file len digest entry ≡ true → IsTaskOf lists server caller digest task
    owned entry found last of_file =
        let calls : (is_same_call entry.server server && is_same_call entry.caller caller && bytes_eq entry.name name) ≡ true = last-is lists server caller name task entry last found in
        let both : (is_same_call entry.server server && is_same_call entry.caller caller) ≡ true = both-left (is_same_call entry.server server && is_same_call entry.caller caller) _ calls in
        record {
          entry = entry;
          is_entry = found;
          of_server = both-left (is_same_call entry.server server) _ both;
          of_caller = both-right (is_same_call entry.server server) _ both;
          of_file = (bytes_eq-Decides entry.digest digest).0 (both-right (entry.length == len) _ of_file);
        }

    by_progress : (t : ℕ) (entry : Task) (b : Bool) (p : Progress) → task_of lists t ≡ Some entry → last_task lists server caller name ≡ Some t → is_of_file len digest entry ≡ b
        → answer_by t entry b p ≡ Ok (Some (begun.Going task number)) → IsTaskOf lists server caller digest task
    by_progress t entry true progress.Acked found last of_file same = absurd (cc same)
    by_progress t entry false progress.Acked found last of_file same = absurd (cc same)
    by_progress t entry true progress.Going found last of_file same =
        let task_is : t ≡ task = cc same in
        owned entry (subst (λ (k : ℕ). task_of lists k ≡ Some entry) task_is found) (last ∙ ap Some task_is) of_file
    by_progress t entry false progress.Going found last of_file same = absurd (cc same)
    by_progress t entry true (progress.Refused code) found last of_file same = absurd (cc same)
    by_progress t entry false (progress.Refused code) found last of_file same = absurd (cc same)

    by_task : (t : ℕ) (o : Option Task) → task_of lists t ≡ o → last_task lists server caller name ≡ Some t → answer_at t len digest o ≡ Ok (Some (begun.Going task number)) → IsTaskOf lists server caller digest task
    by_task t None found last same = absurd (cc same)
    by_task t (Some entry) found last same = by_progress t entry (is_of_file len digest entry) entry.progress found last refl same

    by_last : (o : Option ℕ) → last_task lists server caller name ≡ o → answer_last lists len digest o ≡ Ok (Some (begun.Going task number)) → IsTaskOf lists server caller digest task
    by_last None last same = absurd (cc same)
    by_last (Some t) last same = by_task t (task_of lists t) refl last same

-- ---- what a start gives

untouched-same : {D : Type 0} (old new : NotesState) (disk disk_now : D) → IsTrue false ⊎ Untouched old new disk disk_now → new ≡ old
untouched-same old new disk disk_now (inl never) = absurd (cc never)
untouched-same old new disk disk_now (inr same) = same.same

pub owned : {D : Type 0} (g : Ghosts D) (old new : NotesState) (disk disk_now : D) (server caller : CallSign) (name digest : List ℕ) (len : ℕ) (given : Begun)
    → StartsBy old (answer_of old.lists server caller name len digest) (started given) → IsTrue (start_reaches (started given)) ⊎ Untouched old new disk disk_now
    → (IsTrue (start_reaches (started given)) → Does g (IsErr (started given)) old new disk disk_now (fresh_task old.lists server caller name len digest)) → IsOwned new.lists server caller digest given
owned g old new disk disk_now server caller name digest len (begun.Fresh task) starts untouched does =
    let number : task ≡ task_count old.lists + 1 = fresh-number old (answer_of old.lists server caller name len digest) task (not-fresh old.lists server caller name digest len task) starts in
    let made = ((does refl).done (λ e. cc e)).lists in
    subst (λ (l : Lists). IsTaskOf l server caller digest task) (sym made)
    (subst (λ (k : ℕ). IsTaskOf (after old.lists (fresh_task old.lists server caller name len digest)) server caller digest k) (sym number) (fresh-owned old.lists server caller name digest len))
owned g old new disk disk_now server caller name digest len (begun.Going task number) starts untouched does =
    let is = going-answer old (answer_of old.lists server caller name len digest) task number starts in
    subst (λ (n : NotesState). IsTaskOf n.lists server caller digest task) (sym (untouched-same old new disk disk_now untouched)) (going-owned old.lists server caller name digest len task number is)
owned g old new disk disk_now server caller name digest len (begun.Already number) starts untouched does = tt
