-- What a start of the notes answers, by what is answered of the last task.
use Rattle.std.proofs.Common.{◌≡◌, ℕ, ◌+◌, Bool, true, false, List, refl, sym, ap, ◌∙◌, subst, Option, None, Some}
use Rattle.client_notes.specs.declared.answers.Begun.{Begun}
use Rattle.client_notes.specs.declared.answers.Begun.TheVariants as begun
use Rattle.client_notes.specs.declared.answers.Noted.TheVariants as noted
use Rattle.client_notes.specs.declared.progress.Progress.TheVariants as progress
use Rattle.client_notes.specs.declared.refusals.NotesRefusal.{NotesRefusal}
use Rattle.client_notes.specs.declared.refusals.NotesRefusal.TheVariants as refusal
use Rattle.client_notes.proofs.Names.{Result, Ok, Err, ⊤, option_map, CallSign, IsFull, StartsBy, answer_at, answer_by, answer_last, answer_of, noted_as, noted_at, noted_by, Lists, Task, is_of_file, last_task, task_count, task_of, NotesState, Progress}

-- ---- what is answered of a task

-- never a fresh one, and no refusal but that the file changed
abbrev pub IsOfTask : Result (Option Begun) NotesRefusal → Type 0
IsOfTask (Ok None) = ⊤
IsOfTask (Ok (Some (begun.Already number))) = ⊤
IsOfTask (Ok (Some (begun.Going task number))) = ⊤
IsOfTask (Ok (Some (begun.Fresh task))) = ⊥
IsOfTask (Err (refusal.Changed kept digest)) = ⊤
IsOfTask (Err refusal.Full) = ⊥
IsOfTask (Err refusal.Disk) = ⊥
IsOfTask (Err refusal.Failed) = ⊥
IsOfTask (Err refusal.OutOfMemory) = ⊥

of_by : (task : ℕ) (entry : Task) (same : Bool) (far : Progress) → IsOfTask (answer_by task entry same far)
of_by task entry true progress.Acked = tt
of_by task entry false progress.Acked = tt
of_by task entry true progress.Going = tt
of_by task entry false progress.Going = tt
of_by task entry true (progress.Refused code) = tt
of_by task entry false (progress.Refused code) = tt

of_at : (task file_length : ℕ) (digest : List ℕ) (entry : Option Task) → IsOfTask (answer_at task file_length digest entry)
of_at task file_length digest None = tt
of_at task file_length digest (Some entry) = of_by task entry (is_of_file file_length digest entry) entry.progress

of_last : (lists : Lists) (file_length : ℕ) (digest : List ℕ) (last : Option ℕ) → IsOfTask (answer_last lists file_length digest last)
of_last lists file_length digest None = tt
of_last lists file_length digest (Some task) = of_at task file_length digest (task_of lists task)

pub of_task : (lists : Lists) (server caller : CallSign) (name : List ℕ) (file_length : ℕ) (digest : List ℕ) → IsOfTask (answer_of lists server caller name file_length digest)
of_task lists server caller name file_length digest = of_last lists file_length digest (last_task lists server caller name)

-- ---- a file that was acknowledged

-- its task was acknowledged with this number
acked-by : (task : ℕ) (entry : Task) (number : ℕ) (same : Bool) (far : Progress) → answer_by task entry same far ≡ Ok (Some (begun.Already number)) → (far ≡ progress.Acked) × (entry.number ≡ number)
acked-by task entry number true progress.Acked is = (refl, cc is)
acked-by task entry number false progress.Acked is = absurd (cc is)
acked-by task entry number true progress.Going is = absurd (cc is)
acked-by task entry number false progress.Going is = absurd (cc is)
acked-by task entry number true (progress.Refused code) is = absurd (cc is)
acked-by task entry number false (progress.Refused code) is = absurd (cc is)

acked-at : (task file_length number : ℕ) (digest : List ℕ) (entry : Option Task) → answer_at task file_length digest entry ≡ Ok (Some (begun.Already number))
    → option_map (noted_as task) entry ≡ Some (noted.Acked task number)
acked-at task file_length number digest None is = absurd (cc is)
acked-at task file_length number digest (Some entry) is =
    let both = acked-by task entry number (is_of_file file_length digest entry) entry.progress is in
    ap Some (ap (noted_by task entry.number) both.0 ∙ ap (noted.Acked task) both.1)

pub acked-last : (lists : Lists) (file_length number : ℕ) (digest : List ℕ) (last : Option ℕ) → answer_last lists file_length digest last ≡ Ok (Some (begun.Already number))
    → (task : ℕ) × (last ≡ Some task) × (noted_at lists task ≡ Some (noted.Acked task number))
acked-last lists file_length number digest None is = absurd (cc is)
acked-last lists file_length number digest (Some task) is = (task, refl, acked-at task file_length number digest (task_of lists task) is)

-- ---- what the start answers

module _ (self : NotesState) (healthy : self.journal.failed ≡ false) where
  -- a file was acknowledged before, or its task is under way, exactly where the last task says so
  pub begun-kept : (answer : Result (Option Begun) NotesRefusal) (given : Begun) → ((task : ℕ) → ¬ (given ≡ begun.Fresh task)) → StartsBy self answer (Ok given) → answer ≡ Ok (Some given)
  begun-kept (Ok None) given none starts = absurd (none (task_count self.lists + 1) starts.1)
  begun-kept (Ok (Some kept)) given none starts = ap Ok (ap Some (let e : given ≡ kept = cc starts in sym e))
  begun-kept (Err refused) given none starts = absurd (cc starts)

  -- a fresh task is begun where one is wanted
  pub begun-fresh : (answer : Result (Option Begun) NotesRefusal) (task : ℕ) → IsOfTask answer → StartsBy self answer (Ok (begun.Fresh task))
      → (answer ≡ Ok None) × ¬ IsFull self.lists × (task ≡ task_count self.lists + 1)
  begun-fresh (Ok None) task of starts = (refl, starts.0.0, cc starts.1)
  begun-fresh (Ok (Some kept)) task of starts = absurd (subst (λ (b : Begun). IsOfTask (Ok (Some b))) (let e : kept ≡ begun.Fresh task = cc (sym starts) in e) of)
  begun-fresh (Err refused) task of starts = absurd (cc starts)

  -- the notes hadn't failed before
  pub not-failed : (answer : Result (Option Begun) NotesRefusal) → IsOfTask answer → StartsBy self answer (Err refusal.Failed) → ⊥
  not-failed (Ok None) of starts = cc (sym healthy ∙ starts.1)
  not-failed (Ok (Some kept)) of starts = cc starts
  not-failed (Err kept) of starts = subst (λ (r : NotesRefusal). IsOfTask (Err r)) (let e : kept ≡ refusal.Failed = cc (sym starts) in e) of
