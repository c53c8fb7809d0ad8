-- The facts of a client of which nothing was asked; with a further upload; and with its task.
use Rattle.std.proofs.Common.{◌==◌, false, ◌≡◌, ◌⊎◌, ℕ, zero, suc, List, [], ◌∷◌, ◌++◌, refl, ap, sym, ◌∙◌, Option}
use Rattle.std.proofs.Common.{None, Some, inl, inr}
use Rattle.ax25_link.specs.Window.{Window}
use Rattle.client_notes.specs.declared.answers.Noted.TheVariants as noted
use Rattle.air_world.proofs.files.Names.{slice_get, option_and_then, option_map, eqb_tells, same_Some, CallSign, Store, empty_store, noted_as, noted_at, Lists, Task, no_notes, task_of, Asked, IsFileOf, Party, first_party, upload_of, HasFacts, Stands, IsTaskFor}
use Rattle.air_world.proofs.files.ApartLemmas.{HasFactsApart, apart, together}

-- ---- places of a list

pub place-more : {X : Type 0} (xs more : List X) (place : ℕ) (x : X) → slice_get xs place ≡ Some x
    → slice_get (xs ++ more) place ≡ Some x
place-more [] more place x there = absurd (cc)
place-more (y ∷ ys) more zero x there = there
place-more (y ∷ ys) more (suc place) x there = place-more ys more place x there

-- what is at a place of a list with one more was there before, or is that one
pub place-last : {X : Type 0} (xs : List X) (last : X) (place : ℕ) (x : X) → slice_get (xs ++ last ∷ []) place ≡ Some x
    → (slice_get xs place ≡ Some x) ⊎ (x ≡ last)
place-last [] last zero x there = inr (sym (same_Some last x there))
place-last [] last (suc place) x there = absurd (cc)
place-last (y ∷ ys) last zero x there = inl there
place-last (y ∷ ys) last (suc place) x there = place-last ys last place x there

-- ---- a client of which nothing was asked

-- a task that there is hasn't number 0
pub task-some : (lists : Lists) (task : ℕ) (entry : Task) → task_of lists task ≡ Some entry → (task == 0) ≡ false
task-some lists task entry is = elim (eqb_tells task 0) [
  | inl w ↦ absurd (let none = rw w.0 at is in let x : ⊥ = cc in x)
  | inr w ↦ w.0
]

pub no-task : (task : ℕ) (entry : Task) → task_of no_notes task ≡ Some entry → ⊥
no-task task entry is = let none = rw (task-some no_notes task entry is) at is in cc

-- an acknowledged task is one
pub acked-task : (lists : Lists) (task number : ℕ) → noted_at lists task ≡ Some (noted.Acked task number)
    → (entry : Task) × (task_of lists task ≡ Some entry) × (noted_as task entry ≡ noted.Acked task number)
acked-task lists task number is = by (task_of lists task) refl is
  where
    by : (o : Option Task) → task_of lists task ≡ o → option_map (noted_as task) o ≡ Some (noted.Acked task number)
        → (entry : Task) × (task_of lists task ≡ Some entry) × (noted_as task entry ≡ noted.Acked task number)
    by None there acked = absurd (cc)
    by (Some entry) there acked = (entry, there, same_Some (noted_as task entry) (noted.Acked task number) acked)

pub facts-first : (server me : CallSign) (w : Window) (limit : ℕ)
    → HasFacts (empty_store limit) [] (first_party server w me)
facts-first server me w limit = together (empty_store limit) [] (first_party server w me) (record {
  numbered = λ task number file has is. absurd (no-task task has.entry has.is_entry);
  acknowledged = λ task number holds. let it = acked-task no_notes task number holds in absurd (no-task task it.0 it.1);
  attempts = tt;
  sides = tt;
  got_front = λ number some. absurd (some refl);
  fetching = tt;
})

-- ---- a further upload

-- the file of a task that was known is known still
pub file-more : (files more : List Asked) (party : Party) (task : ℕ) (file : List ℕ) → IsFileOf files party task file
    → IsFileOf (files ++ more) party task file
file-more files more party task file is = by (upload_of party task) is
  where
    at : (upload : ℕ) (o : Option Asked) → slice_get files upload ≡ o
        → option_map (λ (asked : Asked). asked.file) o ≡ Some file
        → option_map (λ (asked : Asked). asked.file) (slice_get (files ++ more) upload) ≡ Some file
    at upload None there is = absurd (cc)
    at upload (Some asked) there is = ap (option_map (λ (it : Asked). it.file))
        (place-more files more upload asked there) ∙ is

    by : (o : Option ℕ) → option_map (λ (asked : Asked). asked.file) (option_and_then (slice_get files) o) ≡ Some file
        → option_map (λ (asked : Asked). asked.file) (option_and_then (slice_get (files ++ more)) o) ≡ Some file
    by None is = is
    by (Some upload) is = at upload (slice_get files upload) refl is

-- the file of a task is that of its upload
pub task-file : (files : List Asked) (c : ℕ) (party : Party) (task : ℕ) (entry : Task)
    (it : IsTaskFor files c party task entry)
    → IsFileOf files party task it.asked.file
task-file files c party task entry it =
    ap (λ o. option_map (λ (asked : Asked). asked.file) (option_and_then (slice_get files) o)) it.is_upload
    ∙ ap (option_map (λ (asked : Asked). asked.file)) it.is_asked

-- and it was known, if the task is there
pub file-known : (files more : List Asked) (c : ℕ) (party : Party) (task : ℕ) (entry : Task) (file : List ℕ)
    → IsTaskFor files c party task entry
    → IsFileOf (files ++ more) party task file → IsFileOf files party task file
file-known files more c party task entry file it is =
    let here = task-file files c party task entry it in
    let more_is = file-more files more party task it.asked.file here in
    here ∙ sym more_is ∙ is

pub facts-longer : (store : Store) (files : List Asked) (c : ℕ) (party : Party) (asked : List Asked)
    → Stands files c party
    → HasFacts store files party → HasFacts store (files ++ asked) party
facts-longer store files c party asked stands facts = together store (files ++ asked) party
    (longer (apart store files party facts))
  where
    longer : HasFactsApart store files party → HasFactsApart store (files ++ asked) party
    longer parts = record {
      numbered = λ task number file has is.
          parts.numbered task number file has
          (file-known files asked c party task has.entry file (stands.tasks.each task has.entry has.is_entry) is);
      acknowledged = λ task number holds.
          let kept = parts.acknowledged task number holds in
          (kept.0, file-more files asked party task kept.0 kept.1, kept.2);
      attempts = parts.attempts;
      sides = parts.sides;
      got_front = parts.got_front;
      fetching = parts.fetching;
    }
