-- The facts of a client with a further upload of its own, whose task is noted.
use Rattle.std.proofs.Common.{◌≡◌, ◌⊎◌, ⊎_elim, ℕ, ◌-◌, List, [], ◌∷◌, ◌++◌, length, refl, ap, sym, ◌∙◌, arith, Option}
use Rattle.std.proofs.Common.{None, Some, inl, inr}
use Rattle.sha2.specs.Sha256.{sha256}
use Rattle.client_notes.specs.declared.answers.Noted.TheVariants as noted
use Rattle.air_world.proofs.files.Names.{slice_get, option_and_then, option_map, eqb_tells, Store, noted_as, new_task, Lists, Task, task_of, task-at, task-more, Asked, IsFileOf, Party, newest, upload_of, each-weaker, some-weaker, HasFacts, HasNumber, IsNumbered, HoldsAck, Stands}
use Rattle.air_world.proofs.files.ApartLemmas.{HasFactsApart, apart, together}
use Rattle.air_world.proofs.files.LongerLemmas.{acked-task, facts-longer, file-more, place-last, place-more, task-file}
use Rattle.air_world.proofs.files.LongerLemmas.{task-some}
use Rattle.air_world.proofs.files.NotedLemmas.{KeepsNoted, client-noted, fetches_by-noted, side-noted}

-- the task that is noted of the upload
abbrev pub task_for : Party → Asked → Task
task_for party it = new_task party.client.server party.client.me it.name (length it.file) (sha256 it.file)

-- the client once its task is noted; the upload is the one at this place
abbrev pub tasked : Party → ℕ → Asked → Party
tasked party place it =
    record party {
      client =
          record party.client {
            lists = record party.client.lists { tasks = party.client.lists.tasks ++ task_for party it ∷ [] };
          };
      uploads = party.uploads ++ place ∷ [];
    }

-- a task then is one that was there, or the new one
pub task-last : (lists : Lists) (last : Task) (task : ℕ) (entry : Task)
    → task_of (record lists { tasks = lists.tasks ++ last ∷ [] }) task ≡ Some entry
    → (task_of lists task ≡ Some entry) ⊎ (entry ≡ last)
task-last lists last task entry found =
    let now : Lists = record lists { tasks = lists.tasks ++ last ∷ [] } in
    ⊎_elim (λ there. inl (rw (task-some now task entry found) there)) (λ is. inr is)
    (place-last lists.tasks last (task - 1) entry (task-at now task entry found))

number-tasked : (party : Party) (place : ℕ) (it : Asked) (task number : ℕ) → HasNumber party task number
    → HasNumber (tasked party place it) task number
number-tasked party place it task number has = record {
  entry = has.entry;
  is_entry = task-more party.client.lists task (task_for party it ∷ []) has.entry has.is_entry;
  number_is = has.number_is;
  some = has.some;
}

-- the new task has no number
tasked-number : (party : Party) (place : ℕ) (it : Asked) (task number : ℕ)
    → HasNumber (tasked party place it) task number → HasNumber party task number
tasked-number party place it task number has =
    ⊎_elim (λ there. record { entry = has.entry; is_entry = there; number_is = has.number_is; some = has.some })
    (λ (new : has.entry ≡ task_for party it).
    let none : 0 ≡ number = sym (ap (λ (entry : Task). entry.number) new) ∙ has.number_is in
    absurd (let some = has.some in omega arith))
    (task-last party.client.lists (task_for party it) task has.entry has.is_entry)

-- and it isn't acknowledged
pub tasked-acked : (party : Party) (place : ℕ) (it : Asked) (task number : ℕ)
    → HoldsAck (tasked party place it) task number
    → HoldsAck party task number
tasked-acked party place it task number holds =
    let acked = acked-task (tasked party place it).client.lists task number holds in
    ⊎_elim (λ there. ap (option_map (noted_as task)) there ∙ ap Some acked.2)
    (λ (new : acked.0 ≡ task_for party it).
    absurd (let going : noted.Going task 0 ≡ noted.Acked task number = sym (ap (noted_as task) new)
    ∙ acked.2 in let x : ⊥ = cc in x))
    (task-last party.client.lists (task_for party it) task acked.0 acked.1)

-- the upload of a task that was there is the same
upload-tasked : (party : Party) (place : ℕ) (it : Asked) (task upload : ℕ) → upload_of party task ≡ Some upload
    → upload_of (tasked party place it) task ≡ Some upload
upload-tasked party place it task upload is = elim (eqb_tells task 0) [
  | inl w ↦ absurd (let none = rw w.0 at is in let x : ⊥ = cc in x)
  | inr w ↦ rw w.0 (place-more party.uploads (place ∷ []) (task - 1) upload (rw w.0 at is))
]

-- and so is its file
file-tasked : (files : List Asked) (party : Party) (place : ℕ) (it : Asked) (task : ℕ) (file : List ℕ)
    → IsFileOf files party task file
    → IsFileOf files (tasked party place it) task file
file-tasked files party place it task file is = by (upload_of party task) refl is
  where
    by : (o : Option ℕ) → upload_of party task ≡ o
        → option_map (λ (asked : Asked). asked.file) (option_and_then (slice_get files) o) ≡ Some file
        → IsFileOf files (tasked party place it) task file
    by None there is = absurd (cc)
    by (Some upload) there is =
        ap (λ o. option_map (λ (asked : Asked). asked.file) (option_and_then (slice_get files) o))
        (upload-tasked party place it task upload there) ∙ is

numbered-tasked : (store : Store) (files : List Asked) (c : ℕ) (party : Party) (place : ℕ) (it : Asked)
    (task number : ℕ) (file : List ℕ)
    → Stands files c party → HasFactsApart store (files ++ it ∷ []) party
    → HasNumber (tasked party place it) task number
    → IsFileOf (files ++ it ∷ []) (tasked party place it) task file
    → IsNumbered store (tasked party place it) task number file
numbered-tasked store files c party place it task number file stands parts has is =
    let old = tasked-number party place it task number has in
    let its = stands.tasks.each task old.entry old.is_entry in
    let here : IsFileOf (files ++ it ∷ []) party task its.asked.file =
    file-more files (it ∷ []) party task its.asked.file (task-file files c party task old.entry its) in
    let there = file-tasked (files ++ it ∷ []) party place it task its.asked.file here in
    let numbered = parts.numbered task number file old (here ∙ sym there ∙ is) in
    record { below = numbered.below; stands = numbered.stands; granted = numbered.granted }

pub facts-tasked : (store : Store) (files : List Asked) (c : ℕ) (party : Party) (it : Asked) → Stands files c party
    → HasFacts store files party
    → HasFacts store (files ++ it ∷ []) (tasked party (length files) it)
facts-tasked store files c party it stands facts =
    together store (files ++ it ∷ []) (tasked party (length files) it)
    (begun (apart store (files ++ it ∷ []) party (facts-longer store files c party (it ∷ []) stands facts)))
  where
    keeps : KeepsNoted party (tasked party (length files) it)
    keeps = record { me = refl; numbers = number-tasked party (length files) it; got_is = λ number. refl }

    begun : HasFactsApart store (files ++ it ∷ []) party
        → HasFactsApart store (files ++ it ∷ []) (tasked party (length files) it)
    begun parts = record {
      numbered = λ task number file has is. numbered-tasked store files c party
          (length files) it task number file stands parts has is;
      acknowledged = λ task number holds.
          let kept = parts.acknowledged task number (tasked-acked party (length files) it task number holds) in
          (kept.0, file-tasked (files ++ it ∷ []) party (length files) it task kept.0 kept.1, kept.2);
      attempts = each-weaker party.attempts (λ a. client-noted party
          (tasked party (length files) it) a keeps) parts.attempts;
      sides = each-weaker party.attempts
          (λ a. some-weaker a.server (λ side. side-noted store party
          (tasked party (length files) it) a side keeps)) parts.sides;
      got_front = parts.got_front;
      fetching = some-weaker (newest party)
          (λ a fetching link. fetches_by-noted a.client.attempted.job.ending a.client.attempted.job.work store party
          (tasked party (length files) it) a keeps
          (fetching link)) parts.fetching;
    }
