-- The last unfinished upload of a client may be asked again.
use Rattle.std.proofs.Common.{◌≡◌, ℕ, ◌-◌, ◌<◌, List, [], length, reverse, get_or, refl, sym, ap, ◌∙◌, subst, arith}
use Rattle.std.proofs.Common.{Bool, true, Option, None, Some}
use Rattle.client_notes.specs.declared.progress.Progress.TheVariants as progress
use Rattle.ftl0_client_job.specs.declared.work.Work.TheVariants as work
use Rattle.air_world.proofs.Names.{position, option_map, get_or-reverse, length-reverse, position-Some, get_or_from_slice_get, same_Some, is_going, Lists, Task, task_count, task_of, Progress, task-at, Upload, new_upload, Asked, IsFileOf, Party, HasNumber, IsTaskFor, task-file, last_unfinished, IsParty, Sound, PartyAt, World}
use Rattle.air_world.proofs.AskOthers.{GoesOnWell, ask-again}
use Rattle.air_world.proofs.Asked.{MayBeAsked}

-- a task that is unfinished is so
going-is : (far : Progress) → is_going far ≡ true → far ≡ progress.Going
going-is progress.Going is = refl
going-is progress.Acked is = absurd (cc is)
going-is (progress.Refused code) is = absurd (cc is)

-- the last unfinished task is unfinished
last-going : (lists : Lists) (task : ℕ) (entry : Task) → last_unfinished lists ≡ Some task
    → task_of lists task ≡ Some entry → entry.progress ≡ progress.Going
last-going lists task entry last found = by (position unfinished (reverse lists.tasks)) refl last
  where
    unfinished : Task → Bool
    unfinished = λ task. is_going task.progress

    there : (place : ℕ) → task_count lists - place ≡ task → place < length lists.tasks
        → unfinished (get_or (reverse lists.tasks) place entry) ≡ true → entry.progress ≡ progress.Going
    there place same below passes =
        let before : length lists.tasks - 1 - place ≡ task - 1 = omega (arith, same, below) in
        let is : get_or (reverse lists.tasks) place entry ≡ entry =
        get_or-reverse lists.tasks place entry below ∙ ap (λ i. get_or lists.tasks i entry) before
        ∙ get_or_from_slice_get lists.tasks (task - 1) entry entry (task-at lists task entry found) in
        going-is entry.progress (sym (ap unfinished is) ∙ passes)

    by : (o : Option ℕ) → position unfinished (reverse lists.tasks) ≡ o
        → option_map (λ place. task_count lists - place) o ≡ Some task → entry.progress ≡ progress.Going
    by None at is = absurd (cc)
    by (Some place) at is =
        let found_at = position-Some unfinished (reverse lists.tasks) place entry at in
        there place (same_Some (task_count lists - place) task is)
        (subst (λ n. place < n) (length-reverse lists.tasks) found_at.0) found_at.1

-- a task has its file's length
has-length : (files : List Asked) (c : ℕ) (party : Party) (task : ℕ) (entry : Task) (file : List ℕ)
    → IsTaskFor files c party task entry → IsFileOf files party task file → entry.length ≡ length file
has-length files c party task entry file it is =
    it.length_is ∙ ap length (same_Some it.asked.file file (sym (task-file files c party task entry it) ∙ is))

-- an upload with a task's number goes on with the task
task-goes_on : (party : Party) (task : ℕ) (entry : Task) (file : List ℕ) → task_of party.client.lists task ≡ Some entry
    → GoesOnWell party (work.Upload (new_upload task entry.number file))
task-goes_on party task entry file is_entry other known that same some =
    let uploads : new_upload task entry.number file ≡ new_upload other known that = cc same in
    let task_is : task ≡ other = ap (λ (at : Upload). at.task) uploads in
    let number_is : entry.number ≡ known = ap (λ (at : Upload). at.known) uploads in
    subst (λ number. HasNumber party number known) task_is
    (record { entry = entry; is_entry = is_entry; number_is = number_is; some = some })

-- the last unfinished upload, with its number, if it has one
pub ask-resume : (old : World) (c : ℕ) (party : Party) (task : ℕ) (entry : Task) (file : List ℕ) → Sound old
    → PartyAt old c party → last_unfinished party.client.lists ≡ Some task
    → task_of party.client.lists task ≡ Some entry → IsFileOf old.files party task file
    → MayBeAsked old c party party [] (work.Upload (new_upload task entry.number file))
ask-resume old c party task entry file sound is last is_entry is_file =
    let it : IsParty old c party = sound.parties c party is in
    ask-again old c party (work.Upload (new_upload task entry.number file)) sound is refl
    (record {
      entry = entry;
      is_entry = is_entry;
      going = last-going party.client.lists task entry last is_entry;
      number = refl;
      file_length = has-length old.files c party task entry file (it.tasks.each task entry is_entry) is_file;
    })
    (task-goes_on party task entry file is_entry) is_file
