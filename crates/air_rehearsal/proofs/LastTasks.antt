-- The last task of a kind among a client's notes, found from the last one on.
use Rattle.std.proofs.Common.{◌≡◌, ℕ, ◌+◌, ◌-◌, ◌<◌, ◌≤◌, ◌==◌, length, get_or, reverse, Bool, true, false}
use Rattle.std.proofs.Common.{Option, None, Some, inl, inr, refl, sym, ap, subst, ◌∙◌, arith, ltb}
use Rattle.std.specs.List.{slice_get}
use Rattle.std.proofs.lemmas.List.Folds.{find_at}
use Rattle.client_notes.specs.declared.answers.Noted.{Noted}
use Rattle.client_notes.specs.declared.answers.Noted.TheVariants as noted
use Rattle.client_notes.specs.declared.progress.Progress.TheVariants as progress
use Rattle.air_world.specs.Attempts.Party.{Party}
use Rattle.air_world.proofs.files.Offered.{later-number}
use Rattle.air_rehearsal.proofs.Names.{find, position, position_or_len, option_map, both_ways, cases_lt, cond-false, cond-true, le-ltb, lt-ltb, ne_eqb, get_or-reverse, length-reverse, fails_before_first, passes_at_first, get_or_from_slice_get, none-some, same_Some, slice_get-get_or, slice_get_cases, slice_get_past, slice_get_within, noted_as, noted_at, noted_by, is_going, Lists, Task, task_count, task_of, Progress, last_unfinished, Sound, PartyAt, World, is_acked, last_acked, number_if_acked, number_if_going, IsLastGoing}

-- so many of the last tasks don't pass the test
abbrev pub NonePasses : (Progress → Bool) → Lists → ℕ → Type 0
NonePasses test lists back = back ≤ position_or_len (λ (task : Task). test task.progress) (reverse lists.tasks)

-- the task that is so far back
record IsBack (lists : Lists) (back : ℕ) : Type 0 where
  entry : Task
  at : slice_get (reverse lists.tasks) back ≡ Some entry
  task_is : task_of lists (task_count lists - back) ≡ Some entry

back-task : (lists : Lists) (back : ℕ) → back < task_count lists → IsBack lists back
back-task lists back within = elim (slice_get_cases (reverse lists.tasks) back).1 [
  | inl found ↦
      let place = length lists.tasks - 1 - back in
      let same : get_or lists.tasks place found.0 ≡ found.0 =
      sym (get_or-reverse lists.tasks back found.0 within) ∙ found.3 in
      let there : slice_get lists.tasks place ≡ Some found.0 =
      slice_get-get_or lists.tasks place found.0 (omega (arith, within)) ∙ ap Some same in
      record {
        entry = found.0;
        at = found.2;
        task_is =
            cond-false ((task_count lists - back) == 0) None (slice_get lists.tasks (task_count lists - back - 1))
            (ne_eqb (task_count lists - back) 0 (λ is. omega (arith, within, is)))
            ∙ ap (λ i. slice_get lists.tasks i)
            (let e : task_count lists - back - 1 ≡ place = omega arith in e)
            ∙ there;
      }
  | inr past ↦ absurd (omega (arith, past.0, within, length-reverse lists.tasks))
]

module _ (test : Progress → Bool) (lists : Lists) (back : ℕ) (none : NonePasses test lists back) where
  first : ℕ
  first = position_or_len (λ (task : Task). test task.progress) (reverse lists.tasks)

  at-first : (it : IsBack lists back) → first ≡ back → test it.entry.progress ≡ true
  unfolding first
  at-first it is =
      let here = slice_get_within (reverse lists.tasks) back it.entry it.at in
      ap (λ (task : Task). test task.progress)
      (sym (get_or_from_slice_get (reverse lists.tasks) back it.entry it.entry it.at))
      ∙ ap (λ i. test (get_or (reverse lists.tasks) i it.entry).progress) (sym is)
      ∙ passes_at_first (λ (task : Task). test task.progress) (reverse lists.tasks) it.entry
      (omega (arith, is, here))

  -- one more doesn't pass
  more-none : (it : IsBack lists back) → test it.entry.progress ≡ false → NonePasses test lists (back + 1)
  unfolding first
  more-none it fails = elim (cases_lt back first) [
    | inl less ↦ omega (arith, less)
    | inr no_more ↦
        absurd (both_ways (test it.entry.progress) fails (at-first it (omega (arith, none, no_more))))
  ]

  -- or it is the one that is found
  found-first : (it : IsBack lists back) → test it.entry.progress ≡ true → first ≡ back
  unfolding first
  found-first it is = elim (cases_lt back first) [
    | inl less ↦
        absurd
        (both_ways (test it.entry.progress)
        (ap (λ (task : Task). test task.progress)
        (sym (get_or_from_slice_get (reverse lists.tasks) back it.entry it.entry it.at))
        ∙ fails_before_first (λ (task : Task). test task.progress) (reverse lists.tasks) back it.entry less) is)
    | inr no_more ↦ omega (arith, none, no_more)
  ]

  found-position :
      (it : IsBack lists back) → test it.entry.progress ≡ true
      → position (λ (task : Task). test task.progress) (reverse lists.tasks) ≡ Some back
  unfolding first
  found-position it is =
      let here = slice_get_within (reverse lists.tasks) back it.entry it.at in
      let at = found-first it is in
      cond-true (ltb first (length (reverse lists.tasks))) (Some first) None
      (lt-ltb first (length (reverse lists.tasks)) (omega (arith, here, at)))
      ∙ ap Some at

  found-find :
      (it : IsBack lists back) → test it.entry.progress ≡ true
      → find (λ (task : Task). test task.progress) (reverse lists.tasks) ≡ Some it.entry
  unfolding first
  found-find it is =
      find_at (λ (task : Task). test task.progress) (reverse lists.tasks)
      ∙ ap (λ i. slice_get (reverse lists.tasks) i) (found-first it is)
      ∙ it.at

module _ (test : Progress → Bool) (lists : Lists) (none : NonePasses test lists (task_count lists)) where
  none-position : position (λ (task : Task). test task.progress) (reverse lists.tasks) ≡ None
  none-position =
      cond-false
      (ltb (position_or_len (λ (task : Task). test task.progress) (reverse lists.tasks)) (length (reverse lists.tasks)))
      (Some (position_or_len (λ (task : Task). test task.progress) (reverse lists.tasks))) None
      (le-ltb _ _ (omega (arith, none, length-reverse lists.tasks)))

  none-find : find (λ (task : Task). test task.progress) (reverse lists.tasks) ≡ None
  none-find =
      find_at (λ (task : Task). test task.progress) (reverse lists.tasks)
      ∙ slice_get_past (reverse lists.tasks) _ (omega (arith, none, length-reverse lists.tasks))

-- ---- what is told of a task

-- a number is told of a task that passes the test, and of no other one
record Tells (test : Progress → Bool) (entry : Task) (answer : Option ℕ) : Type 0 where
  some : (number : ℕ) → answer ≡ Some number → (test entry.progress ≡ true) × (number ≡ entry.number)
  none : answer ≡ None → test entry.progress ≡ false

going-tells : (task : ℕ) (entry : Task) → Tells is_going entry (number_if_going (Some (noted_as task entry)))
going-tells task entry =
    record {
      some = λ number is. by-some entry.progress number is;
      none = λ is. by-none entry.progress is;
    }
  where
    by-some :
        (progress : Progress) (number : ℕ)
        → number_if_going (Some (noted_by task entry.number progress)) ≡ Some number
        → (is_going progress ≡ true) × (number ≡ entry.number)
    by-some progress.Going number is = (refl, cc)
    by-some progress.Acked number is = cc
    by-some (progress.Refused code) number is = cc

    by-none : (progress : Progress) → number_if_going (Some (noted_by task entry.number progress)) ≡ None
        → is_going progress ≡ false
    by-none progress.Going is = cc
    by-none progress.Acked is = refl
    by-none (progress.Refused code) is = refl

acked-tells : (task : ℕ) (entry : Task) → Tells is_acked entry (number_if_acked (Some (noted_as task entry)))
acked-tells task entry =
    record {
      some = λ number is. by-some entry.progress number is;
      none = λ is. by-none entry.progress is;
    }
  where
    by-some :
        (progress : Progress) (number : ℕ)
        → number_if_acked (Some (noted_by task entry.number progress)) ≡ Some number
        → (is_acked progress ≡ true) × (number ≡ entry.number)
    by-some progress.Going number is = cc
    by-some progress.Acked number is = (refl, cc)
    by-some (progress.Refused code) number is = cc

    by-none : (progress : Progress) → number_if_acked (Some (noted_by task entry.number progress)) ≡ None
        → is_acked progress ≡ false
    by-none progress.Going is = refl
    by-none progress.Acked is = cc
    by-none (progress.Refused code) is = refl

-- ---- from the last task on

module _ (lists : Lists) (back : ℕ) (within : back < task_count lists) where
  it : IsBack lists back
  it = back-task lists back within

  told-of :
      (tell : Option Noted → Option ℕ) (answer : Option ℕ)
      → answer ≡ tell (noted_at lists (task_count lists - back))
      → answer ≡ tell (Some (noted_as (task_count lists - back) it.entry))
  told-of tell answer is = is ∙ ap (λ o. tell (option_map (noted_as (task_count lists - back)) o)) it.task_is

  going :
      (answer : Option ℕ) → answer ≡ number_if_going (noted_at lists (task_count lists - back))
      → Tells is_going it.entry answer
  going answer is =
      subst (Tells is_going it.entry) (sym (told-of number_if_going answer is))
      (going-tells (task_count lists - back) it.entry)

  acked :
      (answer : Option ℕ) → answer ≡ number_if_acked (noted_at lists (task_count lists - back))
      → Tells is_acked it.entry answer
  acked answer is =
      subst (Tells is_acked it.entry) (sym (told-of number_if_acked answer is))
      (acked-tells (task_count lists - back) it.entry)

  module _ (none : NonePasses is_going lists back) where
    pub going-found :
        (number : ℕ) → Some number ≡ number_if_going (noted_at lists (task_count lists - back))
        → IsLastGoing lists (Some (task_count lists - back, number))
    going-found number is =
        let found = (going (Some number) is).some number refl in (
          ap (option_map (λ place. task_count lists - place)) (found-position is_going lists back none it found.0),
          (it.entry, it.task_is, found.1),
        )

    pub going-more :
        None ≡ number_if_going (noted_at lists (task_count lists - back)) → NonePasses is_going lists (back + 1)
    going-more is = more-none is_going lists back none it ((going None is).none refl)

  module _ (none : NonePasses is_acked lists back) where
    pub acked-found :
        (number : ℕ) → Some number ≡ number_if_acked (noted_at lists (task_count lists - back))
        → Some number ≡ last_acked lists
    acked-found number is =
        let found = (acked (Some number) is).some number refl in
        ap Some found.1
        ∙ ap (option_map (λ (task : Task). task.number)) (sym (found-find is_acked lists back none it found.0))

    pub acked-more :
        None ≡ number_if_acked (noted_at lists (task_count lists - back)) → NonePasses is_acked lists (back + 1)
    acked-more is = more-none is_acked lists back none it ((acked None is).none refl)

-- where none of them passes there is none
pub none-going :
    (lists : Lists) (back : ℕ) → task_count lists ≤ back → NonePasses is_going lists back
    → last_unfinished lists ≡ None
none-going lists back all none =
    ap (option_map (λ place. task_count lists - place)) (none-position is_going lists (omega (arith, all, none)))

pub none-acked :
    (lists : Lists) (back : ℕ) → task_count lists ≤ back → NonePasses is_acked lists back
    → None ≡ last_acked lists
none-acked lists back all none =
    ap (option_map (λ (task : Task). task.number)) (sym (none-find is_acked lists (omega (arith, all, none))))

-- ---- what is acknowledged

acked-is :
    (task number given : ℕ) (p : Progress) → Some number ≡ number_if_acked (Some (noted_by task given p))
    → Some (noted_by task given p) ≡ Some (noted.Acked task number)
acked-is task number given progress.Going is = absurd (none-some number (sym is))
acked-is task number given progress.Acked is =
    ap (λ (n : ℕ). Some (noted.Acked task n)) (sym (same_Some number given is))
acked-is task number given (progress.Refused code) is = absurd (none-some number (sym is))

acked-of :
    (task number : ℕ) (o : Option Task) → Some number ≡ number_if_acked (option_map (noted_as task) o)
    → option_map (noted_as task) o ≡ Some (noted.Acked task number)
acked-of task number None is = absurd (none-some number (sym is))
acked-of task number (Some entry) is = acked-is task number entry.number entry.progress is

-- a number under which a file was acknowledged is none of no file
pub acked-some :
    (world : World) (c : ℕ) (party : Party) (task number : ℕ) → Sound world → PartyAt world c party
    → Some number ≡ number_if_acked (noted_at party.client.lists task) → 1 ≤ number
acked-some world c party task number sound at is =
    let kept =
    (sound.parties c party at).facts.tasks.acknowledged task number
    (acked-of task number (task_of party.client.lists task) is) in
    later-number number 1 world.server.store.next world.server.store.entries kept.2.entry
    sound.store.is_store.entries kept.2.is_entry
