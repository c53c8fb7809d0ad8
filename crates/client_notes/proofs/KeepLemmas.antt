-- What commands keep of tasks and of got files.
use Rattle.std.proofs.Common.{◌≡◌, ℕ, zero, suc, ◌≤◌, ◌⊎◌, Bool, true, false, ◌&&◌, ◌==◌, List, [], ◌∷◌, ◌++◌, Option, None, Some, refl, ap, sym, ◌∙◌, subst, arith, inl, inr, append_assoc, append-nil}
use Rattle.std.specs.Prelude.{if◌then◌else◌}
use Rattle.client_notes.specs.Tasks.{GoesOn, IsGivenUp, KeepsTasks, TasksLaw, got_after}
use Rattle.client_notes.specs.declared.progress.Progress.TheVariants as progress
use Rattle.client_notes.proofs.Names.{IsTrue, find, slice_get, slice_set, nat_lt, position, option_or, and_parts, eqb-true, nat_tests, eqb_tells, find-append, position-Some, get_or_from_slice_get, bytes_eq-Decides, CallSign, IsFront, NotesCommand, acked, after, forgot, got, got_file, is_allowed, is_going, is_numbered, is_unnumbered, numbered, passes, refused, set_some, start, with_got, with_got_at, with_octets, with_task, without_got, AreAllowed, after_all, GotFile, Lists, Task, got_of, is_file_of, is_same_call, octets_or_none, task_of}
use Rattle.client_notes.proofs.GotLemmas.{forgot-none, got-append}
use Rattle.client_notes.proofs.TaskLemmas.{both-left, passed, task-after, task-more, task-other}

-- ---- tasks

stays : (task : Task) → GoesOn task task
stays task = record { same = refl; number = λ some. refl; over = λ over. refl }

goes-then : (old mid new : Task) → GoesOn old mid → GoesOn mid new → GoesOn old new
goes-then old mid new one two = record {
  same = two.same ∙ ap (λ (t : Task). record t { number = new.number; progress = new.progress }) one.same;
  number = λ some. two.number (subst (λ (n : ℕ). 1 ≤ n) (sym (one.number some)) some) ∙ one.number some;
  over = λ over.
      let same = one.over over in
      two.over (subst (λ (t : Task). is_going t.progress ≡ false) (sym same) over) ∙ same;
}

-- a task that is going on is changed so
changes : (lists : Lists) (task other : ℕ) (change : Task → Task) (test : Task → Bool) (old : Task) → IsTrue (passes test (task_of lists task))
    → ((t : Task) → IsTrue (test t) → GoesOn t (change t)) → task_of lists other ≡ Some old
    → (new : Task) × (task_of (with_task lists task change) other ≡ Some new) × GoesOn old new
changes lists task other change test old ok goes found =
    let there = passed test (task_of lists task) ok in
    elim (eqb_tells other task) [
      | inl w ↦
          let here : task_of lists task ≡ Some old = subst (λ (n : ℕ). task_of lists n ≡ Some old) w.1 found in
          let same : there.0 ≡ old = let is = there.1 in cc in (
            change old,
            subst (λ (n : ℕ). task_of (with_task lists task change) n ≡ Some (change old)) (sym w.1) (task-after lists task change old here),
            subst (λ (t : Task). GoesOn t (change t)) same (goes there.0 there.2),
          )
      | inr w ↦ (old, task-other lists task other change old there.0 there.1 w.1 found, stays old)
    ]

keeps : (lists : Lists) (command : NotesCommand) → IsTrue (is_allowed lists command) → KeepsTasks lists (after lists command)
keeps lists (start number server caller name file_length digest) ok task old found = (old, task-more lists task _ old found, stays old)
keeps lists (numbered t number) ok task old found =
    changes lists t task (λ e. record e { number = number }) is_unnumbered old (both-left (passes is_unnumbered (task_of lists t)) (nat_lt 0 number) ok)
    (λ e test. record {
      same = refl;
      number = λ some. absurd (let none = eqb-true e.number 0 (and_parts (is_going e.progress) (e.number == 0) test).1 in omega (arith, none, some));
      over = λ over. absurd (let going = both-left (is_going e.progress) (e.number == 0) test in let x : ⊥ = cc in x);
    }) found
keeps lists (acked t) ok task old found =
    changes lists t task (λ e. record e { progress = progress.Acked }) is_numbered old ok
    (λ e test. record {
      same = refl;
      number = λ some. refl;
      over = λ over. absurd (let going = both-left (is_going e.progress) (nat_lt 0 e.number) test in let x : ⊥ = cc in x);
    }) found
keeps lists (refused t code) ok task old found =
    changes lists t task (λ e. record e { progress = progress.Refused code }) (λ e. is_going e.progress) old ok
    (λ e going. record { same = refl; number = λ some. refl; over = λ over. absurd (let x : ⊥ = cc in x) }) found
keeps lists command ok task old found = (old, found, stays old)

keeps-all : (lists : Lists) (commands : List NotesCommand) → AreAllowed lists commands → KeepsTasks lists (after_all lists commands)
keeps-all lists [] ok task old found = (old, found, stays old)
keeps-all lists (command ∷ commands) ok task old found =
    let one = keeps lists command ok.0 task old found in
    let later = keeps-all (after lists command) commands ok.1 task one.0 one.1 in
    (later.0, later.1, goes-then old one.0 later.0 one.2 later.2)

-- ---- got files

abbrev call_of : List ℕ → ℕ → CallSign
call_of chars ssid = record { chars = chars; ssid = ssid }

same-call : (one other : CallSign) → is_same_call one other ≡ true → one ≡ other
same-call one other is =
    let both = and_parts _ _ is in
    let chars : one.chars ≡ other.chars = (bytes_eq-Decides one.chars other.chars).0 both.0 in
    let ssid : one.ssid ≡ other.ssid = eqb-true one.ssid other.ssid both.1 in
    ap (λ (c : List ℕ). call_of c one.ssid) chars ∙ ap (λ (n : ℕ). call_of other.chars n) ssid

-- a file that passes is of that server and number
its : (server : CallSign) (number : ℕ) (file : GotFile) → is_file_of server number file ≡ true → (file.server ≡ server) × (file.number ≡ number)
its server number file is =
    let both = and_parts _ _ is in
    (same-call file.server server both.0, eqb-true file.number number both.1)

-- where an element that doesn't pass takes the place of one that doesn't, the same is found
found-set : {X : Type 0} (p : X → Bool) (xs : List X) (i : ℕ) (x y : X) → slice_get xs i ≡ Some x → p x ≡ false → p y ≡ false
    → find p (slice_set xs i y) ≡ find p xs
found-set p [] i x y at none more = refl
found-set p (z ∷ zs) zero x y at none more = grind (arith, nat_tests)
found-set p (z ∷ zs) (suc i) x y at none more = grind (arith, nat_tests, found-set p zs i x y at none more)

or-none : {X : Type 0} (o : Option X) → option_or o None ≡ o
or-none None = refl
or-none (Some x) = refl

module _ (server : CallSign) (number : ℕ) (other : CallSign) (given : ℕ) (octets : List ℕ) (apart : is_file_of server number (got_file other given octets) ≡ false) where
  -- no file is both
  passes-one : (file : GotFile) → is_file_of other given file ≡ true → is_file_of server number file ≡ false
  passes-one file is =
      let e = its other given file is in
      ap (λ (s : CallSign). is_same_call s server && (file.number == number)) e.0
      ∙ ap (λ (n : ℕ). is_same_call other server && (n == number)) e.1 ∙ apart

  found-without : (files : List GotFile) → find (is_file_of server number) (without_got other given files) ≡ find (is_file_of server number) files
  found-without [] = refl
  found-without (file ∷ files) = grind (arith, nat_tests, passes-one file, found-without files)

  found-with : (files : List GotFile) → find (is_file_of server number) (with_got other given octets files) ≡ find (is_file_of server number) files
  found-with files = by (position (is_file_of other given) files) refl
    where
      there : (place : ℕ) (o : Option GotFile) → position (is_file_of other given) files ≡ Some place → slice_get files place ≡ o
          → find (is_file_of server number) (set_some (with_octets octets) files place o) ≡ find (is_file_of server number) files
      there place None at here = refl
      there place (Some file) at here =
          let is : is_file_of other given file ≡ true =
          ap (is_file_of other given) (sym (get_or_from_slice_get files place file file here)) ∙ (position-Some (is_file_of other given) files place file at).1 in
          found-set (is_file_of server number) files place file (with_octets octets file) here (passes-one file is) (passes-one (with_octets octets file) is)

      by : (o : Option ℕ) → position (is_file_of other given) files ≡ o
          → find (is_file_of server number) (with_got_at other given octets files o) ≡ find (is_file_of server number) files
      by None at =
          rw (find-append (is_file_of server number) files (got_file other given octets ∷ []), apart) (or-none (find (is_file_of server number) files))
      by (Some place) at = there place (slice_get files place) at refl

-- what a command makes of the octets got of a file
got-by : (lists : Lists) (command : NotesCommand) (server : CallSign) (number : ℕ)
    → got_of (after lists command) server number ≡ got_after server number (got_of lists server number) command
got-by lists (got other given more) server number = by (is_file_of server number (got_file other given more)) refl
  where
    old : List ℕ
    old = got_of lists server number

    by : (b : Bool) → is_file_of server number (got_file other given more) ≡ b
        → got_of (after lists (got other given more)) server number ≡ (if is_file_of server number (got_file other given more) then old ++ more else old)
    by true is =
        let e = its server number (got_file other given more) is in
        ap (λ (s : CallSign). got_of (after lists (got s given more)) server number) e.0
        ∙ ap (λ (n : ℕ). got_of (after lists (got server n more)) server number) e.1
        ∙ got-append lists server number more ∙ sym (ap (λ (b : Bool). if b then old ++ more else old) is)
    by false is =
        ap octets_or_none (found-with server number other given more is lists.got) ∙ sym (ap (λ (b : Bool). if b then old ++ more else old) is)
got-by lists (forgot other given) server number = by (is_file_of server number (got_file other given [])) refl
  where
    old : List ℕ
    old = got_of lists server number

    by : (b : Bool) → is_file_of server number (got_file other given []) ≡ b
        → got_of (after lists (forgot other given)) server number ≡ (if is_file_of server number (got_file other given []) then [] else old)
    by true is =
        let e = its server number (got_file other given []) is in
        ap (λ (s : CallSign). got_of (after lists (forgot s given)) server number) e.0
        ∙ ap (λ (n : ℕ). got_of (after lists (forgot server n)) server number) e.1
        ∙ forgot-none lists server number ∙ sym (ap (λ (b : Bool). if b then [] else old) is)
    by false is =
        ap octets_or_none (found-without server number other given [] is lists.got) ∙ sym (ap (λ (b : Bool). if b then [] else old) is)
got-by lists command server number = refl

whole : (octets : List ℕ) → IsFront octets octets
whole octets = ([], sym (append-nil octets))

-- the octets grow, or are given up
grown : (server : CallSign) (number : ℕ) (octets : List ℕ) (command : NotesCommand)
    → IsFront octets (got_after server number octets command) ⊎ (command ≡ forgot server number)
grown server number octets (got other given more) = by (is_file_of server number (got_file other given more))
  where
    by : (b : Bool) → IsFront octets (if b then octets ++ more else octets) ⊎ (got other given more ≡ forgot server number)
    by true = inl (more, refl)
    by false = inl (whole octets)
grown server number octets (forgot other given) = by (is_file_of server number (got_file other given [])) refl
  where
    by : (b : Bool) → is_file_of server number (got_file other given []) ≡ b
        → IsFront octets (if b then [] else octets) ⊎ (forgot other given ≡ forgot server number)
    by true is =
        let e = its server number (got_file other given []) is in
        inr (ap (λ (s : CallSign). forgot s given) e.0 ∙ ap (λ (n : ℕ). forgot server n) e.1)
    by false is = inl (whole octets)
grown server number octets command = inl (whole octets)

grows-all : (lists : Lists) (commands : List NotesCommand) (server : CallSign) (number : ℕ)
    → IsFront (got_of lists server number) (got_of (after_all lists commands) server number) ⊎ IsGivenUp server number commands
grows-all lists [] server number = inl (whole (got_of lists server number))
grows-all lists (command ∷ commands) server number =
    by (grown server number (got_of lists server number) command) (grows-all (after lists command) commands server number)
  where
    last : List ℕ
    last = got_of (after_all (after lists command) commands) server number

    by : IsFront (got_of lists server number) (got_after server number (got_of lists server number) command) ⊎ (command ≡ forgot server number)
        → IsFront (got_of (after lists command) server number) last ⊎ IsGivenUp server number commands
        → IsFront (got_of lists server number) last ⊎ IsGivenUp server number (command ∷ commands)
    by one (inr given) = inr (inr given)
    by (inr given) (inl later) = inr (inl given)
    by (inl one) (inl later) =
        inl (
          one.0 ++ later.0,
          later.1 ∙ ap (λ (os : List ℕ). os ++ later.0) (got-by lists command server number ∙ one.1) ∙ append_assoc (got_of lists server number) one.0 later.0,
        )

pub tasks_law : TasksLaw
tasks_law = record { tasks = keeps-all; got = got-by; grows = grows-all }
