-- What lists of commands make, one after another, and what images stand for while they are done.
use Rattle.std.proofs.Common.{◌≡◌, ◌⊎◌, inl, inr, ⊎_elim, ℕ, ◌+◌, ◌-◌, ◌<◌, ◌≤◌, nat_le, true, false, List, [], ◌∷◌, ◌++◌, length, take, drop, refl, sym, ◌∙◌, ap, subst, arith, length-append, zero, suc, ◌≢◌, min, Option, Some, IfSome}
use Rattle.std.proofs.lemmas.Option.{slice_get_within}
use Rattle.file_journal.proofs.Names.{common_steps, leb_tells, take-append-drop, take-append-le, take-take, take_all, take-append-add, LeavesOnly, Ghosts, AreAllowed, MakesBetween, MakesFirst, StayDone, after_all, after_first, calls_of, done_at, Form, StandsFor, slice_get, cases_lt, LeavesSince, octets_of, HasRoomFor, IsCut, KeptOn, Paces, half_end, rewriting_calls, HasRoom, IsSameJournal, MovesOn, Position, Layout, told_weaker, Halves, Growing, InBlocks}

-- a list of no length
pub nothing : {C : Type 0} (commands : List C) → length commands ≡ 0 → commands ≡ []
nothing x0 is = grind (arith, common_steps)

module _ {S C : Type 0} (after : S → C → S) where
  pub after_all_append : (a b : List C) (start : S) → after_all after start (a ++ b) ≡ after_all after (after_all after start a) b
  after_all_append [] b start = refl
  after_all_append (command ∷ a) b start = after_all_append a b (after start command)

  module _ (allowed : S → C → Type 0) where
    pub allowed_append : (a b : List C) (start : S) → AreAllowed allowed after start a → AreAllowed allowed after (after_all after start a) b → AreAllowed allowed after start (a ++ b)
    allowed_append [] b start first second = second
    allowed_append (command ∷ a) b start first second = (first.0, allowed_append a b (after start command) first.1 second)

    -- of lists that are allowed one behind the other the first is, and the second is in the state after that
    pub allowed_split : (a b : List C) (start : S) → AreAllowed allowed after start (a ++ b)
        → AreAllowed allowed after start a × AreAllowed allowed after (after_all after start a) b
    allowed_split [] b start both = (tt, both)
    allowed_split (command ∷ a) b start both =
        let rest = allowed_split a b (after start command) both.1 in ((both.0, rest.0), rest.1)

    -- the first so many of commands that are allowed are
    pub allowed_first : (count : ℕ) (commands : List C) (start : S) → AreAllowed allowed after start commands
        → AreAllowed allowed after start (take count commands)
    allowed_first zero commands start all = tt
    allowed_first (suc count) [] start all = tt
    allowed_first (suc count) (command ∷ commands) start all =
        (all.0, allowed_first count commands (after start command) all.1)

module _ {S C : Type 0} (form : Form S C) where
  -- the first of two lists of commands, within the first list
  pub first_append : (count : ℕ) (a b : List C) (start : S) → count ≤ length a → after_first form count start (a ++ b) ≡ after_first form count start a
  first_append count a b start few = ap (after_all form.after start) (take-append-le count a b few)

  -- and past it
  pub first_then : (count : ℕ) (a b : List C) (start : S) → after_first form (length a + count) start (a ++ b) ≡ after_first form count (after_all form.after start a) b
  first_then count a b start = ap (after_all form.after start) (take-append-add a b count) ∙ after_all_append form.after a (take count b) start

  pub first_all : (commands : List C) (start : S) → after_first form (length commands) start commands ≡ after_all form.after start commands
  first_all commands start = ap (after_all form.after start) (take_all (length commands) commands (omega arith))

  -- ---- how many calls of the disk they take

  pub calls_append : (a b : List C) → calls_of form (a ++ b) ≡ calls_of form a + calls_of form b
  calls_append [] b = omega arith
  calls_append (command ∷ a) b = omega (arith, calls_append a b)

  pub calls_first : (count : ℕ) (commands : List C) → calls_of form (take count commands) ≤ calls_of form commands
  calls_first count commands =
      omega (arith, ap (calls_of form) (take-append-drop count commands), calls_append (take count commands) (drop count commands))

  -- commands of one record each

  -- ---- and when they are done

  pub at_all : (start : ℕ) (commands : List C) → done_at form start commands (length commands) ≡ start + calls_of form commands
  at_all start commands = ap (λ (cs : List C). start + calls_of form cs) (take_all (length commands) commands (omega arith))

  -- the first so many are done no later than more of them
  pub at_some : (start count more : ℕ) (commands : List C) → count ≤ more → done_at form start commands count ≤ done_at form start commands more
  at_some start count more commands few =
      omega (arith, ap (calls_of form) (take-take count more commands few), calls_first count (take more commands))

  -- the first of two lists of commands, within the first list
  pub at_first : (start count : ℕ) (a b : List C) → count ≤ length a → done_at form start (a ++ b) count ≡ done_at form start a count
  at_first start count a b few = ap (λ (cs : List C). start + calls_of form cs) (take-append-le count a b few)

  -- and past the first list, since that was done
  pub at_later : (start middle count : ℕ) (a b : List C) → middle ≡ done_at form start a (length a) → done_at form start (a ++ b) (length a + count) ≡ done_at form middle b count
  at_later start middle count a b then = grind (arith, common_steps, at_all, take-append-add, calls_append)

  -- ---- what images stand for

  -- what stands for the state stands for it after none of the commands
  pub makes_none : (start : S) (commands : List C) (image : List ℕ) → StandsFor form start image → MakesFirst form start commands image
  makes_none start commands image stands = (0, omega arith, omega arith, stands)

  pub makes_one : (start : S) (command : C) (image : List ℕ) → StandsFor form start image ⊎ StandsFor form (form.after start command) image → MakesBetween form 0 1 start (command ∷ []) image
  makes_one start command image (inl before) = (0, omega arith, omega arith, before)
  makes_one start command image (inr now) = (1, omega arith, omega arith, now)

  pub makes_first : (low high : ℕ) (start : S) (a b : List C) (image : List ℕ) → high ≤ length a → MakesBetween form low high start a image → MakesBetween form low high start (a ++ b) image
  makes_first low high start a b image most makes =
      (makes.0, makes.1, makes.2, subst (λ (s : S). StandsFor form s image) (sym (first_append makes.0 a b start (omega (arith, makes.2, most)))) makes.3)

  -- with wider bounds
  pub makes_within : (low high least most : ℕ) (start : S) (commands : List C) (image : List ℕ) → least ≤ low → high ≤ most → MakesBetween form low high start commands image
      → MakesBetween form least most start commands image
  makes_within low high least most start commands image below above makes = (makes.0, omega (arith, makes.1, below), omega (arith, makes.2, above), makes.3)

  pub makes_second : (low high least most : ℕ) (start middle : S) (a b : List C) (image : List ℕ) → middle ≡ after_all form.after start a → least ≤ length a + low → length a + high ≤ most
      → MakesBetween form low high middle b image → MakesBetween form least most start (a ++ b) image
  makes_second low high least most start middle a b image at below above makes = (
    length a + makes.0,
    omega (arith, makes.1, below),
    omega (arith, makes.2, above),
    subst (λ (s : S). StandsFor form s image) (ap (λ (s : S). after_first form makes.0 s b) at ∙ sym (first_then makes.0 a b start)) makes.3,
  )

  -- the first list's images are those of both
  pub makes_longer : (start : S) (a b : List C) (image : List ℕ) → MakesFirst form start a image → MakesFirst form start (a ++ b) image
  makes_longer start a b image here =
      makes_within 0 (length a) 0 (length (a ++ b)) start (a ++ b) image (omega arith) (omega (arith, length-append a b)) (makes_first 0 (length a) start a b image (omega arith) here)

  -- and so are the second's
  pub makes_later : (start middle : S) (a b : List C) (image : List ℕ) → middle ≡ after_all form.after start a → MakesFirst form middle b image → MakesFirst form start (a ++ b) image
  makes_later start middle a b image at here = makes_second 0 (length b) 0 (length (a ++ b)) start middle a b image at (omega arith) (omega (arith, length-append a b)) here

  module _ {D : Type 0} (g : Ghosts D) where
    -- no command is done yet
    pub stay_none : (time : ℕ → ℕ) (start : S) (commands : List C) (disk : D) → StayDone g form time 0 start commands disk
    stay_none time start commands disk count some most = absurd (omega (arith, some, most))

    -- with further commands behind them, where those are done when they were
    pub stay_by_longer : (time once : ℕ → ℕ) (done : ℕ) (start : S) (a b : List C) (disk : D) → ((count : ℕ) → count ≤ length a → time count ≡ once count) → done ≤ length a → StayDone g form once done start a disk
        → StayDone g form time done start (a ++ b) disk
    stay_by_longer time once done start a b disk early few stay count some most image left =
        makes_within count (length a) count (length (a ++ b)) start (a ++ b) image (omega arith) (omega (arith, length-append a b))
        (makes_first count (length a) start a b image (omega arith) (stay count some most image (subst (λ (t : ℕ). g.images_since disk t image) (early count (omega (arith, few, most))) left)))

    -- Since so many of the first are done: what might have been left before the second began, or what they leave; and since
    -- so many of the second are done, they all stay.
    pub stay_by_then : (time once again : ℕ → ℕ) (done : ℕ) (start middle : S) (a b : List C) (mid disk : D) → middle ≡ after_all form.after start a → ((count : ℕ) → count ≤ length a → time count ≡ once count)
        → ((count : ℕ) → count ≤ done → time (length a + count) ≡ again count) → ((count : ℕ) → count ≤ length a → once count ≤ g.moment mid)
        → StayDone g form once (length a) start a mid → LeavesOnly g.moment g.images_since mid disk (MakesFirst form middle b)
        → StayDone g form again done middle b disk → StayDone g form time (length a + done) start (a ++ b) disk
    stay_by_then time once again done start middle a b mid disk at early late before first leaves second count some most image left =
        let sum : length (a ++ b) ≡ length a + length b = length-append a b in
        ⊎_elim
        (λ (w : (nat_le count (length a) ≡ true) × (count ≤ length a)).
        let few = w.1 in
        ⊎_elim
        (λ was. makes_within count (length a) count (length (a ++ b)) start (a ++ b) image (omega arith) (omega (arith, sum)) (makes_first count (length a) start a b image (omega arith) (first count some few image was)))
        (λ here. makes_second 0 (length b) count (length (a ++ b)) start middle a b image at (omega (arith, few)) (omega (arith, sum)) here)
        (leaves.each (once count) image (before count few) (subst (λ (t : ℕ). g.images_since disk t image) (early count few) left)))
        (λ (w : (nat_le count (length a) ≡ false) × (length a < count)).
        let more = w.1 in
        let behind : length a + (count - length a) ≡ count = omega (arith, more) in
        makes_second (count - length a) (length b) count (length (a ++ b)) start middle a b image at (omega (arith, more)) (omega (arith, sum))
        (second (count - length a) (omega (arith, more)) (omega (arith, more, most)) image (subst (λ (t : ℕ). g.images_since disk t image) (ap time (sym behind) ∙ late (count - length a) (omega (arith, more, most))) left)))
        (leb_tells count (length a))

-- ---- when commands are done that come one behind another, and the room of their records

-- ---- room

module _ {S C : Type 0} (form : Form S C) where
  -- there is room for any record where there is but one half, which has no end
  pub room_always : (journal : Position) (commands : List C) → form.layout ≢ Halves → HasRoomFor form journal commands
  room_always journal commands one = by form.layout one
    where
      by : (l : Layout) → l ≢ Halves → IfSome (half_end l journal.blocks journal.half) (λ end. journal.place + 1 + octets_of form commands ≤ end)
      by Growing one = tt
      by InBlocks one = tt
      by Halves one = absurd (one refl)

  -- room in a journal of the form's layout
  pub room_of : (journal : Position) (commands : List C) → journal.layout ≡ form.layout → HasRoomFor form journal commands → HasRoom journal (octets_of form commands)
  room_of journal commands same has =
      subst (λ (l : Layout). IfSome (half_end l journal.blocks journal.half) (λ end. journal.place + 1 + octets_of form commands ≤ end)) (sym same) has

  pub octets_append : (a b : List C) → octets_of form (a ++ b) ≡ octets_of form a + octets_of form b
  octets_append [] b = omega arith
  octets_append (command ∷ a) b = omega (arith, octets_append a b)

  -- room for the first so many of commands
  pub room_some : (journal : Position) (commands : List C) (count : ℕ) → HasRoomFor form journal commands → HasRoomFor form journal (take count commands)
  room_some journal commands count has =
      told_weaker (half_end form.layout journal.blocks journal.half) _ _ (λ end is room. omega (arith, room, octets_append (take count commands) (drop count commands), ap (octets_of form) (take-append-drop count commands))) has

  -- room for the first of two lists of commands
  pub room_first : (journal : Position) (a b : List C) → HasRoomFor form journal (a ++ b) → HasRoomFor form journal a
  room_first journal a b has =
      told_weaker (half_end form.layout journal.blocks journal.half) _ _ (λ end is room. omega (arith, room, octets_append a b)) has

  -- and for the second, behind the records of the first
  pub room_behind : (old new : Position) (a b : List C) → IsSameJournal old new → MovesOn (octets_of form a) old new → HasRoomFor form old (a ++ b) → HasRoomFor form new b
  room_behind old new a b same moves has =
      let end : half_end form.layout new.blocks new.half ≡ half_end form.layout old.blocks old.half =
      ap (λ (p : Position). half_end form.layout p.blocks new.half) same.same ∙ ap (half_end form.layout old.blocks) moves.half in
      subst (λ (e : Option ℕ). IfSome e (λ n. new.place + 1 + octets_of form b ≤ n)) (sym end)
      (told_weaker (half_end form.layout old.blocks old.half) _ _ (λ end is room. omega (arith, room, moves.place, octets_append a b)) has)

-- ---- times

-- the element at a place of a list that another follows, and of the other
get_first : {X : Type 0} (xs ys : List X) (i : ℕ) → i < length xs → slice_get (xs ++ ys) i ≡ slice_get xs i
get_first [] ys i few = absurd (omega (arith, few))
get_first (x ∷ xs) ys zero few = refl
get_first (x ∷ xs) ys (suc i) few = get_first xs ys i (omega (arith, few))

get_behind : {X : Type 0} (xs ys : List X) (i : ℕ) → slice_get (xs ++ ys) (length xs + i) ≡ slice_get ys i
get_behind [] ys i = ap (slice_get ys) (omega arith)
get_behind (x ∷ xs) ys i = ap (slice_get (x ∷ (xs ++ ys))) (let one : suc (length xs) + i ≡ suc (length xs + i) = omega arith in one) ∙ get_behind xs ys i

module _ {S C : Type 0} (form : Form S C) where
  -- each command takes its calls at least
  abbrev pub Rises : (ℕ → ℕ) → List C → Type 0
  Rises time commands = (count : ℕ) (command : C) → slice_get commands count ≡ Some command → time count + form.calls command ≤ time (count + 1)

  -- and at most so many more
  abbrev pub TakesNoMore : ℕ → (ℕ → ℕ) → List C → Type 0
  TakesNoMore more time commands = (count : ℕ) (command : C) → slice_get commands count ≡ Some command → time (count + 1) ≤ time count + form.calls command + more

  rises_behind : (first : C) (commands : List C) (time : ℕ → ℕ) → Rises time (first ∷ commands) → Rises (λ n. time (suc n)) commands
  rises_behind first commands time rises count command got =
      subst (λ (n : ℕ). time (suc count) + form.calls command ≤ time n) (let one : suc count + 1 ≡ suc (count + 1) = omega arith in one) (rises (suc count) command got)

  -- so time doesn't go back
  pub rises_from : (commands : List C) (time : ℕ → ℕ) → Rises time commands → (count : ℕ) → count ≤ length commands → time 0 ≤ time count
  rises_from commands time rises zero few = omega arith
  rises_from [] time rises (suc count) few = absurd (omega (arith, few))
  rises_from (command ∷ commands) time rises (suc count) few =
      omega (arith, rises 0 command refl, rises_from commands (λ n. time (suc n)) (rises_behind command commands time rises) count (omega (arith, few)))

  -- and each number of them takes its calls at least
  pub rises_calls : (commands : List C) (time : ℕ → ℕ) → Rises time commands → (count : ℕ) → count ≤ length commands → done_at form (time 0) commands count ≤ time count
  rises_calls commands time rises zero few = omega arith
  rises_calls [] time rises (suc count) few = absurd (omega (arith, few))
  rises_calls (command ∷ commands) time rises (suc count) few =
      omega (arith, rises 0 command refl, rises_calls commands (λ n. time (suc n)) (rises_behind command commands time rises) count (omega (arith, few)))

  pub rises_all : (commands : List C) (time : ℕ → ℕ) → Rises time commands → (count more : ℕ) → count ≤ more → more ≤ length commands → time count ≤ time more
  rises_all commands time rises zero more few most = rises_from commands time rises more most
  rises_all commands time rises (suc count) zero few most = absurd (omega (arith, few))
  rises_all [] time rises (suc count) (suc more) few most = absurd (omega (arith, most))
  rises_all (command ∷ commands) time rises (suc count) (suc more) few most =
      rises_all commands (λ n. time (suc n)) (rises_behind command commands time rises) count more (omega (arith, few)) (omega (arith, most))

  -- commands that take exactly their calls
  exact_step : (start : ℕ) (commands : List C) (count : ℕ) (command : C) → slice_get commands count ≡ Some command → done_at form start commands (count + 1) ≡ done_at form start commands count + form.calls command
  exact_step start [] count command got = absurd (cc got)
  exact_step start (first ∷ commands) zero command got = let same : first ≡ command = cc got in omega (arith, ap form.calls same)
  exact_step start (first ∷ commands) (suc count) command got =
      let one : suc count + 1 ≡ suc (count + 1) = omega arith in
      omega (arith, exact_step start commands count command got, ap (λ (n : ℕ). calls_of form (take n (first ∷ commands))) one)

  pub exact_rises : (start : ℕ) (commands : List C) → Rises (done_at form start commands) commands
  exact_rises start commands count command got = omega (arith, exact_step start commands count command got)

  -- times at which each command takes exactly its calls
  pub paces_exactly : (journal : Position) (start : ℕ) (commands : List C) → Paces form journal start commands (done_at form start commands)
  paces_exactly journal start commands = record {
    starts = omega arith;
    rises = exact_rises start commands;
    most = λ count command got. omega (arith, exact_step start commands count command got);
    exact = λ count few room. refl;
  }

  -- commands take exactly the calls of the disk that their form says where there is but one half
  pub paced_always : (journal : Position) (start : ℕ) (commands : List C) (time : ℕ → ℕ) → form.layout ≢ Halves → Paces form journal start commands time
      → (count : ℕ) → count ≤ length commands → time count ≡ done_at form start commands count
  paced_always journal start commands time one paces count few = paces.exact count few (room_always form journal (take count commands) one)

-- When commands are done and then others, whose time begins at this moment.
abbrev pub then_time : (ℕ → ℕ) → (ℕ → ℕ) → ℕ → ℕ → ℕ → ℕ
then_time once again first middle count = once (min count first) + (again (count - first) - middle)

module _ {S C : Type 0} (form : Form S C) (a b : List C) (once again : ℕ → ℕ) (middle : ℕ) (starts : again 0 ≡ middle) where
  abbrev time : ℕ → ℕ
  time = then_time once again (length a) middle

  pub then_early : (count : ℕ) → count ≤ length a → time count ≡ once count
  then_early count few = grind (arith, common_steps)

  pub then_late : (count : ℕ) → time (length a + count) ≡ once (length a) + (again count - middle)
  then_late count = grind (arith, common_steps)

  -- Each takes what it takes by itself; and exactly its calls where there is room for the records up to its own, if the
  -- second ones do behind the first.
  module _ (journal : Position) (start : ℕ) (first : Paces form journal start a once) (rises : Rises form again b) (most : TakesNoMore form (rewriting_calls journal.blocks) again b)
      (exact : (count : ℕ) → count ≤ length b → HasRoomFor form journal (a ++ take count b) → again count ≡ done_at form middle b count) where
    abbrev Step : ℕ → C → Type 0
    Step count command = (time count + form.calls command ≤ time (count + 1)) × (time (count + 1) ≤ time count + form.calls command + rewriting_calls journal.blocks)

    then_step : (count : ℕ) (command : C) → slice_get (a ++ b) count ≡ Some command → Step count command
    then_step count command got = elim (cases_lt count (length a)) [
      | inl few ↦
          let there = sym (get_first a b count few) ∙ got in
          let one = then_early count (omega (arith, few)) in
          let two = then_early (count + 1) (omega (arith, few)) in
          (omega (arith, first.rises count command there, one, two), omega (arith, first.most count command there, one, two))
      | inr past ↦
          let i = count - length a in
          let at : length a + i ≡ count = omega (arith, past) in
          let next : length a + (i + 1) ≡ count + 1 = omega (arith, past) in
          let there : slice_get b i ≡ Some command = sym (get_behind a b i) ∙ ap (slice_get (a ++ b)) at ∙ got in
          let later = rises_all form b again rises 0 i (omega arith) (omega (arith, slice_get_within b i command there)) in
          let one : time count ≡ time (length a + i) = ap time (sym at) in
          let two : time (count + 1) ≡ time (length a + (i + 1)) = ap time (sym next) in
          let least = rises i command there in
          (omega (arith, one, two, then_late i, then_late (i + 1), least, later, starts), omega (arith, one, two, then_late i, then_late (i + 1), least, most i command there, later, starts))
    ]

    then_exact : (count : ℕ) → count ≤ length (a ++ b) → HasRoomFor form journal (take count (a ++ b)) → time count ≡ done_at form start (a ++ b) count
    then_exact count within room = elim (cases_lt count (length a)) [
      | inl few ↦
          then_early count (omega (arith, few)) ∙ first.exact count (omega (arith, few)) (subst (HasRoomFor form journal) (take-append-le count a b (omega (arith, few))) room)
          ∙ sym (at_first form start count a b (omega (arith, few)))
      | inr past ↦
          let i = count - length a in
          let at : length a + i ≡ count = omega (arith, past) in
          let all = subst (HasRoomFor form journal) (ap (λ (n : ℕ). take n (a ++ b)) (sym at) ∙ take-append-add a b i) room in
          omega (
            arith,
            (ap time (sym at)),
            (ap (done_at form start (a ++ b)) (sym at)),
            at_later form start (done_at form start a (length a)) i a b refl,
            then_late i,
            first.exact (length a) (omega arith) (subst (HasRoomFor form journal) (sym (take_all (length a) a (omega arith))) (room_first form journal a (take i b) all)),
            exact i (omega (arith, within, past, length-append a b)) all,
          )
    ]

    pub then_paces : Paces form journal start (a ++ b) time
    then_paces = record {
      starts = then_early 0 (omega arith) ∙ first.starts;
      rises = λ count command got. (then_step count command got).0;
      most = λ count command got. (then_step count command got).1;
      exact = then_exact;
    }

-- ---- the same commands by a time that is the same

module _ {D S C : Type 0} (g : Ghosts D) (form : Form S C) (start : S) (commands : List C) (one other : ℕ → ℕ)
    (same : (count : ℕ) → count ≤ length commands → one count ≡ other count) where
  -- the same commands stay done by another time that is the same
  pub stay_timed : (done : ℕ) (disk : D) → done ≤ length commands → StayDone g form one done start commands disk → StayDone g form other done start commands disk
  stay_timed done disk few stay count some most =
      subst (λ (t : ℕ). LeavesSince t (g.images_since disk) (MakesBetween form count (length commands) start commands)) (same count (omega (arith, few, most))) (stay count some most)

module _ {D S C : Type 0} (g : Ghosts D) (form : Form S C) (commands : List C) (old new : KeptOn D S) (one other : ℕ → ℕ)
    (same : (count : ℕ) → count ≤ length commands → one count ≡ other count) where
  pub cut_timed : IsCut g form one commands old new → IsCut g form other commands old new
  cut_timed cut =
      let some = cut.fewer in
      record {
        count = cut.count;
        fewer = cut.fewer;
        state = cut.state;
        failed = cut.failed;
        images = cut.images;
        stay = told_weaker (g.content old.disk) _ _ (λ before told stay. stay_timed g form old.now commands one other same cut.count new.disk (omega (arith, some)) stay) cut.stay;
        calls = told_weaker (g.content old.disk) _ _ (λ before told least. let at = same cut.count (omega (arith, some)) in omega (arith, least, at)) cut.calls;
        at_most = told_weaker (g.content old.disk) _ _ (λ before told most. let at = same (cut.count + 1) (omega (arith, some)) in omega (arith, most, at)) cut.at_most;
      }
