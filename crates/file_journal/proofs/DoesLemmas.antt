-- What the commands of a call do to a state that is kept, one list of them after another.
use Rattle.std.proofs.Common.{◌≡◌, ℕ, zero, suc, ◌+◌, ◌-◌, ◌<◌, ◌≤◌, Bool, true, false, nat_le, List, [], ◌∷◌, ◌++◌, length, take, Some, IfSome, refl, sym, ◌∙◌, ap, ap₂, subst, arith, length-append}
use Rattle.file_journal.proofs.Names.{leb-true, Ghosts, StaysInHalves, EachImage, Leaves, TellsAlike, AreAllowed, MakesBetween, MakesFirst, StayDone, after_all, after_first, calls_of, done_at, done_within, Form, Course, Does, DoesInTurn, HasRoomFor, IsCut, IsKept, KeptOn, Paces, alone, kept_on, rewriting_calls, IsSameJournal, Position, Knows, puts_none, puts_on, puts_same, joined, started, weaker, alike_on, at_told, if_told, knew, known_told, knows_on, told_before, told_weaker}
use Rattle.file_journal.proofs.BoundLemmas.{halves_on, halves_same}
use Rattle.file_journal.proofs.CommandLemmas.{after_all_append, allowed_append, at_first, first_append, first_then, makes_first, makes_later, makes_longer, makes_second, makes_within, nothing, stay_by_longer, stay_by_then, stay_none, TakesNoMore, octets_append, paces_exactly, rises_all, rises_from, room_behind, room_first, room_some, then_early, then_late, then_paces, then_time}

-- the same state and the same journal, on the same disk
pub same_on : {D S : Type 0} (now other : S) (journal else_journal : Position) (disk : D) → now ≡ other → journal ≡ else_journal → kept_on now journal disk ≡ kept_on other else_journal disk
same_on {S = S} now other journal else_journal disk state same = ap₂ (λ (s : S) (j : Position). kept_on s j disk) state same

-- a journal that is as it was, and then another time
pub same_then : (first second third : Position) → IsSameJournal first second → IsSameJournal second third → IsSameJournal first third
same_then first second third one other = record {
  same = other.same ∙ ap (λ (j : Position). let moved : Position = record j { half = third.half; place = third.place; failed = third.failed } in moved) one.same;
  half = λ single. other.half (λ is. single (sym (ap (λ (j : Position). j.layout) one.same) ∙ is)) ∙ one.half single;
}

module _ {S C : Type 0} (form : Form S C) where
  -- calls carry out no more commands than there are
  pub within_most : (commands : List C) (calls : ℕ) → done_within form commands calls ≤ length commands
  within_most [] calls = omega arith
  within_most (command ∷ commands) calls = by (nat_le (form.calls command) calls) refl (within_most commands (calls - form.calls command))
    where
      by : (b : Bool) → nat_le (form.calls command) calls ≡ b → done_within form commands (calls - form.calls command) ≤ length commands → done_within form (command ∷ commands) calls ≤ length (command ∷ commands)
      by true is rest = rw is (omega (arith, rest))
      by false is rest = rw is (omega arith)

  -- where so many calls are too few for the first of some commands and one more, they carry out no more than those
  within_done : (commands : List C) (count calls : ℕ) → calls < calls_of form (take (suc count) commands) → done_within form commands calls ≤ count
  within_done [] count calls few = omega arith
  within_done (command ∷ commands) zero calls few = by (nat_le (form.calls command) calls) refl
    where
      by : (b : Bool) → nat_le (form.calls command) calls ≡ b → done_within form (command ∷ commands) calls ≤ 0
      by true is = absurd (let le = leb-true (form.calls command) calls is in omega (arith, few, le))
      by false is = rw is (omega arith)
  within_done (command ∷ commands) (suc count) calls few = by (nat_le (form.calls command) calls) refl (λ fewer. within_done commands count (calls - form.calls command) fewer)
    where
      by : (b : Bool) → nat_le (form.calls command) calls ≡ b → (calls - form.calls command < calls_of form (take (suc count) commands) → done_within form commands (calls - form.calls command) ≤ count)
          → done_within form (command ∷ commands) calls ≤ suc count
      by true is then = rw is (
          let rest = then (omega (arith, few, leb-true (form.calls command) calls is)) in omega (arith, rest))
      by false is then = rw is (omega arith)

module _ {D S C : Type 0} (g : Ghosts D) (form : Form S C) where
  -- Where a call failed behind so many that passed, and there was room for the records of the commands, no fewer of them
  -- stand than those calls carry out; more commands may come behind them.
  pub cut_makes : (course : Course D) (P : Type 0) (a b : List C) (old new : KeptOn D S) (calls : ℕ) → P → HasRoomFor form old.journal a → DoesInTurn g form course P a old new
      → g.moment old.disk + calls < g.moment new.disk
      → IfSome (g.content old.disk) (λ _. EachImage g new.disk (MakesBetween form (done_within form (a ++ b) calls) (length (a ++ b)) old.now (a ++ b)))
  cut_makes course P a b old new calls failed room does passed =
      let some = does.cut failed in
      let next : some.count + 1 ≤ length a = omega (arith, some.fewer) in
      told_weaker (g.content old.disk) _ _ (λ before told soon.
      let done : done_within form (a ++ b) calls ≤ some.count =
      let one : calls_of form (take (some.count + 1) (a ++ b)) ≡ calls_of form (take (suc some.count) (a ++ b)) = ap (λ (n : ℕ). calls_of form (take n (a ++ b))) (let same : some.count + 1 ≡ suc some.count = omega arith in same) in
      within_done form (a ++ b) some.count calls (omega (arith, one, soon, passed, does.paces.exact (some.count + 1) next (room_some form old.journal a (some.count + 1) room), at_first form (g.moment old.disk) (some.count + 1) a b next)) in
      told_weaker (g.content new.disk) _ _ (λ now here stands image left.
      makes_within form some.count (some.count + 1) (done_within form (a ++ b) calls) (length (a ++ b)) old.now (a ++ b) image done (omega (arith, length-append a b, next))
      (makes_first form some.count (some.count + 1) old.now a b image next (stands image left))) some.images) some.at_most

  -- what comes to the same, by calls that are said otherwise
  pub turn_course : (one other : Course D) (P Q : Type 0) (commands : List C) (old new : KeptOn D S) → (P → Q) → (Q → P) → (one.idle old.disk new.disk → other.idle old.disk new.disk)
      → (one.puts old.disk new.disk → other.puts old.disk new.disk) → (one.reads old.disk new.disk → other.reads old.disk new.disk) → DoesInTurn g form one P commands old new
      → DoesInTurn g form other Q commands old new
  turn_course one other P Q commands old new there back idle puts reads does = record {
    time = does.time;
    paces = does.paces;
    healthy = does.healthy;
    stands_on = does.stands_on;
    allowed = does.allowed;
    since = does.since;
    stay = λ fine. does.stay (λ p. fine (there p));
    calls = λ fine. does.calls (λ p. fine (there p));
    at_most = does.at_most;
    none = λ is. idle (does.none is);
    puts = puts does.puts;
    reads = reads does.reads;
    done = λ fine. does.done (λ p. fine (there p));
    cut = λ q. does.cut (back q);
    journal = does.journal;
    moves = λ fine. does.moves (λ p. fine (there p));
    within = does.within;
  }

  -- no command
  pub turn_none : (course : Course D) (P : Type 0) (now : S) (journal : Position) (old new : D) → ¬ P → IsKept g form (kept_on now journal new) → journal.failed ≡ false
      → Leaves g old new (λ _. MakesFirst form now []) → g.moment new ≡ g.moment old → course.idle old new → course.puts old new → course.reads old new
      → StaysInHalves g form.layout journal.blocks old new → DoesInTurn g form course P [] (kept_on now journal old) (kept_on now journal new)
  turn_none course P now journal old new fine stands healthy since same idle puts reads within = record {
    time = done_at form (g.moment old) [];
    paces = paces_exactly form journal (g.moment old) [];
    healthy = healthy;
    stands_on = stands;
    allowed = λ known. tt;
    since = since;
    stay = λ still. if_told (g.content old) _ (λ before told. stay_none form g (done_at form (g.moment old) []) now [] new);
    calls = λ still. if_told (g.content old) _ (λ before told. omega (arith, same));
    at_most = omega (arith, same);
    none = λ is. idle;
    puts = puts;
    reads = reads;
    done = λ still. (λ known. refl, healthy);
    cut = λ failed. absurd (fine failed);
    journal = record { same = refl; half = λ one. refl };
    moves = λ still room. record { half = refl; place = omega arith };
    within = within;
  }

  -- further commands behind those in one of which the disk failed
  pub turn_longer : (course : Course D) (P : Type 0) (a b : List C) (old new : KeptOn D S) → P → (Knows form (g.content old.disk) → AreAllowed form.allowed form.after old.now (a ++ b)) → DoesInTurn g form course P a old new
      → DoesInTurn g form course P (a ++ b) old new
  turn_longer course P a b old new failed allowed does =
      let sum : length (a ++ b) ≡ length a + length b = length-append a b in
      let some = does.cut failed in
      let few = some.fewer in
      let once = does.time in
      let again = done_at form 0 b in
      let time = then_time once again (length a) 0 in
      let none : again 0 ≡ 0 = omega arith in
      let early = then_early form a b once again 0 none in
      record {
        time = time;
        paces =
            let exact = paces_exactly form old.journal 0 b in
            then_paces form a b once again 0 none old.journal (g.moment old.disk) does.paces exact.rises exact.most (λ count few room. refl);
        healthy = does.healthy;
        stands_on = does.stands_on;
        allowed = allowed;
        since = told_weaker (g.content old.disk) _ _ (λ before told left.
            weaker g.moment g.images_since old.disk new.disk (MakesFirst form old.now a) (MakesFirst form old.now (a ++ b)) (λ image here. makes_longer form old.now a b image here) left) does.since;
        stay = λ fine. absurd (fine failed);
        calls = λ fine. absurd (fine failed);
        at_most = omega (arith, does.at_most, ap time sum, then_late form a b once again 0 none (length b));
        none = λ is. let empty : length (a ++ b) ≡ 0 = ap length is in absurd (omega (arith, sum, few, empty));
        puts = does.puts;
        reads = does.reads;
        done = λ fine. absurd (fine failed);
        cut = λ still. record {
          count = some.count;
          fewer = omega (arith, sum, few);
          state = λ known. some.state known ∙ sym (first_append form some.count a b old.now (omega (arith, few)));
          failed = some.failed;
          images = told_weaker (g.content new.disk) _ _ (λ now told each image here.
              makes_first form some.count (some.count + 1) old.now a b image (omega (arith, few)) (each image here)) some.images;
          stay = told_weaker (g.content old.disk) _ _ (λ before told stay. stay_by_longer form g time once some.count old.now a b new.disk early (omega (arith, few)) stay) some.stay;
          calls = told_weaker (g.content old.disk) _ _ (λ before told later. let at = early some.count (omega (arith, few)) in omega (arith, later, at)) some.calls;
          at_most = told_weaker (g.content old.disk) _ _ (λ before told soon. let at = early (some.count + 1) (omega (arith, few)) in omega (arith, soon, at)) some.at_most;
        };
        journal = does.journal;
        moves = λ fine. absurd (fine failed);
        within = does.within;
      }

  -- One list of commands, and then another, each in its time, and both in theirs.
  module _ (one other both : Course D) (P Q : Type 0) (a b : List C) (old mid new : KeptOn D S) (fine : ¬ P) (alike : TellsAlike (g.content old.disk) (g.content mid.disk)) (later : TellsAlike (g.content mid.disk) (g.content new.disk))
      (first : DoesInTurn g form one P a old mid) (second : DoesInTurn g form other Q b mid new) where
    abbrev once : ℕ → ℕ
    once = first.time

    abbrev again : ℕ → ℕ
    again = second.time

    abbrev time : ℕ → ℕ
    time = then_time once again (length a) (g.moment mid.disk)

    sum : length (a ++ b) ≡ length a + length b
    sum = length-append a b

    early : (count : ℕ) → count ≤ length a → time count ≡ once count
    early = then_early form a b once again (g.moment mid.disk) second.paces.starts

    late : (count : ℕ) → time (length a + count) ≡ once (length a) + (again count - g.moment mid.disk)
    late = then_late form a b once again (g.moment mid.disk) second.paces.starts

    rises : (count : ℕ) → count ≤ length a → once count ≤ once (length a)
    rises count few = rises_all form a once first.paces.rises count (length a) few (omega arith)

    room_a : HasRoomFor form old.journal (a ++ b) → HasRoomFor form old.journal a
    room_a = room_first form old.journal a b

    room_b : (later : List C) → HasRoomFor form old.journal (a ++ later) → HasRoomFor form mid.journal later
    room_b later room = room_behind form old.journal mid.journal a later first.journal (first.moves fine (room_first form old.journal a later room)) room

    both_pace : Paces form old.journal (g.moment old.disk) (a ++ b) time
    both_pace =
        then_paces form a b once again (g.moment mid.disk) second.paces.starts old.journal (g.moment old.disk) first.paces second.paces.rises
        (subst (λ (n : ℕ). TakesNoMore form (rewriting_calls n) again b) (ap (λ (p : Position). p.blocks) first.journal.same) second.paces.most) (λ count few room. second.paces.exact count few (room_b (take count b) room))

    at : Knows form (g.content old.disk) → mid.now ≡ after_all form.after old.now a
    at known = (first.done fine).0 known

    middle : (before : List ℕ) → g.content old.disk ≡ Some before → (octets : List ℕ) × (g.content mid.disk ≡ Some octets)
    middle before told = told_before (g.content mid.disk) (g.content old.disk) before (alike.1, alike.0) told

    then : (before : List ℕ) → g.content old.disk ≡ Some before → g.moment mid.disk ≡ once (length a)
    then before told = at_told (λ (_ : List ℕ). g.moment mid.disk ≡ once (length a)) before told (first.calls fine)

    behind : (before : List ℕ) → g.content old.disk ≡ Some before → (count : ℕ) → count ≤ length b → time (length a + count) ≡ again count
    behind before told count few =
        omega (arith, late count, then before told, rises_all form b again second.paces.rises 0 count (omega arith) few, second.paces.starts)

    since_both : Leaves g old.disk new.disk (λ _. MakesFirst form old.now (a ++ b))
    since_both = if_told (g.content old.disk) _ (λ before told.
        joined g.moment g.images_since old.disk mid.disk new.disk (MakesFirst form old.now (a ++ b))
        (weaker g.moment g.images_since old.disk mid.disk (MakesFirst form old.now a) (MakesFirst form old.now (a ++ b)) (λ image here. makes_longer form old.now a b image here)
        (at_told (λ (_ : List ℕ). _) before told first.since))
        (weaker g.moment g.images_since mid.disk new.disk (MakesFirst form mid.now b) (MakesFirst form old.now (a ++ b)) (λ image here. makes_later form old.now mid.now a b image (at (known_told form before told)) here)
        (at_told (λ (_ : List ℕ). _) (middle before told).0 (middle before told).1 second.since)))

    stay_both : (done : ℕ) → done ≤ length b → IfSome (g.content mid.disk) (λ _. StayDone g form again done mid.now b new.disk)
        → IfSome (g.content old.disk) (λ _. StayDone g form time (length a + done) old.now (a ++ b) new.disk)
    stay_both done most stay = if_told (g.content old.disk) _ (λ before told.
        stay_by_then form g time once again done old.now mid.now a b mid.disk new.disk (at (known_told form before told)) early (λ count few. behind before told count (omega (arith, few, most)))
        (λ count few. let at = rises count few in omega (arith, at, then before told)) (at_told (λ (_ : List ℕ). _) before told (first.stay fine))
        (at_told (λ (_ : List ℕ). _) (middle before told).0 (middle before told).1 second.since) (at_told (λ (_ : List ℕ). _) (middle before told).0 (middle before told).1 stay))

    cut_both : IsCut g form again b mid new → (all : IsCut g form time (a ++ b) old new) × (length a ≤ all.count)
    cut_both some = (
      record {
        count = length a + some.count;
        fewer = omega (arith, sum, some.fewer);
        state = λ known. some.state (knows_on form _ _ alike known) ∙ ap (λ (s : S). after_first form some.count s b) (at known) ∙ sym (first_then form some.count a b old.now);
        failed = some.failed;
        images = told_weaker (g.content new.disk) _ _ (λ now told each image here.
            makes_second form some.count (some.count + 1) (length a + some.count) (length a + some.count + 1) old.now mid.now a b image (at (knew form _ _ (alike_on _ _ _ alike later) (known_told form now told))) (omega arith) (omega arith) (each image here)) some.images;
        stay = stay_both some.count (let few = some.fewer in omega (arith, few)) some.stay;
        calls = if_told (g.content old.disk) _ (λ before told.
            let begun : again some.count ≤ g.moment new.disk = at_told (λ (_ : List ℕ). _) (middle before told).0 (middle before told).1 some.calls in
            omega (arith, behind before told some.count (let few = some.fewer in omega (arith, few)), begun));
        at_most = if_told (g.content old.disk) _ (λ before told.
            let soon : g.moment new.disk ≤ again (some.count + 1) = at_told (λ (_ : List ℕ). _) (middle before told).0 (middle before told).1 some.at_most in
            let same : time (length a + some.count + 1) ≡ time (length a + (some.count + 1)) = ap time (omega arith) in
            omega (arith, same, behind before told (some.count + 1) (let few = some.fewer in omega (arith, few)), soon));
      },
      omega arith,
    )

    -- No fewer of both are done than the first were.
    pub turn_both : (one.idle old.disk mid.disk → other.idle mid.disk new.disk → both.idle old.disk new.disk) → both.puts old.disk new.disk → both.reads old.disk new.disk
        → (all : DoesInTurn g form both Q (a ++ b) old new) × (Q → (some : IsCut g form all.time (a ++ b) old new) × (length a ≤ some.count))
    turn_both idle puts reads = (
      record {
        time = time;
        paces = both_pace;
        healthy = first.healthy;
        stands_on = second.stands_on;
        allowed = λ known. allowed_append form.after form.allowed a b old.now (first.allowed known)
            (subst (λ (s : S). AreAllowed form.allowed form.after s b) (at known) (second.allowed (knows_on form _ _ alike known)));
        since = since_both;
        stay = λ still. subst (λ (n : ℕ). IfSome (g.content old.disk) (λ _. StayDone g form time n old.now (a ++ b) new.disk)) (sym sum) (stay_both (length b) (omega arith) (second.stay still));
        calls = λ still. if_told (g.content old.disk) _ (λ before told.
            let all : g.moment new.disk ≡ again (length b) = at_told (λ (_ : List ℕ). _) (middle before told).0 (middle before told).1 (second.calls still) in
            all ∙ sym (behind before told (length b) (omega arith)) ∙ ap time (sym sum));
        at_most =
            omega (arith, ap time sum, late (length b), first.at_most, second.at_most, rises_from form b again second.paces.rises (length b) (omega arith), second.paces.starts);
        none = λ is.
            let empty : length (a ++ b) ≡ 0 = ap length is in
            idle (first.none (nothing a (omega (arith, sum, empty)))) (second.none (nothing b (omega (arith, sum, empty))));
        puts = puts;
        reads = reads;
        done = λ still.
            let all = second.done still in
            (λ known. all.0 (knows_on form _ _ alike known) ∙ ap (λ (s : S). after_all form.after s b) (at known) ∙ sym (after_all_append form.after a b old.now), all.1);
        cut = λ failed. (cut_both (second.cut failed)).0;
        journal = same_then old.journal mid.journal new.journal first.journal second.journal;
        moves = λ still room.
            let here = first.moves fine (room_a room) in
            let there = second.moves still (room_b b room) in
            record {
              half = there.half ∙ here.half;
              place = omega (arith, here.place, there.place, octets_append form a b);
            };
        within = halves_on g form.layout form.layout old.journal.blocks mid.journal.blocks old.disk mid.disk new.disk refl (ap (λ (p : Position). p.blocks) first.journal.same) first.within second.within;
      },
      λ failed. cut_both (second.cut failed),
    )

    pub turn_then : (one.idle old.disk mid.disk → other.idle mid.disk new.disk → both.idle old.disk new.disk) → both.puts old.disk new.disk → both.reads old.disk new.disk
        → DoesInTurn g form both Q (a ++ b) old new
    turn_then idle puts reads = (turn_both idle puts reads).0

  -- ---- no other call of the disk

  pub does_none : (P : Type 0) (now : S) (journal : Position) (disk : D) → ¬ P → IsKept g form (kept_on now journal disk) → journal.failed ≡ false → g.lasts disk disk
      → Does g form P [] (kept_on now journal disk) (kept_on now journal disk)
  does_none P now journal disk fine stands healthy same =
      turn_none (alone g P) P now journal disk disk fine stands healthy (if_told (g.content disk) _ (λ before told. started g.moment g.images_since disk (MakesFirst form now []))) refl refl
      (puts_none g disk P fine same) tt (halves_same g form.layout journal.blocks disk)

  -- how the failure is named makes no difference
  pub does_same : (P Q : Type 0) (commands : List C) (old new : KeptOn D S) → (P → Q) → (Q → P) → Does g form P commands old new → Does g form Q commands old new
  does_same P Q commands old new there back does = turn_course (alone g P) (alone g Q) P Q commands old new there back (λ i. i) (puts_same g old.disk new.disk P Q there back) (λ r. r) does

  pub does_longer : (P : Type 0) (a b : List C) (old new : KeptOn D S) → P → (Knows form (g.content old.disk) → AreAllowed form.allowed form.after old.now (a ++ b)) → Does g form P a old new → Does g form P (a ++ b) old new
  does_longer P a b old new = turn_longer (alone g P) P a b old new

  pub does_then : ((first second third : D) → g.lasts first second → g.lasts second third → g.lasts first third) → (P Q : Type 0) (a b : List C) (old mid new : KeptOn D S) → ¬ P
      → Does g form P a old mid → Does g form Q b mid new → Does g form Q (a ++ b) old new
  does_then on P Q a b old mid new fine first second =
      turn_then (alone g P) (alone g Q) (alone g Q) P Q a b old mid new fine first.puts.told second.puts.told first second (λ i j. j ∙ i) (puts_on g on old.disk mid.disk new.disk P Q fine first.puts second.puts) tt
