-- The turns of a node, one after another.
use Rattle.std.proofs.Common.{◌≡◌, ◌⊎◌, ℕ, zero, suc, ◌+◌, ◌<◌, ◌≤◌, List, [], ◌∷◌, ◌++◌, length, Bool, true, false, Option, None, Some, Result, Ok, Err}
use Rattle.std.proofs.Common.{refl, sym, ap, ◌∙◌, subst, inl, inr, append_assoc, length-append, unwrap_or, arith}
use Rattle.px_base.specs.Moments.{MomentsOf}
use Rattle.px_base.specs.declared.air.Turn.TheVariants as turn
use Rattle.turn_loop.specs.declared.finished.Finished.TheVariants as finished
use Rattle.turn_loop.specs.declared.stop.NodeStop.TheVariants as stop
use Rattle.turn_loop.proofs.Names.{AllByRecursion, ⊤, Gains, HearsAll, IsOpen, Ghosts as AirGhosts, AirDown, Turn, Gains-trans, Grows-none, Grows-trans, AtDisk, Course, IsLawful, Input, IsInput, inputs_of, turn_inputs, AreHandedOver, Brought, HasAirCause, IsOpenBefore, IsUnsaid, LentParty, MomentsFrom, MomentsTaken, NextMoment, RanBy, SaysAll, StoppedInLast, Takes, TookAll, TookTurn, TookTurns, TurnsBy, party_at, Finished, NodeStop, TurnTerms}
use Rattle.turn_loop.proofs.InputLemmas.{inputs-turn, last-more}
use Rattle.turn_loop.proofs.Invariants.{IsTurning}
use Rattle.turn_loop.proofs.SayingLemmas.{counts-from, unsaid-from}

-- ---- fronts of lists

heads : {X : Type 0} (x y : X) (xs ys : List X) → x ∷ xs ≡ y ∷ ys → x ≡ y
heads x y xs ys h = cc h

tails : {X : Type 0} (x y : X) (xs ys : List X) → x ∷ xs ≡ y ∷ ys → xs ≡ ys
tails x y xs ys h = cc h

consed : {X : Type 0} (x y : X) (xs ys : List X) → x ≡ y → xs ≡ ys → x ∷ xs ≡ y ∷ ys
consed x y xs ys h k = ap (λ z. z ∷ xs) h ∙ ap (λ zs. y ∷ zs) k

no-split : {X : Type 0} (xs : List X) (x : X) (ys : List X) → [] ≡ xs ++ x ∷ ys → ⊥
no-split [] x ys h = absurd (cc h)
no-split (y ∷ xs) x ys h = absurd (cc h)

-- where a list with one more at its end is split, the list itself is the front, or is split alike
split-last : {X : Type 0} (xs : List X) (last : X) (front : List X) (next : X) (rest : List X) → xs ++ last ∷ [] ≡ front ++ next ∷ rest
    → (xs ≡ front) ⊎ ((others : List X) × (xs ≡ front ++ next ∷ others))
split-last [] last [] next rest h = inl refl
split-last [] last (y ∷ front) next rest h = absurd (no-split front next rest (tails _ _ _ _ h))
split-last (x ∷ xs) last [] next rest h = inr (xs, consed x next xs xs (heads _ _ _ _ h) refl)
split-last (x ∷ xs) last (y ∷ front) next rest h =
    elim (split-last xs last front next rest (tails _ _ _ _ h)) [
      | inl same ↦ inl (consed x y xs front (heads _ _ _ _ h) same)
      | inr more ↦ inr (more.0, consed x y xs (front ++ next ∷ more.0) (heads _ _ _ _ h) more.1)
    ]

-- fronts of one length are one front
same-front : {X : Type 0} (xs ys zs ws : List X) → xs ++ ys ≡ zs ++ ws → length zs ≡ length xs → zs ≡ xs
same-front [] ys [] ws h k = refl
same-front [] ys (z ∷ zs) ws h k = absurd (omega (arith, k))
same-front (x ∷ xs) ys [] ws h k = absurd (omega (arith, k))
same-front (x ∷ xs) ys (z ∷ zs) ws h k = consed z x zs xs (sym (heads _ _ _ _ h)) (same-front xs ys zs ws (tails _ _ _ _ h) (omega (arith, k)))

-- a shorter front is one of the list itself
front-within : {X : Type 0} (xs ys front rest : List X) → xs ++ ys ≡ front ++ rest → length front ≤ length xs → (others : List X) × (xs ≡ front ++ others)
front-within xs ys [] rest h few = (xs, refl)
front-within [] ys (y ∷ front) rest h few = absurd (omega (arith, few))
front-within (x ∷ xs) ys (y ∷ front) rest h few =
    let more = front-within xs ys front rest (tails _ _ _ _ h) (omega (arith, few)) in
    (more.0, consed x y xs (front ++ more.0) (heads _ _ _ _ h) more.1)

shorter : {X : Type 0} (xs front : List X) (next : X) (rest : List X) → xs ≡ front ++ next ∷ rest → length front ≤ length xs
shorter xs front next rest is = omega (arith, ap (λ ys. length ys) is, length-append front (next ∷ rest))

open-append : (turns : List Turn) (next : Turn) → AllByRecursion IsOpen turns → IsOpen next → AllByRecursion IsOpen (turns ++ next ∷ [])
open-append [] next h is = (is, tt)
open-append (t ∷ turns) next h is = (h.0, open-append turns next h.1 is)

-- ---- moments

all-append : (given : ℕ) (xs ys : List ℕ) → AllByRecursion (λ moment. moment ≡ given) xs → AllByRecursion (λ moment. moment ≡ given) ys → AllByRecursion (λ moment. moment ≡ given) (xs ++ ys)
all-append given [] ys h k = k
all-append given (x ∷ xs) ys h k = (h.0, all-append given xs ys h.1 k)

-- the moments up to the middle and those since, together
pub moments-trans : (given : Option ℕ) (a m n : Option (List ℕ)) (xs ys : List ℕ) → MomentsOf given a m xs → MomentsOf given m n ys → MomentsOf given a n (xs ++ ys)
moments-trans None a m n xs ys h k = Grows-trans a m n xs ys h k
moments-trans (Some moment) a m n xs ys h k = (all-append moment xs ys h.0 k.0, k.1 ∙ h.1)

pub moments-none : (given : Option ℕ) (before : Option (List ℕ)) → MomentsOf given before before []
moments-none None before = Grows-none before
moments-none (Some moment) before = (tt, refl)

taken-none : (first given : Option ℕ) (before : Option (List ℕ)) → MomentsFrom first given before before []
taken-none None given before = moments-none given before
taken-none (Some first) given before = inl (refl, moments-none given before)

no-moments : (moments : List ℕ) → length moments ≡ 0 → moments ≡ []
no-moments [] h = refl
no-moments (m ∷ moments) h = absurd (omega (arith, h))

taken-more : (first given : Option ℕ) (a m n : Option (List ℕ)) (moments : List ℕ) (moment count : ℕ) → length moments ≡ count → MomentsFrom first given a m moments → NextMoment count first given m n moment
    → MomentsFrom first given a n (moments ++ moment ∷ [])
taken-more None given a m n moments moment zero counted h k = moments-trans given a m n moments (moment ∷ []) h k
taken-more None given a m n moments moment (suc count) counted h k = moments-trans given a m n moments (moment ∷ []) h k
taken-more (Some first) given a m n moments moment zero counted (inl h) k =
    inr ([], ap (λ (ms : List ℕ). ms ++ moment ∷ []) (no-moments moments counted) ∙ ap (λ x. x ∷ []) k.0, moments-trans given a m n [] [] h.1 k.1)
taken-more (Some first) given a m n moments moment zero counted (inr h) k = absurd (omega (arith, counted, ap (λ (ms : List ℕ). length ms) h.1))
taken-more (Some first) given a m n moments moment (suc count) counted (inl h) k = absurd (omega (arith, counted, ap (λ (ms : List ℕ). length ms) h.0))
taken-more (Some first) given a m n moments moment (suc count) counted (inr h) k =
    inr (h.0 ++ moment ∷ [], ap (λ (ms : List ℕ). ms ++ moment ∷ []) h.1, moments-trans given a m n h.0 (moment ∷ []) h.2 k)

-- ---- turns

module _ {P D : Type 0} (course : Course P D Input) (start : AtDisk P D) where
  open-none : (text : List ℕ) → IsOpenBefore AreHandedOver course start [] [] text
  open-none text earlier next later before behind split = absurd (no-split earlier next later split)

  -- one turn more, before which the party wasn't over
  open-more : (turns : List Turn) (moments : List ℕ) (next : Turn) (moment : ℕ) (text more : List ℕ) (now : AtDisk P D) → length moments ≡ length turns → course.goes start (inputs_of turns moments) text now
      → course.is_over now.it ≡ false → IsOpenBefore AreHandedOver course start turns moments text → IsOpenBefore AreHandedOver course start (turns ++ next ∷ []) (moments ++ moment ∷ []) (text ++ more)
  open-more turns moments next moment text given now one_each goes not_over open_before earlier other later before behind split moments_split same_length =
      elim (split-last turns next earlier other later split) [
        | inl same ↦
            let at_end : before ≡ moments = same-front moments (moment ∷ []) before behind moments_split (same_length ∙ ap (λ (ts : List Turn). length ts) (sym same) ∙ sym one_each) in
            (inputs_of turns moments, ap (λ (ts : List Turn). inputs_of ts moments) same ∙ ap (λ (ms : List ℕ). inputs_of earlier ms) (sym at_end), text, (given, refl), now, goes, not_over)
        | inr more ↦
            let front = front-within moments (moment ∷ []) before behind moments_split (omega (arith, same_length, shorter turns earlier other more.0 more.1, one_each)) in
            let was = open_before earlier other more.0 before front.0 more.1 front.1 same_length in
            (was.0, was.1, was.2, (was.3.0 ++ given, ap (λ (t : List ℕ). t ++ given) was.3.1 ∙ append_assoc was.2 was.3.0 given), was.4, was.5, was.6)
      ]

module _ {P D A C : Type 0} (course : Course P D Input) (air : AirGhosts A) (given : C → Option (List ℕ)) (old : LentParty P D A C) (terms : TurnTerms) where
  abbrev Turning : LentParty P D A C → Option ℕ → ℕ → Type 0
  Turning now last count = IsTurning course air given old now terms last count

  abbrev Took : LentParty P D A C → Result Finished NodeStop → Type 0
  Took now result = TookTurns AreHandedOver course air given old now terms result

  module _ (now : LentParty P D A C) (same_clock : now.clock ≡ old.clock) (owes : course.owes (party_at old) [] None [] (party_at old)) where
    given_none : MomentsTaken terms (given old.clock) (given now.clock) []
    given_none = subst (λ c. MomentsTaken terms (given old.clock) (given c) []) (sym same_clock) (taken-none terms.first terms.given (given old.clock))

    -- before the first turn
    pub turns-start : SaysAll course air old.air now.air (party_at old) (party_at now) (Ok tt) → Turning now None 0
    turns-start says = record {
      turns = [];
      moments = [];
      text = says.text;
      turns_heard = subst (λ o. HearsAll (air.heard old.air) o []) (sym says.heard) (Grows-none (air.heard old.air));
      moments_given = given_none;
      text_said = says.text_said;
      one_each = refl;
      counted = refl;
      all_open = tt;
      last_is = refl;
      goes = (says.ends (party_at old) [] None [] owes).0;
      fit = (says.ends (party_at old) [] None [] owes).1;
      open_before = open-none course (party_at old) says.text;
      reads = says.reads;
      writes = says.cause.same;
    }

    -- what there was to say before it could not be said
    pub turns-unsaid : (down : AirDown) → SaysAll course air old.air now.air (party_at old) (party_at now) (Err down) → Took now (Err stop.AirWrite)
    turns-unsaid down says = record {
      all = record { turns = []; moments = []; events = [] };
      text = says.text;
      turns_heard = subst (λ o. HearsAll (air.heard old.air) o []) (sym says.heard) (Grows-none (air.heard old.air));
      moments_given = given_none;
      text_said = says.text_said;
      one_each = refl;
      brings = refl;
      bound = omega arith;
      ends = tt;
      open_before = open-none course (party_at old) says.text;
      counts = (says.reads, says.cause.rose);
      unsaid = true;
      is_unsaid = says.cause.rose;
      ran = record {
        earlier = [];
        but_last = inl (refl, refl);
        before = [];
        behind = [];
        split = refl;
        one_each = refl;
        least = [];
        brought = refl;
        first = [];
        last = says.text;
        text_is = refl;
        more = [];
        events_are = refl;
        ends = inl (refl, refl, refl, says.ends (party_at old) [] None [] owes);
      };
    }

  module _ (mid : LentParty P D A C) (last : Option ℕ) (count : ℕ) (h : Turning mid last count) where
    abbrev all_m : Brought Input
    all_m = record { turns = h.turns; moments = h.moments; events = inputs_of h.turns h.moments }

    -- ended between two turns
    between : (result : Result Finished NodeStop) (over : Bool) → course.is_over mid.party ≡ over → count ≤ terms.polls → TurnsBy result terms.polls h.turns → HasAirCause air old.air mid.air result
        → (TookAll course (party_at old) (inputs_of h.turns h.moments) h.text (party_at mid) over → RanBy AreHandedOver course (party_at old) all_m result h.text false (party_at mid)) → Took mid result
    between result over is_over bound ends counts ran = record {
      all = all_m;
      text = h.text;
      turns_heard = h.turns_heard;
      moments_given = h.moments_given;
      text_said = h.text_said;
      one_each = h.one_each;
      brings = refl;
      bound = omega (arith, bound, h.counted);
      ends = ends;
      open_before = h.open_before;
      counts = counts;
      unsaid = false;
      is_unsaid = h.writes;
      ran = ran (h.goes, h.fit, is_over);
    }

    pub turns-over : course.is_over mid.party ≡ true → (taken : ℕ) → taken ≡ count → count ≤ terms.polls → Took mid (Ok (finished.Over taken))
    turns-over is_over taken counted bound =
        between (Ok (finished.Over taken)) true is_over bound (h.all_open, counted ∙ sym h.counted) (h.reads, h.writes) (λ all. all)

    pub turns-spent : course.is_over mid.party ≡ false → count ≡ terms.polls → Took mid (Err stop.Spent)
    turns-spent not_over bound = between (Err stop.Spent) false not_over (omega (arith, bound)) (h.counted ∙ bound, h.all_open) (h.reads, h.writes) (λ all. all)

    module _ (lawful : IsLawful course IsInput) (not_over : course.is_over mid.party ≡ false) (below : count < terms.polls) (moment before : ℕ) (before_is : before ≡ unwrap_or last moment) (now : LentParty P D A C)
        (next_moment : NextMoment count terms.first terms.given (given mid.clock) (given now.clock) moment) where
      module _ (result : Result Bool NodeStop) (turned : TookTurn course air mid.air now.air (party_at mid) (party_at now) (λ next. turn_inputs next before moment) result) where
        abbrev turns_n : List Turn
        turns_n = h.turns ++ turned.next ∷ []

        abbrev moments_n : List ℕ
        moments_n = h.moments ++ moment ∷ []

        abbrev more : List Input
        more = turn_inputs turned.next before moment

        abbrev all_n : Brought Input
        all_n = record { turns = turns_n; moments = moments_n; events = inputs_of turns_n moments_n }

        inputs_n : inputs_of turns_n moments_n ≡ inputs_of h.turns h.moments ++ more
        inputs_n =
            inputs-turn h.turns h.moments turned.next moment h.one_each
            ∙ ap (λ n. inputs_of h.turns h.moments ++ turn_inputs turned.next n moment) (ap (λ (o : Option ℕ). unwrap_or o moment) (sym h.last_is) ∙ sym before_is)

        counted_n : length turns_n ≡ count + 1
        counted_n = length-append h.turns (turned.next ∷ []) ∙ ap (λ n. n + 1) h.counted

        one_each_n : length moments_n ≡ length turns_n
        one_each_n = omega (arith, length-append h.moments (moment ∷ []), length-append h.turns (turned.next ∷ []), h.one_each)

        heard_n : HearsAll (air.heard old.air) (air.heard now.air) turns_n
        heard_n = Grows-trans (air.heard old.air) (air.heard mid.air) (air.heard now.air) h.turns (turned.next ∷ []) h.turns_heard turned.turn_heard

        moments_taken_n : MomentsTaken terms (given old.clock) (given now.clock) moments_n
        moments_taken_n = taken-more terms.first terms.given (given old.clock) (given mid.clock) (given now.clock) h.moments moment count (omega (arith, h.one_each, h.counted)) h.moments_given next_moment

        open_n : (text : List ℕ) → IsOpenBefore AreHandedOver course (party_at old) turns_n moments_n (h.text ++ text)
        open_n text = open-more course (party_at old) h.turns h.moments turned.next moment h.text text (party_at mid) h.one_each h.goes not_over h.open_before

        -- what the party took of this turn is said behind what was said before
        said_n : (ended : Result ⊤ NodeStop) (takes : Takes course air turned.polled now.air (party_at mid) (party_at now) more ended) → Gains (air.said old.air) (air.said now.air) (h.text ++ takes.text)
        said_n ended takes =
            Gains-trans (air.said old.air) (air.said mid.air) (air.said now.air) h.text takes.text h.text_said
            (subst (λ o. Gains o (air.said now.air) takes.text) turned.same_said takes.text_said)

        unsaid_n : (ended : Result ⊤ NodeStop) (takes : Takes course air turned.polled now.air (party_at mid) (party_at now) more ended)
            → IsUnsaid takes.unsaid (air.write_faults old.air) (air.write_faults now.air)
        unsaid_n ended takes = unsaid-from takes.unsaid _ _ _ h.writes (unsaid-from takes.unsaid _ _ _ turned.same_writes takes.is_unsaid)

        goes_n : (takes : Takes course air turned.polled now.air (party_at mid) (party_at now) more (Ok tt)) → course.goes (party_at old) (inputs_of turns_n moments_n) (h.text ++ takes.text) (party_at now)
        goes_n takes =
            subst (λ (is : List Input). course.goes (party_at old) is (h.text ++ takes.text) (party_at now)) (sym inputs_n)
            (lawful.goes_on (party_at old) (party_at mid) (party_at now) (inputs_of h.turns h.moments) more h.text takes.text h.goes takes.ends.0)

        -- ended in this turn
        within : (answer : Result Finished NodeStop) (ended : Result ⊤ NodeStop) (takes : Takes course air turned.polled now.air (party_at mid) (party_at now) more ended) → TurnsBy answer terms.polls turns_n
            → HasAirCause air old.air now.air answer → RanBy AreHandedOver course (party_at old) all_n answer (h.text ++ takes.text) takes.unsaid (party_at now) → Took now answer
        within answer ended takes ends counts ran = record {
          all = all_n;
          text = h.text ++ takes.text;
          turns_heard = heard_n;
          moments_given = moments_taken_n;
          text_said = said_n ended takes;
          one_each = one_each_n;
          brings = refl;
          bound = omega (arith, counted_n, below);
          ends = ends;
          open_before = open_n takes.text;
          counts = counts;
          unsaid = takes.unsaid;
          is_unsaid = unsaid_n ended takes;
          ran = ran;
        }

        -- by a stop of the party
        stopped : (why : NodeStop) (takes : Takes course air turned.polled now.air (party_at mid) (party_at now) more (Err why))
            → StoppedInLast AreHandedOver course (party_at old) all_n why (h.text ++ takes.text) takes.unsaid (party_at now)
        stopped why takes = record {
          earlier = h.turns;
          but_last = inr (turned.next, refl);
          before = h.moments;
          behind = moment ∷ [];
          split = refl;
          one_each = h.one_each;
          least = inputs_of h.turns h.moments;
          brought = refl;
          first = h.text;
          last = takes.text;
          text_is = refl;
          more = more;
          events_are = inputs_n;
          ends = inr (party_at mid, h.goes, takes.ends);
        }

      -- an open turn more
      pub turns-more : (open_is : Bool) → open_is ≡ true → TookTurn course air mid.air now.air (party_at mid) (party_at now) (λ next. turn_inputs next before moment) (Ok open_is) → Turning now (Some moment) (count + 1)
      turns-more open_is is_true taken =
          let turned = subst (λ b. TookTurn course air mid.air now.air (party_at mid) (party_at now) (λ next. turn_inputs next before moment) (Ok b)) is_true taken in
          let takes = turned.ends.1 in
          record {
            turns = turns_n (Ok true) turned;
            moments = moments_n (Ok true) turned;
            text = h.text ++ takes.text;
            turns_heard = heard_n (Ok true) turned;
            moments_given = moments_taken_n (Ok true) turned;
            text_said = said_n (Ok true) turned (Ok tt) takes;
            one_each = one_each_n (Ok true) turned;
            counted = counted_n (Ok true) turned;
            all_open = open-append h.turns turned.next h.all_open turned.ends.0;
            last_is = last-more h.moments moment;
            goes = goes_n (Ok true) turned takes;
            fit = takes.ends.1;
            open_before = open_n (Ok true) turned takes.text;
            reads = turned.counts.0 ∙ h.reads;
            writes = turned.counts.1 ∙ h.writes;
          }

      -- a turn that isn't an open one leaves the party as it was
      still-open : (result : Result Bool NodeStop) (turned : TookTurn course air mid.air now.air (party_at mid) (party_at now) (λ next. turn_inputs next before moment) result) (end : Turn) → turned.next ≡ end
          → ¬ IsOpen end → course.is_over now.party ≡ false
      still-open result turned end is not_open =
          ap (λ (a : AtDisk P D). course.is_over a.it) (turned.same (subst (λ (t : Turn). ¬ IsOpen t) (sym is) not_open)) ∙ not_over

      -- the end of the air
      pub turns-closed : (open_is : Bool) → open_is ≡ false → TookTurn course air mid.air now.air (party_at mid) (party_at now) (λ next. turn_inputs next before moment) (Ok open_is)
          → Took now (Ok (finished.Closed (count + 1)))
      turns-closed open_is is_false taken =
          let turned = subst (λ b. TookTurn course air mid.air now.air (party_at mid) (party_at now) (λ next. turn_inputs next before moment) (Ok b)) is_false taken in
          let takes = turned.ends.1 in
          within (Ok false) turned (Ok (finished.Closed (count + 1))) (Ok tt) takes ((h.turns, ap (λ t. h.turns ++ t ∷ []) turned.ends.0, h.all_open), sym (counted_n (Ok false) turned))
          (turned.counts.0 ∙ h.reads, turned.counts.1 ∙ h.writes) (goes_n (Ok false) turned takes, takes.ends.1, still-open (Ok false) turned turn.End turned.ends.0 (λ n. n))

      -- a stop
      pub turns-stopped : (why : NodeStop)
          → TookTurn course air mid.air now.air (party_at mid) (party_at now) (λ next. turn_inputs next before moment) (Err why) → Took now (Err why)
      turns-stopped stop.AirRead turned =
          let takes = turned.ends.1 in
          within (Err stop.AirRead) turned (Err stop.AirRead) (Ok tt) takes (h.turns, ap (λ t. h.turns ++ t ∷ []) turned.ends.0, h.all_open)
          (counts-from {T = Finished} (Err stop.AirRead) _ _ _ _ _ _ h.reads h.writes turned.counts) (goes_n (Err stop.AirRead) turned takes, takes.ends.1, still-open (Err stop.AirRead) turned turn.Fail turned.ends.0 (λ n. n))
      turns-stopped stop.AirWrite turned =
          let takes = turned.ends.1 in
          within (Err stop.AirWrite) turned (Err stop.AirWrite) (Err stop.AirWrite) takes (open-append h.turns turned.next h.all_open turned.ends.0)
          (counts-from {T = Finished} (Err stop.AirWrite) _ _ _ _ _ _ h.reads h.writes turned.counts) (stopped (Err stop.AirWrite) turned stop.AirWrite takes)
      turns-stopped stop.Disk turned =
          let takes = turned.ends.1 in
          within (Err stop.Disk) turned (Err stop.Disk) (Err stop.Disk) takes (open-append h.turns turned.next h.all_open turned.ends.0)
          (counts-from {T = Finished} (Err stop.Disk) _ _ _ _ _ _ h.reads h.writes turned.counts) (stopped (Err stop.Disk) turned stop.Disk takes)
      turns-stopped stop.OutOfMemory turned =
          let takes = turned.ends.1 in
          within (Err stop.OutOfMemory) turned (Err stop.OutOfMemory) (Err stop.OutOfMemory) takes (open-append h.turns turned.next h.all_open turned.ends.0)
          (counts-from {T = Finished} (Err stop.OutOfMemory) _ _ _ _ _ _ h.reads h.writes turned.counts) (stopped (Err stop.OutOfMemory) turned stop.OutOfMemory takes)
      turns-stopped stop.Spent turned = absurd turned.ends
      turns-stopped (stop.NotAStore found) turned = absurd turned.ends
      turns-stopped (stop.Damaged at) turned = absurd turned.ends
