-- What a change does that has room made for it, puts something in a block, and its record behind that.
use Rattle.std.proofs.Common.{◌≡◌, inl, ⊎_elim, ℕ, zero, suc, ◌+◌, ◌-◌, ◌≤◌, false, List, [], ◌∷◌, length, take, Option, Some, IfSome, refl, sym, ◌∙◌, ap, subst, arith}
use Rattle.file_journal.proofs.Names.{common_steps, slice_get, LeavesOnly, Ghosts, StaysInHalves, EachImage, Leaves, Puts, TellsAlike, images_now, AreAllowed, MakesBetween, MakesFirst, after_first, done_at, octets_of, Form, StandsFor, record_calls, Does, HasRoomFor, IsCut, IsKept, KeptOn, Paces, StandsAt, kept_on, Blocks, HoldSame, block_in, blocks_on, rewriting_calls, Layout, IsSameJournal, MovesOn, Position, GoesOn, StandsForEither, StaysKept, TurnsInto, seen_on, Record, HasPut, IsSeenBy, Knows, Steps, Turn, WritesTurn, puts_on, puts_same, joined, weaker, at_told, if_told, knows_on, told_before, told_weaker}
use Rattle.file_journal.proofs.BoundLemmas.{halves_on}
use Rattle.file_journal.proofs.CommandLemmas.{makes_none}
use Rattle.file_journal.proofs.DoesLemmas.{same_then}
use Rattle.file_journal.proofs.HoldLemmas.{held_kept}
use Rattle.file_journal.proofs.KeptLemmas.{images_here, put_cut, put_done}

-- what a crash left before, or since, is what each image is now
each_since : {D : Type 0} (g : Ghosts D) (earlier : (disk : D) (t u : ℕ) (image : List ℕ) → t ≤ u → g.images_since disk u image → g.images_since disk t image)
    (old new : D) (P : List ℕ → Type 0) → TellsAlike (g.content old) (g.content new) → EachImage g old P → Leaves g old new (λ _. P) → EachImage g new P
each_since g earlier old new P alike each leaves = if_told (g.content new) _ (λ octets told_new image left.
    let was = told_before (g.content old) (g.content new) octets alike told_new in
    let made = at_told (λ (_ : List ℕ). _) was.0 was.1 leaves in
    ⊎_elim (λ before. at_told (λ (_ : List ℕ). (i : List ℕ) → images_now g old i → P i) was.0 was.1 each image before) (λ is. is)
    (made.each (g.moment old) image (omega arith) (earlier new (g.moment old) (g.moment new) image made.later left)))

-- When the first of some commands begin at a moment, and the calls of one of them after others, up to this moment.
abbrev pub paced : ℕ → ℕ → ℕ → ℕ → ℕ
paced start ready calls zero = start
paced start ready calls (suc count) = start + (ready - start) + calls

-- one command takes its calls, and others come before them only where there is no room for its record, those of a
-- rewriting at most
pub one_paces : {S C : Type 0} (form : Form S C) (journal : Position) (start ready : ℕ) (command : C) → ready ≤ start + rewriting_calls journal.blocks
    → (HasRoomFor form journal (command ∷ []) → ready ≡ start) → Paces form journal start (command ∷ []) (paced start ready (form.calls command))
one_paces {C = C} form journal start ready command few room = record {
  starts = refl;
  rises = rises;
  most = most;
  exact = exact;
}
  where
    time : ℕ → ℕ
    time = paced start ready (form.calls command)

    rises : (count : ℕ) (other : C) → slice_get (command ∷ []) count ≡ Some other → time count + form.calls other ≤ time (count + 1)
    rises x0 other is = grind (arith, common_steps)

    most : (count : ℕ) (other : C) → slice_get (command ∷ []) count ≡ Some other → time (count + 1) ≤ time count + form.calls other + rewriting_calls journal.blocks
    most x0 other is = grind (arith, common_steps)

    exact : (count : ℕ) → count ≤ length (command ∷ []) → HasRoomFor form journal (take count (command ∷ [])) → time count ≡ done_at form start (command ∷ []) count
    exact x0 within has = grind (arith, common_steps)

module _ {D : Type 0} (g : Ghosts D) where
  -- the journal goes on, and then another time
  pub goes_then : ((a b c : D) → g.lasts a b → g.lasts b c → g.lasts a c) → (P Q : Type 0) (first second third : Position) (old mid new : D) → ¬ P
      → GoesOn g P first second old mid → GoesOn g Q second third mid new → GoesOn g Q first third old new
  goes_then on P Q first second third old mid new fine one other = record {
    journal = same_then first second third one.journal other.journal;
    fails = other.fails;
    goes_on = other.goes_on;
    puts = puts_on g on old mid new P Q fine one.puts other.puts;
    within =
        halves_on g first.layout second.layout first.blocks second.blocks old mid new (ap (λ (p : Position). p.layout) one.journal.same) (ap (λ (p : Position). p.blocks) one.journal.same) one.within
        other.within;
  }

  -- however a failure is named
  pub goes_other : (P Q : Type 0) (before now : Position) (old new : D) → (P → Q) → (Q → P) → GoesOn g P before now old new → GoesOn g Q before now old new
  goes_other P Q before now old new there back goes = record {
    journal = goes.journal;
    fails = λ bad. goes.fails (back bad);
    goes_on = λ good. goes.goes_on (λ bad. good (there bad));
    puts = puts_same g old new P Q there back goes.puts;
    within = goes.within;
  }

  -- the moment behind a block that is written, and a record
  pub calls_both : (old mid new : D) (block calls : ℕ) → TellsAlike (g.content old) (g.content mid) → IfSome (g.content old) (λ _. g.moment mid ≡ g.moment old + block)
      → IfSome (g.content mid) (λ _. g.moment new ≡ g.moment mid + record_calls) → calls ≡ block + record_calls → IfSome (g.content old) (λ _. g.moment new ≡ g.moment old + (calls + 0))
  calls_both old mid new block calls alike first second all = grind (arith, common_steps, if_told, told_before, at_told)

module _ {D S K V C : Type 0} (g : Ghosts D) (steps : Steps S K) (seen : Blocks → K → V) (form : Form V C) (law : IsSeenBy steps seen form)
    (earlier : (disk : D) (t u : ℕ) (image : List ℕ) → t ≤ u → g.images_since disk u image → g.images_since disk t image)
    (on : (a b c : D) → g.lasts a b → g.lasts b c → g.lasts a c) where
  -- what is kept is seen as it was
  seen_same : (P : Type 0) (old new : KeptOn D K) → StaysKept g form steps seen P old new → seen (blocks_on (g.content new.disk)) old.now ≡ seen (blocks_on (g.content old.disk)) old.now
  seen_same P old new stays = law.same_seen (blocks_on (g.content old.disk)) (blocks_on (g.content new.disk)) old.now (subst steps.is_kept stays.kept stays.stands_at.holds.reached) stays.same

  -- however a failure is named
  pub stays_other : (P Q : Type 0) (old new : KeptOn D K) → (P → Q) → (Q → P) → StaysKept g form steps seen P old new → StaysKept g form steps seen Q old new
  stays_other P Q old new there back stays = record {
    kept = stays.kept;
    stands_at = stays.stands_at;
    same = stays.same;
    since = stays.since;
    goes = goes_other g P Q old.journal new.journal old.disk new.disk there back stays.goes;
  }

  -- a crash since the start leaves what is seen as it was
  stays_left : (P : Type 0) (old new : KeptOn D K) → StaysKept g form steps seen P old new → Leaves g old.disk new.disk (λ _. StandsFor form (seen (blocks_on (g.content old.disk)) old.now))
  stays_left P old new stays = told_weaker (g.content old.disk) _ _ (λ octets told left.
      weaker g.moment g.images_since old.disk new.disk _ _ (λ image is. subst (λ (o : Option (List ℕ)). StandsFor form (seen (blocks_on o) old.now) image) (sym told) is) left) stays.since

  -- Room is made for the record of a command, and then that is done.
  module _ (P Q : Type 0) (command : C) (old mid new : KeptOn D K) (fine : ¬ P) (healthy : old.journal.failed ≡ false) (layout_is : old.journal.layout ≡ form.layout) (stays : StaysKept g form steps seen P old mid)
      (few : g.moment mid.disk ≤ g.moment old.disk + rewriting_calls old.journal.blocks) (room : HasRoomFor form mid.journal (command ∷ []))
      (same : HasRoomFor form old.journal (command ∷ []) → (mid.journal ≡ old.journal) × (mid.disk ≡ old.disk)) (does : Does g form Q (command ∷ []) (seen_on g seen mid) (seen_on g seen new)) where
    abbrev start : V
    start = seen (blocks_on (g.content old.disk)) old.now

    start_is : seen (blocks_on (g.content mid.disk)) mid.now ≡ start
    start_is = ap (seen (blocks_on (g.content mid.disk))) stays.kept ∙ seen_same P old mid stays

    abbrev alike : TellsAlike (g.content old.disk) (g.content mid.disk)
    alike = stays.goes.puts.told

    abbrev time : ℕ → ℕ
    time = paced (g.moment old.disk) (g.moment mid.disk) (form.calls command)

    one : does.time 1 ≡ g.moment mid.disk + form.calls command
    one = let is = does.paces.exact 1 (omega arith) room in omega (arith, is)

    -- what is so where the content was told, and is by then
    since_mid : {A B : Type 0} → ((later : g.moment old.disk ≤ g.moment mid.disk) → A → B) → IfSome (g.content mid.disk) (λ _. A) → IfSome (g.content old.disk) (λ _. B)
    since_mid {A = A} step is = if_told (g.content old.disk) _ (λ octets told.
        let there = told_before (g.content mid.disk) (g.content old.disk) octets (alike.1, alike.0) told in
        step (at_told (λ (o : List ℕ). LeavesOnly g.moment g.images_since old.disk mid.disk (StandsFor form (seen (block_in o) old.now))) octets told stays.since).later (at_told (λ (_ : List ℕ). A) there.0 there.1 is))

    pub does_behind : Does g form Q (command ∷ []) (seen_on g seen old) (seen_on g seen new)
    does_behind = record {
      time = time;
      paces = one_paces form old.journal (g.moment old.disk) (g.moment mid.disk) command few (λ has. ap g.moment (same has).1);
      healthy = healthy;
      stands_on = does.stands_on;
      allowed = λ known. subst (λ (v : V). AreAllowed form.allowed form.after v (command ∷ [])) start_is (does.allowed (knows_on form _ _ alike known));
      since = if_told (g.content old.disk) _ (λ octets told.
          let there = told_before (g.content mid.disk) (g.content old.disk) octets (alike.1, alike.0) told in
          joined g.moment g.images_since old.disk mid.disk new.disk (MakesFirst form start (command ∷ []))
          (weaker g.moment g.images_since old.disk mid.disk (StandsFor form start) (MakesFirst form start (command ∷ [])) (λ image is. makes_none form start (command ∷ []) image is)
          (at_told (λ (_ : List ℕ). _) octets told (stays_left P old mid stays)))
          (subst (λ (v : V). LeavesOnly g.moment g.images_since mid.disk new.disk (MakesFirst form v (command ∷ []))) start_is (at_told (λ (_ : List ℕ). _) there.0 there.1 does.since)));
      stay = λ good. since_mid (λ later stay count some most image left.
          let first : count ≡ 1 = omega (arith, some, most) in
          let at : time count ≡ does.time count = ap time first ∙ (let is : time 1 ≡ does.time 1 = omega (arith, one, later) in is) ∙ sym (ap does.time first) in
          subst (λ (v : V). MakesBetween form count 1 v (command ∷ []) image) start_is (stay count some most image (subst (λ (t : ℕ). g.images_since new.disk t image) at left))) (does.stay good);
      calls = λ good. since_mid (λ later is. omega (arith, is, one, later)) (does.calls good);
      at_most = omega (arith, does.at_most, one);
      none = λ empty. absurd (cc empty);
      puts = puts_on g on old.disk mid.disk new.disk P Q fine stays.goes.puts does.puts;
      reads = tt;
      done = λ good. let done = does.done good in (λ known. done.0 (knows_on form _ _ alike known) ∙ ap (λ (v : V). form.after v command) start_is, done.1);
      cut = λ bad. cut_behind (does.cut bad);
      journal = same_then old.journal mid.journal new.journal stays.goes.journal does.journal;
      moves = λ good has. subst (λ (j : Position). MovesOn (octets_of form (command ∷ [])) j new.journal) (same has).0 (does.moves good room);
      within = halves_on g form.layout form.layout old.journal.blocks mid.journal.blocks old.disk mid.disk new.disk refl (ap (λ (p : Position). p.blocks) stays.goes.journal.same)
          (subst (λ (l : Layout). StaysInHalves g l old.journal.blocks old.disk mid.disk) layout_is stays.goes.within) does.within;
    }
      where
        cut_behind : IsCut g form does.time (command ∷ []) (seen_on g seen mid) (seen_on g seen new) → IsCut g form time (command ∷ []) (seen_on g seen old) (seen_on g seen new)
        cut_behind cut =
            let none : cut.count ≡ 0 = let few = cut.fewer in omega (arith, few) in
            record {
              count = cut.count;
              fewer = cut.fewer;
              state = λ known. cut.state (knows_on form _ _ alike known) ∙ ap (λ (v : V). after_first form cut.count v (command ∷ [])) start_is;
              failed = cut.failed;
              images = subst (λ (v : V). EachImage g new.disk (MakesBetween form cut.count (cut.count + 1) v (command ∷ []))) start_is cut.images;
              stay = if_told (g.content old.disk) _ (λ octets told count some most. absurd (omega (arith, some, most, none)));
              calls = since_mid (λ later least.
                  omega (arith, ap time none, ap does.time none, least, later, does.paces.starts)) cut.calls;
              at_most = since_mid (λ later most.
                  omega (arith, ap (λ (n : ℕ). time (n + 1)) none, ap (λ (n : ℕ). does.time (n + 1)) none, most, one, later)) cut.at_most;
            }

  module _ (old mid : D) (before between : Position) (now there_now : K) (turn : Turn K C) (entry : Record) (writes : WritesTurn form steps seen now turn entry)
      (at : StandsAt g form steps before now old) (healthy : before.failed ≡ false) (lets : Knows form (g.content old) → turn.lets (blocks_on (g.content old)))
      (P : Type 0) (first : StaysKept g form steps seen P (kept_on now before old) (kept_on there_now between mid)) (time : ℕ → ℕ) (paces : Paces form before (g.moment old) (turn.command ∷ []) time) where
    abbrev here : V
    here = seen (blocks_on (g.content old)) now

    -- the disk stays within what the form says
    in_form : (new : D) (after : Position) (Q : Type 0) → GoesOn g Q before after old new → StaysInHalves g form.layout before.blocks old new
    in_form new after Q goes = subst (λ (l : Layout). StaysInHalves g l before.blocks old new) at.layout_is goes.within

    -- what it is seen as stays
    stays : seen (blocks_on (g.content mid)) now ≡ here
    stays = seen_same P (kept_on now before old) (kept_on there_now between mid) first

    allowed : Knows form (g.content old) → form.allowed here turn.command
    allowed known = writes.allowed (blocks_on (g.content old)) (lets known)

    left : Leaves g old mid (λ _. StandsFor form here)
    left = stays_left P (kept_on now before old) (kept_on there_now between mid) first

    there_before : EachImage g old (StandsFor form here)
    there_before = images_here form g law.own_number (kept_on here before old) (held_kept g steps seen form law before now old at) healthy

    -- the disk failed before the record
    pub turn_cut_first : P → g.moment mid ≤ time 1 → (Q : Type 0) → Q → Puts g Q old mid
        → Does g form Q (turn.command ∷ []) (kept_on here before old) (kept_on (seen (blocks_on (g.content mid)) there_now) between mid)
    turn_cut_first bad most Q failed puts =
        let last : seen (blocks_on (g.content mid)) there_now ≡ here = ap (seen (blocks_on (g.content mid))) first.kept ∙ stays in
        let keeps : IsKept g form (kept_on here between mid) = subst (λ (v : V). IsKept g form (kept_on v between mid)) last (held_kept g steps seen form law between there_now mid first.stands_at) in
        subst (λ (v : V). Does g form Q (turn.command ∷ []) (kept_on here before old) (kept_on v between mid)) (sym last)
        (put_cut form g old mid here (form.after here turn.command) before between turn.command healthy allowed (λ known. refl) first.goes.journal first.goes.puts.told
        (told_weaker (g.content old) _ _ (λ octets told left. weaker g.moment g.images_since old mid _ _ (λ image is. inl is) left) left) time paces most (in_form mid between P first.goes) Q failed puts (first.goes.fails bad) keeps
        (told_weaker (g.content mid) _ _ (λ octets told each image left. inl (each image left)) (each_since g earlier old mid (StandsFor form here) first.goes.puts.told there_before left)))

    -- The record is put behind that.
    module _ (new : D) (after : Position) (fine : ¬ P)
        (lets_mid : Knows form (g.content old) → turn.lets (blocks_on (g.content mid))) (there : Knows form (g.content old) → HasPut turn.puts (blocks_on (g.content mid)))
        (Q : Type 0) (turns : TurnsInto g form (seen (blocks_on (g.content mid)) now) (seen (blocks_on (g.content mid)) turn.next) Q mid new)
        (goes_on : GoesOn g Q between after mid new) (most : g.moment new ≤ time 1) where
      abbrev next : V
      next = seen (blocks_on (g.content mid)) turn.next

      next_is : Knows form (g.content old) → next ≡ form.after here turn.command
      next_is known = writes.sees (blocks_on (g.content mid)) (lets_mid known) (there known) ∙ ap (λ (v : V). form.after v turn.command) stays

      told : TellsAlike (g.content old) (g.content new)
      told = (λ t. first.goes.puts.told.0 (goes_on.puts.told.0 t), λ t. goes_on.puts.told.1 (first.goes.puts.told.1 t))

      either : Leaves g old new (λ _. StandsForEither form here next)
      either = if_told (g.content old) _ (λ octets told_old.
          let told_mid = told_before (g.content mid) (g.content old) octets (first.goes.puts.told.1, first.goes.puts.told.0) told_old in
          joined g.moment g.images_since old mid new _
          (weaker g.moment g.images_since old mid _ _ (λ image is. inl is) (at_told (λ (_ : List ℕ). _) octets told_old left))
          (weaker g.moment g.images_since mid new _ _ (λ image is. subst (λ (v : V). StandsForEither form v next image) stays is) (at_told (λ (_ : List ℕ). _) told_mid.0 told_mid.1 turns.since)))

      moved : IsSameJournal before after
      moved = same_then before between after first.goes.journal goes_on.journal

      in_halves : StaysInHalves g form.layout before.blocks old new
      in_halves = in_form new after Q (goes_then g on P Q before between after old mid new fine first.goes goes_on)

      all_puts : Puts g Q old new
      all_puts = puts_on g on old mid new P Q fine first.goes.puts goes_on.puts

      abbrev OneTurn : V → Type 0
      OneTurn last = Does g form Q (turn.command ∷ []) (kept_on here before old) (kept_on last after new)

      pub turn_done : ¬ Q → (s : K) → s ≡ turn.next → StandsAt g form steps after s new → HoldSame (steps.uses s) (blocks_on (g.content mid)) (blocks_on (g.content new)) → IfSome (g.content old) (λ _. g.moment new ≡ time 1)
          → (HasRoomFor form before (turn.command ∷ []) → MovesOn (octets_of form (turn.command ∷ [])) before after) → OneTurn (seen (blocks_on (g.content new)) s)
      turn_done good s is stands same_new calls moves =
          let last : seen (blocks_on (g.content new)) s ≡ next = law.same_seen (blocks_on (g.content mid)) (blocks_on (g.content new)) s stands.holds.reached same_new ∙ ap (seen (blocks_on (g.content mid))) is in
          subst OneTurn (sym last)
          (put_done form g old new here next before after turn.command healthy allowed next_is moved told either time paces most in_halves Q good all_puts calls
          (goes_on.goes_on good) (subst (λ (v : V). IsKept g form (kept_on v after new)) last (held_kept g steps seen form law after s new stands)) (turns.done good) moves)

      pub turn_cut : Q → (s : K) → s ≡ now → StandsAt g form steps after s new → HoldSame (steps.uses s) (blocks_on (g.content mid)) (blocks_on (g.content new))
          → OneTurn (seen (blocks_on (g.content new)) s)
      turn_cut bad s is stands same_new =
          let last : seen (blocks_on (g.content new)) s ≡ here = law.same_seen (blocks_on (g.content mid)) (blocks_on (g.content new)) s stands.holds.reached same_new ∙ ap (seen (blocks_on (g.content mid))) is ∙ stays in
          subst OneTurn (sym last)
          (put_cut form g old new here next before after turn.command healthy allowed next_is moved told either time paces most in_halves Q bad all_puts
          (goes_on.fails bad) (subst (λ (v : V). IsKept g form (kept_on v after new)) last (held_kept g steps seen form law after s new stands))
          (each_since g earlier old new (StandsForEither form here next) told (told_weaker (g.content old) _ _ (λ octets told_old each image left. inl (each image left)) there_before) either))
