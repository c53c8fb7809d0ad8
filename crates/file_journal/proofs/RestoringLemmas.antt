-- The recovery of a state that is kept.
use Rattle.std.proofs.Common.{◌≡◌, ◌≢◌, ◌↔◌, inl, inr, ⊎_elim, ℕ, ◌+◌, ◌<◌, ◌≤◌, Bool, true, false, not, nat_le, nat_lt, List, [], length, take, Option, None, Some, IfSome, Result, Ok, Err, IsErrOf, refl, sym, ◌∙◌, ap, subst, arith}
use Rattle.std.specs.Prelude.{if◌then◌else◌}
use Rattle.px_base.specs.Outside.{Rose}
use Rattle.file_journal.specs.Journal as journal
use Rattle.file_journal.specs.Recovery as recovering
use Rattle.file_journal.specs.Refusals.{fault_of_read, fault_of_recovery}
use Rattle.file_journal.specs.Restoring.{RefusesExactly}
use Rattle.file_journal.specs.Walk.{no_store}
use Rattle.file_journal.specs.declared.faults.RecoverFault.TheVariants as recovery
use Rattle.file_journal.specs.declared.faults.ReadFault.TheVariants as read
use Rattle.file_journal.specs.declared.faults.StoreFault.{StoreFault}
use Rattle.file_journal.specs.declared.faults.StoreFault.TheVariants as fault
use Rattle.file_journal.proofs.Names.{common_steps, bytes_eq, cases_lt, lt-ltb, le32, Only, Ghosts, RecoversInHalves, ChangesReads, IsQuietNow, Leaves, Reads, Runs, TellsAlike, images_now, Form, standing_of, HasGoodHeader, IsAfterRecovery, IsSameStore, Standing, is_block_number, journal_of, read_half, StandsAt, kept_on, Blocks, HasBlocks, block_in, blocks_on, first_gate, half_gate, half_in, AnswersAll, AppliesAll, Position, StandsOn, left_to_read, Reading, Record, whole, IsRecovering, IsSyncedFirst, Recovers, gate_in, AnswersRecovery, IsRestored, StandsAlike, IsSeenBy, Steps, walked, Stands, damaged_at, number_or, see, stands_of, state, walk, walk_left, Half, Layout, RecoverFault, ReadFault, changes_none, reads_now, stops_on, stops_reads, joined, reads, weaker, alike_on, alike_same, at_told, content_now, if_told, told_before, told_weaker}
use Rattle.file_journal.proofs.BoundLemmas.{recovers_reads}
use Rattle.file_journal.proofs.HoldLemmas.{held_kept, quiet_holds}
use Rattle.file_journal.proofs.LayoutLemmas.{gate_behind}
use Rattle.file_journal.proofs.PositionLemmas.{among_records}
use Rattle.file_journal.proofs.WalkLemmas.{fresh_same}

-- ---- what is refused

-- the answer of a recovery whose reading answers this
abbrev pub IsAnswerOf : {U T : Type 0} → Result U ReadFault → Result T StoreFault → Type 0
IsAnswerOf {U} {T} (Ok x) result = (y : T) × (result ≡ Ok y)
IsAnswerOf (Err e) result = result ≡ Err (fault_of_read e)

module _ {S C T : Type 0} (form : Form S C) (blocks : ℕ) (before : List ℕ) (result : Result T StoreFault) where
  exactly_no_store : (found : List ℕ) → standing_of form blocks before ≡ no_store found → result ≡ Err (fault.NotAStore found) → RefusesExactly form blocks before result
  exactly_no_store found stands answered = record { not_a_store = λ other. (λ is. cc, λ is. cc); damaged = λ at. (λ is. cc, λ is. cc) }

  exactly_damaged : (place : ℕ) → standing_of form blocks before ≡ damaged_at place → result ≡ Err (fault.Damaged place) → RefusesExactly form blocks before result
  exactly_damaged place stands answered = record { not_a_store = λ other. (λ is. cc, λ is. cc); damaged = λ at. (λ is. cc, λ is. cc) }

  exactly_state : (now : S) (x : T) → standing_of form blocks before ≡ state now → result ≡ Ok x → RefusesExactly form blocks before result
  exactly_state now x stands answered = record { not_a_store = λ other. (λ is. cc, λ is. cc); damaged = λ at. (λ is. cc, λ is. cc) }

  -- what is answered behind a reading
  answered_read : {R U : Type 0} (step : R → Record → Option R) (seen : R → S) (reading : Result U ReadFault) (first : Position) (start now : R) (octets : List ℕ)
      → standing_of form blocks before ≡ see seen (walk_left step first start octets)
      → AppliesAll step first start now octets reading → IsAnswerOf reading result → ¬ (result ≡ Err fault.Disk) → ¬ (result ≡ Err fault.OutOfMemory) → RefusesExactly form blocks before result
  answered_read step seen (Ok x) first start now octets left all is healthy room = exactly_state (seen now) is.0 (left ∙ ap (see seen) all.ok) is.1
  answered_read step seen (Err (read.Damaged at)) first start now octets left all is healthy room = exactly_damaged at (left ∙ ap (see seen) ((all.damaged at).0 refl)) is
  answered_read step seen (Err read.Disk) first start now octets left all is healthy room = absurd (healthy is)
  answered_read step seen (Err read.OutOfMemory) first start now octets left all is healthy room = absurd (room is)

-- ---- damage is found behind a whole header alone

-- without records
abbrev HasNoRecords : Standing → Type 0
HasNoRecords (journal.no_store found) = Unit {0}
HasNoRecords journal.bad_number = Unit {0}
HasNoRecords (journal.store number reading) = reading ≡ whole []

tests_short : (a b c d : Bool) (found : List ℕ) (n : ℕ) (reading : Reading) → d ≡ true
    → HasNoRecords (if a then journal.store None (whole []) else if b then journal.no_store found else if c then journal.bad_number else if d then journal.store (Some n) (whole []) else journal.store_of n reading)
tests_short true b c d found n reading short = refl
tests_short false true c d found n reading short = tt
tests_short false false true d found n reading short = tt
tests_short false false false true found n reading short = refl
tests_short false false false false found n reading short = cc short

see_damaged : {S V : Type 0} (seen : S → V) (stands : Stands S) (at : ℕ) → see seen stands ≡ damaged_at at → stands ≡ damaged_at at
see_damaged seen stands at is = grind arith

module _ {S K V C : Type 0} (steps : Steps S K) (seen : Blocks → K → V) (form : Form V C) (law : IsSeenBy steps seen form) (blocks : ℕ) where
  -- a state as what is kept of it is seen
  abbrev sees : Blocks → S → V
  sees held now = seen held (steps.kept now)

  -- the place of the first gate of octets that have their block number
  abbrev gate_at : List ℕ → ℕ
  gate_at octets = first_gate form.layout (le32 octets 8)

  -- a store that isn't formatted whole has no records
  short_store : (octets : List ℕ) → length octets < gate_at octets + 2 → HasNoRecords (journal_of form.magic form.layout octets)
  unfolding journal_of
  short_store octets short =
      tests_short (nat_le (length octets) 16) (not (bytes_eq (take 8 octets) form.magic)) (not (is_block_number (le32 octets 8))) (nat_lt (length octets) (gate_at octets + 2)) (take 8 octets)
      (le32 octets 8) (read_half form.layout (le32 octets 8) (half_in form.layout octets) octets) (lt-ltb (length octets) (gate_at octets + 2) short)

  -- so it is no damage, but by its number
  short_sound : (held : Blocks) (chosen : Half) (stands : Standing) (at : ℕ) → HasNoRecords stands → (stands ≡ journal.bad_number → ⊥) → stands_of steps.fresh (steps.step held) form.layout chosen blocks stands ≡ damaged_at at → ⊥
  short_sound held chosen (journal.no_store found) at none good is = cc is
  short_sound held chosen journal.bad_number at none good is = good refl
  short_sound held chosen (journal.store number reading) at none good is =
      let place = half_gate form.layout (number_or blocks number) chosen in
      let damage : walk (steps.step held) (steps.fresh (number_or blocks number)) place (whole []) ≡ damaged_at at =
      ap (λ (r : Reading). walk (steps.step held) (steps.fresh (number_or blocks number)) place r) (sym none) ∙ is in
      cc damage

  formatted : (octets : List ℕ) (at : ℕ) → (journal_of form.magic form.layout octets ≡ journal.bad_number → ⊥) → standing_of form blocks octets ≡ damaged_at at → gate_at octets + 2 ≤ length octets
  formatted octets at good is = grind (arith, common_steps, cases_lt, short_sound, short_store, see_damaged)

  stays : (octets now : List ℕ) → gate_at octets + 2 ≤ length octets → IsAfterRecovery form.magic form.layout blocks octets now → now ≡ octets
  stays octets now full after = (after.known (omega (arith, full, gate_behind form.layout (le32 octets 8)))).same full

  -- without records it stands for the same, whatever the blocks hold
  fresh_seen : (one other : Blocks) (chosen half_now : Half) (store : Standing) → HasNoRecords store
      → see (sees other) (stands_of steps.fresh (steps.step other) form.layout half_now blocks store) ≡ see (sees one) (stands_of steps.fresh (steps.step one) form.layout chosen blocks store)
  fresh_seen one other chosen half_now x4 none = grind (arith, common_steps, fresh_same)

  -- Octets that are the same store stand for the same, where a store that is formatted whole is left as it is.
  same_standing : (before image : List ℕ) → IsSameStore blocks (journal_of form.magic form.layout before) (journal_of form.magic form.layout image) → (gate_at before + 2 ≤ length before → image ≡ before)
      → standing_of form blocks image ≡ standing_of form blocks before
  same_standing before image same kept = elim (cases_lt (length before) (gate_at before + 2)) [
    | inr full ↦ ap (standing_of form blocks) (kept full)
    | inl short ↦ law.standing blocks image ∙ by (short_store before short) same ∙ sym (law.standing blocks before)
  ]
    where
      was : Half
      was = half_in form.layout before

      is_now : Half
      is_now = half_in form.layout image

      by : HasNoRecords (journal_of form.magic form.layout before) → IsSameStore blocks (journal_of form.magic form.layout before) (journal_of form.magic form.layout image)
          → see (sees (block_in image)) (walked steps form.magic form.layout blocks image) ≡ see (sees (block_in before)) (walked steps form.magic form.layout blocks before)
      by none x1 = grind (arith, common_steps, is_now, fresh_seen, fresh_same)

  stands_alike : (before image : List ℕ) → IsRecovering form.magic form.layout blocks before image → StandsAlike form blocks before image
  stands_alike before image left = record { same = same_standing before image left.same (λ full. left.formatted (full_in before full)); octets = left }
    where
      full_in : (octets : List ℕ) → gate_at octets + 2 ≤ length octets → gate_in form.layout blocks octets + 2 ≤ length octets
      full_in octets full = grind (arith, common_steps, gate_behind)

  module _ {D : Type 0} (g : Ghosts D) (old mid new : D) where
    leaves_alike : Leaves g old mid (IsRecovering form.magic form.layout blocks) → Leaves g old mid (StandsAlike form blocks)
    leaves_alike leaves = told_weaker (g.content old) _ _ (λ before told left. weaker g.moment g.images_since old mid _ (StandsAlike form blocks before) (stands_alike before) left) leaves

    synced_alike : (before : List ℕ) → ChangesReads g mid new → IsSyncedFirst g old mid (IsRecovering form.magic form.layout blocks before) → IsSyncedFirst g old new (StandsAlike form blocks before)
    synced_alike before only synced = record {
      later = omega (arith, synced.later, only.same_moment);
      each = λ image left. stands_alike before image (synced.each image ((only.same_past (g.moment old + 1) image).0 left));
    }

untold : (before now : Option (List ℕ)) → TellsAlike before now → before ≡ None → now ≡ None
untold before x1 alike none = grind (arith, common_steps, told_before)

-- ---- the calls of both

pub runs_read : {D : Type 0} (g : Ghosts D) (on : (first second third : D) → g.lasts first second → g.lasts second third → g.lasts first third) (same : (disk : D) → g.lasts disk disk) (P Q R : Type 0) (old mid new : D)
    → ¬ P → (Q → R) → (R → Q) → Runs g P old mid → Reads g Q mid new → Runs g R old new
runs_read g on same P Q R old mid new fine there back first second =
    let kept = first.faults.same fine in
    record {
      told = alike_on _ _ _ first.told (alike_same _ _ second.only.same_content);
      faults = record {
        reads = subst (λ (n : ℕ). n ≤ g.read_faults new) kept.0 second.faults.no_less;
        writes = omega (arith, kept.1, second.only.same_write_faults);
        rose = λ failed. inl (subst (λ (n : ℕ). Rose n (g.read_faults new)) kept.0 (second.faults.rose (back failed)));
        same = λ still. (second.faults.same (λ q. still (there q)) ∙ kept.0, second.only.same_write_faults ∙ kept.1);
      };
      stops = stops_on g on old mid new first.lasts kept.0 kept.1 (stops_reads g mid new (same mid) second.lasts second.only);
      lasts = on old mid new first.lasts second.lasts;
    }

pub runs_same : {D : Type 0} (g : Ghosts D) (P Q : Type 0) (old new : D) → (P → Q) → (Q → P) → Runs g P old new → Runs g Q old new
runs_same g P Q old new there back runs = record {
  told = runs.told;
  faults = record {
    reads = runs.faults.reads;
    writes = runs.faults.writes;
    rose = λ failed. runs.faults.rose (back failed);
    same = λ fine. runs.faults.same (λ p. fine (there p));
  };
  stops = runs.stops;
  lasts = runs.lasts;
}

-- ---- the faults of both

recovery_fault : (e : RecoverFault) → (fault_of_recovery e ≡ fault.Disk → e ≡ recovery.Disk) × (fault_of_recovery e ≢ fault.OutOfMemory)
recovery_fault e = (λ is. grind arith, λ is. grind arith)

-- what the answer of a recovery tells of its reading's
reads_fault : {U T : Type 0} (reading : Result U ReadFault) (result : Result T StoreFault) → IsAnswerOf reading result
    → (IsErrOf reading read.Disk ↔ IsErrOf result fault.Disk) × (IsErrOf reading read.OutOfMemory → IsErrOf result fault.OutOfMemory)
    × ((at : ℕ) → IsErrOf result (fault.Damaged at) → IsErrOf reading (read.Damaged at)) × ((found : List ℕ) → ¬ IsErrOf result (fault.NotAStore found))
reads_fault (Ok x) result is = let answer = is.1 in ((λ was. cc, λ was. cc), λ was. cc, λ at was. cc, λ found was. cc)
reads_fault (Err (read.Damaged place)) result is = ((λ was. cc, λ was. cc), λ was. cc, λ at was. cc, λ found was. cc)
reads_fault (Err read.Disk) result is = ((λ was. cc, λ was. cc), λ was. cc, λ at was. cc, λ found was. cc)
reads_fault (Err read.OutOfMemory) result is = ((λ was. cc, λ was. cc), λ was. cc, λ at was. cc, λ found was. cc)

-- ---- what is answered

module _ {D S K V C : Type 0} (g : Ghosts D) (steps : Steps S K) (seen : Blocks → K → V) (form : Form V C) (law : IsSeenBy steps seen form) (blocks : ℕ) where
  refused_as : (before : List ℕ) (stands : Standing) → journal_of form.magic form.layout before ≡ stands
      → standing_of form blocks before ≡ see (sees steps seen form law blocks (block_in before)) (stands_of steps.fresh (steps.step (block_in before)) form.layout (half_in form.layout before) blocks stands)
  refused_as before stands is = grind (arith, common_steps)

  pub good_header : (before : List ℕ) (now : V) → standing_of form blocks before ≡ state now → HasGoodHeader (journal_of form.magic form.layout before)
  good_header before now is = (λ found other. cc (sym is ∙ refused_as before _ other), λ other. cc (sym is ∙ refused_as before _ other))

  -- a refusal of the journal
  refused_recovery : {T U : Type 0} (before : List ℕ) (result : Result T StoreFault) (e : RecoverFault) → recovering.RefusesExactly {T = U} form.magic form.layout before (Err e) → result ≡ Err (fault_of_recovery e)
      → ¬ (result ≡ Err fault.Disk) → RefusesExactly form blocks before result
  refused_recovery before result (recovery.NotAStore found) refuses is healthy = exactly_no_store form blocks before result found (refused_as before _ ((refuses.not_a_store found).0 refl)) is
  refused_recovery before result (recovery.Damaged at) refuses is healthy =
      let bad = (refuses.damaged at).0 refl in
      exactly_damaged form blocks before result at (refused_as before _ bad.1 ∙ ap (λ (n : ℕ). damaged_at n) (sym bad.0)) is
  refused_recovery before result recovery.Disk refuses is healthy = absurd (healthy is)

  -- where the journal is refused
  pub answers_refused : {U T : Type 0} (old new : D) (e : RecoverFault) (result : Result T StoreFault) → result ≡ Err (fault_of_recovery e) → recovering.Refuses {T = U} form.magic form.layout (g.content old) (Err e)
      → (¬ IsErrOf {T = U} (Err e) recovery.Disk → g.content new ≡ g.content old) → Runs g (IsErrOf {T = U} (Err e) recovery.Disk) old new → Leaves g old new (IsRecovering form.magic form.layout blocks)
      → recovering.LeavesSinceSync {T = U} g (Err e) old new (IsRecovering form.magic form.layout blocks) → RecoversInHalves g form.layout blocks old new → AnswersRecovery g form blocks result old new
  answers_refused {U} old new e result is refuses same runs since_start since_sync within =
      let there = λ (was : IsErrOf {T = U} (Err e) recovery.Disk). let is_disk : e ≡ recovery.Disk = cc in is ∙ ap (λ (e : RecoverFault). Err (fault_of_recovery e)) is_disk in
      record {
        refuses = λ healthy room. told_weaker (g.content old) _ _ (λ before told refuses. refused_recovery before result e refuses is healthy) (refuses (λ was. healthy (there was)));
        untouched = λ found was. same (λ disk. cc (there disk, was));
        untouched_damage = λ at was. same (λ disk. cc (there disk, was));
        memory = λ was. absurd ((recovery_fault e).1 (cc (is, was)));
        runs = runs_same g _ _ old new there (λ was. ap Err ((recovery_fault e).0 (cc (is, was)))) runs;
        since_start = leaves_alike steps seen form law blocks g old new new since_start;
        since_sync = told_weaker (g.content old) _ _ (λ before told left. ⊎_elim (λ synced. inl (synced_alike steps seen form law blocks g old new new before (changes_none g new) synced)) (λ failed. inr (there failed.0, failed.1)) left) since_sync;
        within = within;
      }

  -- What was recovered, and read from then on.
  module _ {P Q : Type 0} (old mid new : D) (first : Position) (start : S) (recovered : recovering.IsRecovered g form.magic form.layout blocks old mid first) (fine : ¬ P) (runs : Runs g P old mid)
      (fresh : start ≡ steps.fresh first.blocks) (run : Reads g Q mid new) where
    -- the journal stands in the half that the octets say
    half_there : (octets : List ℕ) → g.content mid ≡ Some octets → half_in form.layout octets ≡ first.half
    half_there octets told = grind (arith, common_steps, at_told, among_records)

    -- what is read of the store is what is left
    walked_left : (octets : List ℕ) → g.content mid ≡ Some octets → journal_of form.magic form.layout octets ≡ journal.store_of first.blocks (left_to_read first octets) → (n : ℕ)
        → walked steps form.magic form.layout n octets ≡ walk_left (steps.step (block_in octets)) first start octets
    walked_left octets told stands n = grind (arith, common_steps, half_there)

    -- all is left to read
    all_left : (before : List ℕ) → g.content old ≡ Some before
        → (octets : List ℕ) × (g.content mid ≡ Some octets) × Recovers form.magic form.layout blocks first before octets
        × (standing_of form blocks before ≡ see (sees steps seen form law blocks (block_in octets)) (walk_left (steps.step (block_in octets)) first start octets))
    all_left before told =
        let made = at_told (λ (b : List ℕ). (octets : List ℕ) × (g.content mid ≡ Some octets) × Recovers form.magic form.layout blocks first b octets) before told recovered.content in (
          made.0,
          made.1,
          made.2,
          sym (same_standing steps seen form law blocks before made.0 made.2.same (λ full. stays steps seen form law blocks before made.0 full made.2.octets))
              ∙ law.standing blocks made.0 ∙ ap (see (sees steps seen form law blocks (block_in made.0))) (walked_left made.0 made.1 made.2.whole blocks),
        )

    -- a state was read
    module _ (position : Position) (now : S) (all : IfSome (g.content mid) (λ octets. walk_left (steps.step (block_in octets)) first start octets ≡ state now)) (stands : StandsOn g position new)
        (same : position ≡ record first { place = position.place; ended = position.ended }) (ended : position.ended ≡ true) (number : steps.number (steps.kept now) ≡ steps.number (steps.kept start)) (reached : steps.is_state now) where
      quiet_now : IsQuietNow g new
      quiet_now = if_told (g.content new) _ (λ octets told image here. at_told (Only (images_now g mid)) octets (sym run.only.same_content ∙ told) recovered.quiet image (reads_now g mid new run.only image here))

      pub restored_at : StandsAt g form steps position (steps.kept now) new
      restored_at = record {
        magic_is = ap (λ (p : Position). p.magic) same ∙ recovered.magic_is;
        layout_is = ap (λ (p : Position). p.layout) same ∙ recovered.layout_is;
        holds = quiet_holds g steps seen form law position (steps.kept now) new (law.kept_state now reached) stands ended
            (if_told (g.content new) _ (λ octets told_new.
            let told_mid : g.content mid ≡ Some octets = sym run.only.same_content ∙ told_new in
            let was = content_now (g.content old) (g.content mid) (Recovers form.magic form.layout blocks first) octets runs.told recovered.content told_mid in (
              now,
              ap (λ (p : Position). walked steps p.magic p.layout p.blocks octets) same
                  ∙ subst (λ (m : List ℕ). walked steps m first.layout first.blocks octets ≡ state now) (sym recovered.magic_is)
                  (subst (λ (l : Layout). walked steps form.magic l first.blocks octets ≡ state now) (sym recovered.layout_is)
                  (walked_left octets told_mid was.2.whole first.blocks ∙ at_told (λ (o : List ℕ). walk_left (steps.step (block_in o)) first start o ≡ state now) octets told_mid all)),
              refl,
            )))
            quiet_now
            (λ has.
            let blocks_layout : HasBlocks form.layout = subst HasBlocks (ap (λ (p : Position). p.layout) same ∙ recovered.layout_is) has in
            ap (λ (p : Position). p.blocks) same ∙ sym (number ∙ ap (λ (s : S). steps.number (steps.kept s)) fresh ∙ law.fresh_number blocks_layout first.blocks));
      }

      pub restored : IsRestored g form blocks old (kept_on (seen (blocks_on (g.content new)) (steps.kept now)) position new)
      restored = record {
        content = if_told (g.content old) _ (λ before told.
            let left = all_left before told in
            left.3 ∙ ap (see (sees steps seen form law blocks (block_in left.0))) (at_told (λ (o : List ℕ). walk_left (steps.step (block_in o)) first start o ≡ state now) left.0 left.1 all)
            ∙ ap (λ (o : Option (List ℕ)). state (seen (blocks_on o) (steps.kept now))) (sym (run.only.same_content ∙ left.1)));
        octets = if_told (g.content old) _ (λ before told. let left = all_left before told in (left.0, run.only.same_content ∙ left.1, left.2.octets));
        healthy = ap (λ (p : Position). p.failed) same ∙ recovered.healthy;
        ended = ended;
        magic_is = restored_at.magic_is;
        number = told_weaker (g.content old) _ _ (λ before told made. ap (λ (p : Position). p.blocks) same ∙ made.2.same_number) recovered.content;
        keeps = held_kept g steps seen form law position (steps.kept now) new restored_at;
        quiet = quiet_now;
      }

    -- damage leaves the content as it was
    damage_leaves : (at : ℕ) → IfSome (g.content old) (λ before. journal_of form.magic form.layout before ≡ journal.bad_number → ⊥) → IfSome (g.content mid) (λ octets. walk_left (steps.step (block_in octets)) first start octets ≡ damaged_at at)
        → g.content new ≡ g.content old
    damage_leaves at good damaged = by (g.content old) refl
      where
        by : (o : Option (List ℕ)) → g.content old ≡ o → g.content new ≡ g.content old
        by None none = run.only.same_content ∙ untold (g.content old) (g.content mid) runs.told none ∙ sym none
        by (Some before) told =
            let left = all_left before told in
            let is = left.3 ∙ ap (see (sees steps seen form law blocks (block_in left.0))) (at_told (λ (octets : List ℕ). walk_left (steps.step (block_in octets)) first start octets ≡ damaged_at at) left.0 left.1 damaged) in
            let long = formatted steps seen form law blocks before at (at_told (λ (l : List ℕ). journal_of form.magic form.layout l ≡ journal.bad_number → ⊥) before told good) is in
            run.only.same_content ∙ left.1 ∙ ap (λ (l : List ℕ). Some l) (stays steps seen form law blocks before left.0 long left.2.octets) ∙ sym told

  pub answers_read : {U T : Type 0} (on : (a b c : D) → g.lasts a b → g.lasts b c → g.lasts a c) (same : (disk : D) → g.lasts disk disk) (old mid new : D) (first : Position) (start now : S)
      (reading : Result U ReadFault) (result : Result T StoreFault) → IsAnswerOf reading result → start ≡ steps.fresh first.blocks
      → recovering.IsRecovered g form.magic form.layout blocks old mid first → recovering.Refuses form.magic form.layout (g.content old) (Ok first) → Runs g (IsErrOf (Ok first) recovery.Disk) old mid
      → Leaves g old mid (IsRecovering form.magic form.layout blocks) → recovering.LeavesSinceSync g (Ok first) old mid (IsRecovering form.magic form.layout blocks)
      → RecoversInHalves g form.layout blocks old mid → AnswersAll steps.step first start now (g.content mid) reading → Reads g (IsErrOf reading read.Disk) mid new → AnswersRecovery g form blocks result old new
  answers_read on same old mid new first start now reading result is fresh recovered refuses runs since_start since_sync within all run =
      let faults = reads_fault reading result is in
      let fine : ¬ IsErrOf (Ok first) recovery.Disk = λ failed. cc in
      let good : IfSome (g.content old) (λ before. HasGoodHeader (journal_of form.magic form.layout before)) =
      told_weaker (g.content old) _ _ (λ before told refuses. (λ found no. cc ((refuses.not_a_store found).1 no), λ bad. cc ((refuses.damaged 8).1 (refl, bad)))) (refuses fine) in
      record {
        refuses = λ healthy room. if_told (g.content old) _ (λ before told.
            let left = all_left old mid new first start recovered fine runs fresh run before told in
            answered_read form blocks before result (steps.step (block_in left.0)) (sees steps seen form law blocks (block_in left.0)) reading first start now left.0 left.3
            (at_told _ left.0 left.1 (all (λ was. healthy (faults.0.0 was)) (λ was. room (faults.1 was)))) is healthy room);
        untouched = λ found was. absurd (faults.3 found was);
        untouched_damage = λ at was.
            let damage = faults.2 at was in
            damage_leaves old mid new first start recovered fine runs fresh run at (told_weaker (g.content old) _ _ (λ before told header. header.1) good)
            (told_weaker (g.content mid) _ _ (λ octets told applies. (applies.damaged at).0 damage) (all (λ disk. cc (disk, damage)) (λ memory. cc (memory, damage))));
        memory = λ was. good;
        runs = runs_read g on same _ _ _ old mid new fine faults.0.0 faults.0.1 runs run;
        since_start = told_weaker (g.content old) _ _ (λ before told left.
            joined g.moment g.images_since old mid new (StandsAlike form blocks before) left (reads g.moment g.images_since mid new (StandsAlike form blocks before) run.only.same_moment run.only.same_past))
            (leaves_alike steps seen form law blocks g old mid new since_start);
        since_sync = told_weaker (g.content old) _ _ (λ before told left. ⊎_elim (λ synced. inl (synced_alike steps seen form law blocks g old mid new before run.only synced)) (λ failed. absurd (fine failed.0)) left) since_sync;
        within = recovers_reads g form.layout blocks old mid new run.only within;
      }
