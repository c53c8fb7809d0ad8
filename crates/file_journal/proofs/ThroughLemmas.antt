-- What stands on the disk from the recovery of a state on, through commands.
use Rattle.std.proofs.Common.{◌≡◌, ◌≢◌, ◌⊎◌, inl, inr, ⊎_elim, ℕ, ◌+◌, ◌≤◌, List, ◌++◌, length, Some, IfSome, refl, ◌∙◌, ap, subst, arith, length-append, ◌<◌, Bool, true, false, [], sym}
use Rattle.file_journal.specs.Through.{HadRoom, StandsThrough}
use Rattle.file_journal.proofs.Names.{puts_among, puts_among_reads, puts_among_same, puts_among_then, some_one, some_still, ⊤, Ghosts, CountsSome, Leaves, TellsAlike, MakesFirst, StayDone, calls_of, done_at, Form, StandsFor, TellsItsNumber, standing_of, Course, DoesInTurn, IsCut, KeptOn, IsSyncedFirst, StandsAlike, state, joined, weaker, alike_on, at_told, if_told, knew, known_told, knows_on, told_before, told_weaker, Halves, common_steps, DoesAmongReads, among_reads, one_if, ChangesReads, Reads, Does, IsKept, alone, kept_on, Position, changes_none, changes_on, reads}
use Rattle.file_journal.proofs.BoundLemmas.{halves_reads}
use Rattle.file_journal.proofs.CommandLemmas.{at_all, at_first, makes_none, paced_always, rises_all, rises_calls, room_some}
use Rattle.file_journal.proofs.DoesLemmas.{turn_both, turn_course, turn_none, turn_then}
use Rattle.file_journal.proofs.KeptLemmas.{images_here}

-- ---- what commands do to a state that is kept where reads come among them

module _ {D : Type 0} (g : Ghosts D) where
  module _ {S C : Type 0} (form : Form S C) where
    -- one run of reads, which failed or didn't
    pub reads_only : (failed : Bool) (now : S) (journal : Position) (old new : D) → g.lasts old old → Reads g (failed ≡ true) old new → journal.failed ≡ false → IsKept g form (kept_on now journal old)
        → DoesAmongReads g form ⊥ (one_if failed) [] (kept_on now journal old) (kept_on now journal new)
    reads_only failed now journal old new same run healthy stands =
        turn_none g form (among_reads g ⊥ (one_if failed)) ⊥ now journal old new (λ never. never) (grind (arith, common_steps)) healthy (grind (arith, common_steps)) run.only.same_moment run.only
        (puts_among_reads g (failed ≡ true) ⊥ old new same (λ never. never) run) (some_one _ _ failed run.faults) (halves_reads g form.layout journal.blocks old new run.only)

    -- commands alone
    pub among_does : (P : Type 0) (commands : List C) (old new : KeptOn D S) → Does g form P commands old new → DoesAmongReads g form P 0 commands old new
    among_does P commands old new does =
        turn_course g form (alone g P) (among_reads g P 0) P P commands old new (λ p. p) (λ p. p) (λ same. subst (λ (d : D). ChangesReads g old.disk d) (sym same) (changes_none g old.disk))
        (puts_among g P old.disk new.disk) (λ _. some_still _ _ does.puts.reads) does

    pub among_same : (P Q : Type 0) (missed other : ℕ) (commands : List C) (old new : KeptOn D S) → (P → Q) → (Q → P) → missed ≡ other → DoesAmongReads g form P missed commands old new
        → DoesAmongReads g form Q other commands old new
    among_same P Q missed other commands old new there back same does =
        turn_course g form (among_reads g P missed) (among_reads g Q other) P Q commands old new there back (λ i. i) (puts_among_same g P Q old.disk new.disk there back)
        (subst (λ (n : ℕ). CountsSome (g.read_faults old.disk) (g.read_faults new.disk) n) same) does

    -- one part, and then another
    pub among_then : ((first second third : D) → g.lasts first second → g.lasts second third → g.lasts first third) → (P Q : Type 0) (missed other : ℕ) (a b : List C) (old mid new : KeptOn D S) → ¬ P
        → DoesAmongReads g form P missed a old mid → DoesAmongReads g form Q other b mid new → DoesAmongReads g form Q (missed + other) (a ++ b) old new
    among_then on P Q missed other a b old mid new fine first second =
        turn_then g form (among_reads g P missed) (among_reads g Q other) (among_reads g Q (missed + other)) P Q a b old mid new fine first.puts.told second.puts.told first second
        (changes_on g old.disk mid.disk new.disk) (puts_among_then g on P Q old.disk mid.disk new.disk fine first.puts second.puts) (grind (arith, common_steps))

-- ---- from the recovery on, through commands

-- A recovery that gave a state, and then commands, of which the disk may have cut off the last: all of them together, and
-- the two parts.
module _ {D S C : Type 0} (g : Ghosts D) (form : Form S C) (own : TellsItsNumber form) (blocks : ℕ) (failed : Type 0) (disk : D) (start between new : KeptOn D S) (done cut : List C)
    (alike : TellsAlike (g.content disk) (g.content start.disk)) (stood : IfSome (g.content disk) (λ before. standing_of form blocks before ≡ state start.now))
    (since_start : Leaves g disk start.disk (StandsAlike form blocks)) (since_sync : IfSome (g.content disk) (λ before. IsSyncedFirst g disk start.disk (StandsAlike form blocks before)))
    (first_course second_course : Course D)
    (first : DoesInTurn g form first_course ⊥ done start between) (second : DoesInTurn g form second_course failed cut between new)
    (between_alike : TellsAlike (g.content start.disk) (g.content between.disk)) (later_alike : TellsAlike (g.content between.disk) (g.content new.disk)) where
  -- what stands for the same as the content stands for the state before the first command
  none_yet : (before image : List ℕ) → g.content disk ≡ Some before → StandsAlike form blocks before image → MakesFirst form start.now (done ++ cut) image
  none_yet before image told same =
      makes_none form start.now (done ++ cut) image (own blocks image start.now (same.same ∙ at_told (λ (octets : List ℕ). standing_of form blocks octets ≡ state start.now) before told stood))

  later_told : (before : List ℕ) → g.content disk ≡ Some before → (octets : List ℕ) × (g.content start.disk ≡ Some octets)
  later_told before told = told_before (g.content start.disk) (g.content disk) before (alike.1, alike.0) told

  -- what is so where the recovered content is told
  since_told : (P : Type 0) → IfSome (g.content start.disk) (λ _. P) → IfSome (g.content disk) (λ _. P)
  since_told P is = if_told (g.content disk) _ (λ before told. let there = later_told before told in at_told (λ (_ : List ℕ). P) there.0 there.1 is)

  -- the calls of the disk are said elsewhere
  abbrev any_course : Course D
  any_course = record { idle = λ old new. ⊤; puts = λ old new. ⊤; reads = λ old new. ⊤ }

  abbrev Both : Type 0
  Both = (all : DoesInTurn g form any_course failed (done ++ cut) start new) × (failed → (some : IsCut g form all.time (done ++ cut) start new) × (length done ≤ some.count))

  both : Both
  both = turn_both g form first_course second_course any_course ⊥ failed done cut start between new (λ never. never) between_alike later_alike first second (λ one other. tt) tt tt

  pub stands_through :
      (stands : StandsThrough g form failed start.now done cut disk new.disk)
      × (stands.ready ≡ g.moment start.disk) × (stands.journal ≡ start.journal)
  stands_through = let all = both.0 in (
    record {
      allowed = λ known. all.allowed (knows_on form _ _ alike known);
      since_sync = if_told (g.content disk) _ (λ before told.
          let there = later_told before told in
          let synced = at_told (λ (octets : List ℕ). IsSyncedFirst g disk start.disk (StandsAlike form blocks octets)) before told since_sync in
          let made = at_told (λ (_ : List ℕ). _) there.0 there.1 all.since in
          record {
            later = omega (arith, synced.later, made.later);
            each = λ image since. ⊎_elim
                (λ past. none_yet before image told (synced.each image past))
                (λ here. here)
                (made.each (g.moment disk + 1) image synced.later since);
          });
      since_start = if_told (g.content disk) _ (λ before told.
          let there = later_told before told in
          joined g.moment g.images_since disk start.disk new.disk (MakesFirst form start.now (done ++ cut))
          (weaker g.moment g.images_since disk start.disk (StandsAlike form blocks before) (MakesFirst form start.now (done ++ cut)) (λ image same. none_yet before image told same)
          (at_told (λ (_ : List ℕ). _) before told since_start))
          (at_told (λ (_ : List ℕ). _) there.0 there.1 all.since));
      ready = g.moment start.disk;
      after_sync = told_weaker (g.content disk) _ _ (λ before told synced. synced.later) since_sync;
      journal = start.journal;
      time = all.time;
      paces = all.paces;
      stay = λ fine. since_told _ (all.stay fine);
      calls = λ fine. since_told _ (all.calls fine);
      all_done = λ fine.
          let made = all.done fine in
          told_weaker (g.content new.disk) _ _ (λ octets told each image left.
          subst (λ (s : S). StandsFor form s image) (made.0 (knew form _ _ (alike_on _ _ _ between_alike later_alike) (known_told form octets told))) (each image left))
          (images_here form g own new all.stands_on made.1);
      interrupted = λ stopped.
          let some = both.1 stopped in
          record {
            count = some.0.count;
            no_less = some.1;
            fewer = some.0.fewer;
            images = some.0.images;
            stay = since_told _ some.0.stay;
            calls = since_told _ some.0.calls;
            at_most = since_told _ some.0.at_most;
          };
    },
    refl,
    refl,
  )

-- Each of the commands took exactly its calls of the disk, where the form's layout has no two halves.
pub through_exactly : {D S C : Type 0} (g : Ghosts D) (form : Form S C) (failed : Type 0) (start : S) (done cut : List C) (disk disk_now : D) → form.layout ≢ Halves
    → (stands : StandsThrough g form failed start done cut disk disk_now) → (count : ℕ) → count ≤ length (done ++ cut) → stands.time count ≡ done_at form stands.ready (done ++ cut) count
through_exactly g form failed start done cut disk disk_now one stands = grind (arith, common_steps, paced_always)

module _ {D S C : Type 0} (g : Ghosts D) (form : Form S C) (failed : Type 0) (start : S) (done cut : List C) (disk disk_now : D) (stands : StandsThrough g form failed start done cut disk disk_now) where
  -- the commands of the calls before the last one stay done, and were done by the end
  pub done_stay : failed ⊎ ¬ failed → IfSome (g.content disk) (λ _. StayDone g form stands.time (length done) start (done ++ cut) disk_now × (stands.time (length done) ≤ g.moment disk_now))
  done_stay (inl stopped) = if_told (g.content disk) _ (λ before told.
      let end = stands.interrupted stopped in
      let least = end.no_less in
      let stay : StayDone g form stands.time end.count start (done ++ cut) disk_now = at_told (λ (_ : List ℕ). _) before told end.stay in
      let calls : stands.time end.count ≤ g.moment disk_now = at_told (λ (_ : List ℕ). _) before told end.calls in
      (λ count some most. stay count some (omega (arith, most, least)), omega (arith, calls, rises_all form (done ++ cut) stands.time stands.paces.rises (length done) end.count least (omega (arith, end.fewer)))))
  done_stay (inr fine) = if_told (g.content disk) _ (λ before told.
      let both = length-append done cut in
      let stay : StayDone g form stands.time (length (done ++ cut)) start (done ++ cut) disk_now = at_told (λ (_ : List ℕ). _) before told (stands.stay fine) in
      let calls : g.moment disk_now ≡ stands.time (length (done ++ cut)) = at_told (λ (_ : List ℕ). _) before told (stands.calls fine) in
      (λ count some most. stay count some (omega (arith, most, both)), omega (arith, calls, rises_all form (done ++ cut) stands.time stands.paces.rises (length done) (length (done ++ cut)) (omega (arith, both)) (omega arith))))

  -- The first of them took their calls of the disk since the recovery was done, and no more where there was room.
  pub front_done : (before others : List C) → done ++ cut ≡ before ++ others
      → (stands.time 0 + calls_of form before ≤ stands.time (length before)) × (HadRoom stands → stands.time (length before) ≡ stands.time 0 + calls_of form before)
  front_done before others all =
      let within : length before ≤ length (done ++ cut) = omega (arith, ap length all ∙ length-append before others) in
      let moment : (first : ℕ) → done_at form first (done ++ cut) (length before) ≡ first + calls_of form before = λ first.
      ap (λ (cs : List C). done_at form first cs (length before)) all ∙ at_first form first (length before) before others (omega arith) ∙ at_all form first before in (
        omega (arith, moment (stands.time 0), rises_calls form (done ++ cut) stands.time stands.paces.rises (length before) within),
        λ room. let exact = stands.paces.exact (length before) within (room_some form stands.journal (done ++ cut) (length before) room) in omega (arith, exact, stands.paces.starts, moment stands.ready),
      )
