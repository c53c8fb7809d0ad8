-- A rehearsal whose events are drawn, from its first event to its end.
use Rattle.std.specs.Prelude.{◌∷◌, ◌++◌}
use Rattle.std.proofs.Common.{sym, ap, ◌∙◌, subst, append_assoc}
use Rattle.air_rehearsal.specs.declared.report.Report.{Report as StoredReport}
use Rattle.air_rehearsal.proofs.Names.{ℕ, List, [], refl, AllByRecursion, append-nil, AreFresh, Cuts, LastsSo, cut_state, Ghosts, Plays, Event, IsInRange, IsSchedule, Schedule, World, first_world, EndsSo, HasPlayed, drawn_calls, rounds, Comes, Driven, PlaysEach, DrivenBy, IsDrawnBy, Turns, Bench, until, last_world}
use Rattle.air_rehearsal.proofs.CourseLemmas.{last_more}
use Rattle.air_rehearsal.proofs.DriveLemmas.{drawing}
use Rattle.air_rehearsal.proofs.Finished.{finished}
use Rattle.air_rehearsal.proofs.WholePlay.{stepped}
use Rattle.air_rehearsal.proofs.WholeRehearsal.{RehearsalLaws}

-- the schedule of these events for the three clients
abbrev pub drawn_schedule : List Event → Schedule
drawn_schedule events = record { size = 4; calls = drawn_calls; events = events }

-- the events of a run have their ranges
in-range :
    (world : World) (events : List Event) (worlds : List World) → Plays world events worlds
    → AllByRecursion IsInRange events
in-range world [] worlds plays = tt
in-range world (event ∷ events) worlds plays =
    (plays.3.allowed.in_range, in-range plays.0 events plays.1 plays.4)

-- these events that were played are those of a schedule
lawful-of :
    (events : List Event) (worlds : List World) → IsSchedule (drawn_schedule [])
    → Plays (first_world (drawn_schedule events)) events worlds → IsSchedule (drawn_schedule events)
lawful-of events worlds is plays = record {
  some = is.some;
  few = is.few;
  most = is.most;
  are_calls = is.are_calls;
  distinct = is.distinct;
  in_range = in-range (first_world (drawn_schedule events)) events worlds plays;
}

module _ {B : Type 0} (g : Ghosts B) (cuts : Cuts B) where
  -- one event after another was played
  played-each :
      (schedule : Schedule) (worlds : List World) (bench : List B) (events : List Event) (seen : List World)
      (at now : Bench B) → HasPlayed g cuts schedule worlds bench at
      → PlaysEach g cuts (last_world (first_world schedule) worlds) events seen at now
      → HasPlayed g cuts (until (schedule.events ++ events) schedule) (worlds ++ seen) bench now
  played-each schedule worlds bench [] seen at now played plays =
      subst (λ (e : List Event). HasPlayed g cuts (until e schedule) (worlds ++ seen) bench now)
      (sym (append-nil schedule.events))
      (subst (λ (l : List World). HasPlayed g cuts schedule l bench now)
      (sym (append-nil worlds) ∙ ap (λ (l : List World). worlds ++ l) (sym plays.0))
      (subst (HasPlayed g cuts schedule worlds bench) (sym plays.1) played))
  played-each schedule worlds bench (event ∷ events) seen at now played plays =
      let next : World = plays.1.goes.next in
      let then : Schedule = until (schedule.events ++ event ∷ []) schedule in
      let one = stepped g cuts schedule worlds bench at plays.0 played event plays.1 in
      let others = subst (λ (w : World). PlaysEach g cuts w events plays.2 plays.0 now)
      (sym (last_more (first_world schedule) worlds next)) plays.4 in
      let all = played-each then (worlds ++ next ∷ []) bench events plays.2 plays.0 now one others in
      subst (λ (e : List Event). HasPlayed g cuts (until e schedule) (worlds ++ seen) bench now)
      (append_assoc schedule.events (event ∷ []) events)
      (subst
      (λ (l : List World). HasPlayed g cuts (until ((schedule.events ++ event ∷ []) ++ events) schedule) l bench now)
      (append_assoc worlds (next ∷ []) plays.2 ∙ ap (λ (l : List World). worlds ++ l) (sym plays.3)) all)

  module _ (lasts_so : (old new : B) → g.lasts old new → LastsSo (cut_state g cuts old) (cut_state g cuts new))
      (laws : RehearsalLaws) (bench : List B) (fresh : AreFresh g cuts bench) where
    -- the turns were played, and the bench came to its end
    pub driven :
        (count : ℕ) (old new : Driven B) → HasPlayed g cuts (drawn_schedule []) [] bench old.bench
        → IsSchedule (drawn_schedule [])
        → (came : Comes g cuts (Turns (rounds count)) (first_world (drawn_schedule [])) old new)
        → (disk_now : B) (report : StoredReport)
        → EndsSo g (last_world (first_world (drawn_schedule [])) came.worlds) new.bench.stations.report new.bench.disk
        disk_now report
        → DrivenBy g cuts old.state count bench (disk_now ∷ new.bench.disks) report
    driven count old new first is_schedule came disk_now report ends =
        let schedule : Schedule = drawn_schedule came.events in
        let played : HasPlayed g cuts schedule came.worlds bench new.bench =
        played-each (drawn_schedule []) [] bench came.events came.worlds old.bench new.bench first came.plays in
        let lawful : IsSchedule schedule =
        lawful-of came.events came.worlds is_schedule played.plays in
        let whole = finished g cuts lasts_so schedule came.worlds bench new.bench fresh played lawful laws disk_now
        report ends in
        let turns : Turns (rounds count) (drawing old.state (first_world schedule) came.events came.worlds)
        (drawing new.state (last_world (first_world schedule) came.worlds) [] []) =
        subst
        (λ (l : List World).
        Turns (rounds count) (drawing old.state (first_world schedule) came.events l)
        (drawing new.state (last_world (first_world schedule) came.worlds) [] [])) (append-nil came.worlds)
        (subst
        (λ (e : List Event).
        Turns (rounds count) (drawing old.state (first_world schedule) e (came.worlds ++ []))
        (drawing new.state (last_world (first_world schedule) came.worlds) [] [])) (append-nil came.events)
        (came.moves [] [])) in
        record {
          schedule = schedule;
          drawn_for = record { size_is = refl; calls_are = refl };
          rehearsed = whole.0;
          drawn_by =
              subst (IsDrawnBy old.state count schedule) (sym whole.1)
              (record {
                last = drawing new.state (last_world (first_world schedule) came.worlds) [] [];
                turns = turns;
                all_events = refl;
                all_worlds = refl;
              });
        }
