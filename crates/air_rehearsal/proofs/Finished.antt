-- A rehearsal that was played to its end, or came to an event that may not come.
use Rattle.std.specs.Prelude.{◌≡◌, ◌+◌, ◌<◌, ◌∷◌, ◌++◌}
use Rattle.std.proofs.Common.{sym, ap, ◌∙◌, subst, inl, inr, arith}
use Rattle.air_world.specs.Attempts.Party.{Party}
use Rattle.air_rehearsal.specs.declared.report.Report.{Report as StoredReport}
use Rattle.air_rehearsal.proofs.Names.{ℕ, zero, suc, List, [], length, map, slice_get, Some, refl, AllByRecursion, flat_map, range_with_len, task_count, AreFresh, Cuts, IsFresh, LastsSo, cut_state, Ghosts, IsRun, HeadlineIn, IsAllowed, Event, IsSchedule, Schedule, World, first_world, Stage, last_stage, EndsSo, Tells, HasPlayed, counts_to, BenchPlayed, EndsWhole, StaysSo, first_stage, Bench, IsStage, IsUnlawful, Rehearsed, lines_before, until, ClientTask, CountOf, IsAcked, IsAckedAndKept, Report, all_tasks, last_world, tasks_of, IsStationOf, Station, client_at, place_of, the_server}
use Rattle.air_rehearsal.proofs.CutsAtEnd.{tells_cuts}
use Rattle.air_rehearsal.proofs.FirstBench.{all_at}
use Rattle.air_rehearsal.proofs.WholeRehearsal.{RehearsalLaws, rehearsed}

pub stage_disk :
    {B : Type 0} (world : World) (at : Bench B) (station : Station) (stage : Stage B) → IsStage world at station stage
    → slice_get (at.disk ∷ at.disks) (place_of station) ≡ Some stage.disk
stage_disk world at the_server stage is = ap (λ (s : Stage _). Some s.disk) (sym is)
stage_disk world at (client_at c) stage is = is.is_disk ∙ ap (λ (s : Stage _). Some s.disk) (sym is.stage_is)

-- Where each of these that has P has Q, and the other way, as many have the one as the other.
as_many :
    {T : Type 0} (P Q : T → Type 0) → ((it : T) → Q it → P it) → (all : List T) (count : ℕ)
    → AllByRecursion (λ it. P it → Q it) all → CountOf P all count → CountOf Q all count
as_many P Q back [] count some counts = counts
as_many P Q back (it ∷ all) count some counts = elim counts [
  | inl here ↦ inl (some.0 here.0, (here.1.0, here.1.1, as_many P Q back all here.1.0 some.1 here.1.2))
  | inr other ↦ inr ((λ q. other.0 (back it q)), as_many P Q back all count some.1 other.1)
]

each_task :
    (F : ClientTask → Type 0) (party : Party) (from n : ℕ)
    → ((task : ℕ) → F (record { party = party; task = task }))
    → AllByRecursion F (map (λ task. record { party = party; task = task }) (range_with_len from n))
each_task F party from zero each = tt
each_task F party from (suc n) each = (each from, each_task F party (from + 1) n each)

each_party :
    (F : ClientTask → Type 0) (parties : List Party)
    → ((c : ℕ) (party : Party) → slice_get parties c ≡ Some party → (task : ℕ)
    → F (record { party = party; task = task }))
    → AllByRecursion F (flat_map tasks_of parties)
each_party F [] each = tt
each_party F (party ∷ parties) each =
    all_append F (tasks_of party) (flat_map tasks_of parties)
    (each_task F party 1 (task_count party.client.lists) (λ task. each 0 party refl task))
    (each_party F parties (λ c it is task. each (suc c) it is task))
  where
    all_append :
        (F : ClientTask → Type 0) (first others : List ClientTask) → AllByRecursion F first → AllByRecursion F others
        → AllByRecursion F (first ++ others)
    all_append F [] others all more = more
    all_append F (it ∷ first) others all more = (all.0, all_append F first others all.1 more)

-- each acknowledged task of a world in which what is promised holds is kept
acked_kept :
    (world : World) → HeadlineIn world world.server.store
    → AllByRecursion (λ it. IsAcked it → IsAckedAndKept world it) (all_tasks world)
acked_kept world headline =
    each_party (λ it. IsAcked it → IsAckedAndKept world it) world.parties
    (λ c party is task acked.
    (acked.0, acked.1, headline.acknowledged c task acked.0 party is acked.1))

module _ {B : Type 0} (g : Ghosts B) (cuts : Cuts B)
    (lasts_so : (old new : B) → g.lasts old new → LastsSo (cut_state g cuts old) (cut_state g cuts new))
    (schedule : Schedule) (worlds : List World) (bench : List B) (at : Bench B) (fresh : AreFresh g cuts bench)
    (played : HasPlayed g cuts schedule worlds bench at) where
  abbrev world : World
  world = last_world (first_world schedule) worlds

  -- The bench was played, where each station's disk ends so.
  pub bench_played :
      (ends : Station → Stage B → B → Type 0) (bench_now : List B)
      → ((station : Station) (stage : Stage B) → IsStationOf schedule station → IsStage world at station stage
      → (disk_now : B) × (slice_get bench_now (place_of station) ≡ Some disk_now) × ends station stage disk_now)
      → ((place : ℕ) → length schedule.calls < place
      → slice_get bench_now place ≡ slice_get (at.disk ∷ at.disks) place)
      → length bench_now ≡ suc (length at.disks) → BenchPlayed g cuts ends schedule worlds bench bench_now
  bench_played ends bench_now ends_so same many =
      record {
        stations = λ station is.
            let path = played.paths station is in
            let it = path.2 in
            let end = ends_so station (last_stage (first_stage schedule it.start) it.stages) is it.last in
            let fresh_one = all_at (IsFresh g cuts) bench (place_of station) path.0 fresh.1 path.1 in
            record {
              disk = path.0;
              is_disk = path.1;
              disk_now = end.0;
              is_disk_now = end.1;
              played = record {
                start = it.start;
                opens = it.opens;
                stands = it.stands;
                stages = it.stages;
                follow = it.follow;
                worlds_are = it.worlds_are;
                ends_so = end.2;
                tells_cuts =
                    tells_cuts g cuts lasts_so schedule worlds station path.0 it.start it.stages fresh_one.no_restart
                    it.opens it.stands it.follow it.worlds_are;
              };
            };
        others = λ place far. same place far ∙ played.others place far;
        as_many = (let more = played.as_many in let e : length bench_now ≡ length bench = omega (arith, many, more) in e);
      }

  module _ (is_schedule : IsSchedule schedule) where
    run : IsRun schedule worlds
    run = record { is_schedule = is_schedule; plays = played.plays }

    -- It was played to its end, and these are the worlds.
    pub finished :
        (laws : RehearsalLaws) (disk_now : B) (report : StoredReport)
        → EndsSo g world at.stations.report at.disk disk_now report
        → (it : Rehearsed g cuts schedule bench (disk_now ∷ at.disks) report) × (it.worlds ≡ worlds)
    finished laws disk_now report ends =
        let headline : HeadlineIn world world.server.store =
        laws.parts.headline world played.playing.bench.sound in
        let counts : Report =
        record (counts_to schedule worlds) { acked = ends.acked; kept = ends.acked } in
        let kept =
        as_many IsAcked (IsAckedAndKept world) (λ it both. (both.0, both.1)) (all_tasks world) ends.acked
        (acked_kept world headline) ends.is_acked in
        let told = subst
        (λ (n : ℕ). Tells report (record (counts_to schedule worlds) { acked = n; kept = n }))
        (let e : 0 + ends.acked ≡ ends.acked = omega arith in e)
        (ends.report_tells (counts_to schedule worlds) played.counts) in
        rehearsed laws g cuts lasts_so schedule worlds bench (disk_now ∷ at.disks) counts report run
        (record {
          events = refl;
          asked = refl;
          acked = ends.is_acked;
          kept = kept;
          refused = refl;
          fetched = refl;
          cuts = refl;
        })
        told refl
        (bench_played (EndsWhole g) (disk_now ∷ at.disks) ends_so others_same refl)
      where
        ends_so :
            (station : Station) (stage : Stage B) → IsStationOf schedule station → IsStage world at station stage
            → (now : B) × (slice_get (disk_now ∷ at.disks) (place_of station) ≡ Some now)
            × EndsWhole g station stage now
        ends_so the_server stage is is_stage = (
          disk_now,
          refl,
          subst (λ (s : Stage B). EndsWhole g the_server s disk_now) (sym is_stage) (ends.again, ends.stands),
        )
        ends_so (client_at c) stage is is_stage = (stage.disk, stage_disk world at (client_at c) stage is_stage, refl)

        others_same :
            (place : ℕ) → length schedule.calls < place
            → slice_get (disk_now ∷ at.disks) place ≡ slice_get (at.disk ∷ at.disks) place
        others_same zero far = absurd (let no : ⊥ = omega (arith, far) in no)
        others_same (suc c) far = refl

    -- It came to an event that may not come.
    pub refused :
        (whole : Schedule) (event : Event) (rest : List Event) (line : ℕ) → schedule ≡ until schedule.events whole
        → whole.events ≡ schedule.events ++ event ∷ rest → ¬ IsAllowed world event
        → line ≡ lines_before whole + length schedule.events + 1
        → IsUnlawful g cuts whole bench (at.disk ∷ at.disks) line
    refused whole event rest line is_front split not_allowed line_is =
        let same : first_world whole ≡ first_world schedule =
        ap first_world (sym is_front) in
        record {
          front = schedule.events;
          event = event;
          rest = rest;
          split = split;
          worlds = worlds;
          run = subst (λ (s : Schedule). IsRun s worlds) is_front run;
          refused =
              subst (λ (w : World). ¬ IsAllowed (last_world w worlds) event) (sym same) not_allowed;
          line_is = line_is;
          played =
              subst (λ (s : Schedule). BenchPlayed g cuts StaysSo s worlds bench (at.disk ∷ at.disks)) is_front
              (bench_played StaysSo (at.disk ∷ at.disks)
              (λ station stage is is_stage. (stage.disk, stage_disk world at station stage is_stage, refl))
              (λ place far. refl) refl);
        }
