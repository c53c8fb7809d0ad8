-- A rehearsal that was played to its end: what is promised of its worlds and its disks follows from the laws of the
-- world.
use Rattle.std.specs.Prelude.{◌≡◌}
use Rattle.air_rehearsal.specs.declared.report.Report.{Report as StoredReport}
use Rattle.air_rehearsal.proofs.Names.{List, refl, Cuts, LastsSo, cut_state, Ghosts, FollowsLaw, IsRun, PartsLaw, ScheduleLaw, SoundLaw, StoresLaw, Schedule, World, BenchPlayed, EndsWhole, Rehearsed, Tells, IsReport, Report, the_server}
use Rattle.air_rehearsal.proofs.CutsAtEnd.{tell_all_cuts}
use Rattle.air_rehearsal.proofs.RunStages.{promised_at}

-- the laws that this rests on
pub record RehearsalLaws : Type 0 where
  pub sound : SoundLaw
  pub parts : PartsLaw
  pub stores : StoresLaw
  pub schedules : ScheduleLaw
  pub follows : FollowsLaw

module _ {B : Type 0} (laws : RehearsalLaws) (g : Ghosts B) (cuts : Cuts B)
    (lasts_so : (old new : B) → g.lasts old new → LastsSo (cut_state g cuts old) (cut_state g cuts new)) where
  pub rehearsed :
      (schedule : Schedule) (worlds : List World) (bench bench_now : List B) (counts : Report) (report : StoredReport)
      → IsRun schedule worlds → IsReport schedule worlds counts → Tells report counts → counts.kept ≡ counts.acked
      → BenchPlayed g cuts (EndsWhole g) schedule worlds bench bench_now
      → (it : Rehearsed g cuts schedule bench bench_now report) × (it.worlds ≡ worlds)
  rehearsed schedule worlds bench bench_now counts report run is_report tells all_kept played = (
    record {
      worlds = worlds;
      run = run;
      counts = counts;
      is_report = is_report;
      tells = tells;
      all_kept = all_kept;
      promised = laws.schedules.worlds schedule worlds run;
      played = played;
      promised_in_images =
          promised_at laws.sound laws.stores laws.parts laws.follows g cuts schedule worlds run bench bench_now
          (played.stations the_server tt);
      tell_cuts = tell_all_cuts g cuts lasts_so schedule worlds bench bench_now played;
    },
    refl,
  )
