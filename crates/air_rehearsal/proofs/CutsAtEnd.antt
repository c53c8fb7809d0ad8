-- What a station's disk tells of its power cuts, once a schedule was played on it, and once it was started again.
use Rattle.std.specs.Prelude.{◌≡◌}
use Rattle.std.proofs.Common.{sym, ◌∙◌, subst}
use Rattle.air_rehearsal.proofs.Names.{ℕ, List, [], map, None, Option, Some, IfSome, refl, same_Some, Cuts, LastsSo, cut_state, IsTold, Ghosts, Schedule, World, first_world, Follow, Stage, last_stage, BenchPlayed, EndsWhole, Opens, StandInTurn, TellsCuts, first_stage, TellAllCuts, StandsNow, Station, client_at, cut_worlds, the_server}
use Rattle.air_rehearsal.proofs.CutsTold.{tells_all}

-- the disk tells no restart, where it tells any
abbrev pub NoRestart : {B : Type 0} → Cuts B → B → Type 0
NoRestart cuts disk = IfSome (cuts.restarts disk) (λ all. all ≡ [])

none_in_turn :
    (station : Station) (told : Option (List (List ℕ))) → IfSome told (λ all. all ≡ [])
    → IfSome told (StandInTurn station [])
none_in_turn station None none = tt
none_in_turn station (Some all) none = subst (λ (all : List (List ℕ)). StandInTurn station [] all) (sym none) tt

module _ {B : Type 0} (g : Ghosts B) (cuts : Cuts B)
    (lasts_so : (old new : B) → g.lasts old new → LastsSo (cut_state g cuts old) (cut_state g cuts new))
    (schedule : Schedule) (worlds : List World) where
  -- where it tells as many, and the same
  tells_on :
      (station : Station) (old new : B) → cuts.restarts new ≡ cuts.restarts old
      → TellsCuts cuts station schedule worlds old → TellsCuts cuts station schedule worlds new
  tells_on station old new same tells =
      subst
      (λ (told : Option (List (List ℕ))).
      IfSome told (StandInTurn station (cut_worlds station None schedule.events worlds)))
      (sym same) tells

  -- A disk that told no restart before it was opened tells the cuts of the station after the last event.
  pub tells_cuts :
      (station : Station) (disk start : B) (stages : List (Stage B)) → NoRestart cuts disk
      → Opens g cuts station disk start → StandsNow g station (first_world schedule) start
      → Follow g cuts station (first_stage schedule start) schedule.events stages
      → map (λ (it : Stage B). it.world) stages ≡ worlds
      → TellsCuts cuts station schedule worlds (last_stage (first_stage schedule start) stages).disk
  tells_cuts station disk start stages none opens stands follow worlds_are =
      let same : cuts.restarts start ≡ cuts.restarts disk =
      (lasts_so opens.disarmed start opens.starts.lasts).restarts ∙ opens.arms.restarts in
      let turn = subst (λ (told : Option (List (List ℕ))). IfSome told (StandInTurn station [])) (sym same)
      (none_in_turn station (cuts.restarts disk) none) in
      let told = subst (λ (c : Option (List ℕ)). IsTold c) (sym stands.is_content) refl in
      subst
      (λ (worlds : List World).
      TellsCuts cuts station schedule worlds (last_stage (first_stage schedule start) stages).disk)
      worlds_are
      (tells_all g cuts lasts_so station (first_stage schedule start) schedule.events stages [] follow told turn)

  tells_at_end :
      (station : Station) (last : Stage B) (disk_now : B) → EndsWhole g station last disk_now
      → TellsCuts cuts station schedule worlds last.disk → TellsCuts cuts station schedule worlds disk_now
  tells_at_end the_server last disk_now ends tells =
      tells_on the_server last.disk disk_now (lasts_so last.disk disk_now ends.0.lasts).restarts tells
  tells_at_end (client_at c) last disk_now ends tells =
      subst (λ (disk : B). TellsCuts cuts (client_at c) schedule worlds disk) (sym ends) tells

  -- So does each disk of a bench that was played on to the end.
  pub tell_all_cuts :
      (bench bench_now : List B) → BenchPlayed g cuts (EndsWhole g) schedule worlds bench bench_now
      → TellAllCuts cuts schedule worlds bench_now
  tell_all_cuts bench bench_now played station disk is there =
      let at = played.stations station is in
      let same = same_Some at.disk_now disk (sym at.is_disk_now ∙ there) in
      subst (λ (disk : B). TellsCuts cuts station schedule worlds disk) same
      (tells_at_end station (last_stage (first_stage schedule at.played.start) at.played.stages) at.disk_now
      at.played.ends_so at.played.tells_cuts)
