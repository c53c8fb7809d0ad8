-- The worlds of a run over the stages of the server's disk: each is sound, has the blocks of a rehearsal, and its store
-- follows from the one before. So what is promised of each holds in whatever a crash since then leaves of the disk.
use Rattle.std.specs.Prelude.{◌≡◌, ◌∷◌}
use Rattle.std.proofs.Common.{sym, subst, ◌∙◌}
use Rattle.air_rehearsal.proofs.Names.{ℕ, List, [], map, ⊤, AllByRecursion, Cuts, Ghosts, FollowsLaw, after_first, IsRun, Plays, WorldStep, server_commands, PartsLaw, SoundLaw, StoresLaw, Event, Schedule, Sound, World, first_world, Follow, Stage, StartsAgain, last_stage, EndsWhole, PlayedAt, first_stage, PromisedInImages, PromisedSince, StandsDuring, StandsNow, the_server}
use Rattle.air_rehearsal.proofs.Alike.{HasBlocks}
use Rattle.air_rehearsal.proofs.ImagesThrough.{AllFit}
use Rattle.air_rehearsal.proofs.Promised.{FollowsIn, IsGoodWorld, StoresFollow, promised_all}

-- the worlds of these stages
abbrev pub worlds_of : {B : Type 0} → List (Stage B) → List World
worlds_of {B} stages = map (λ (it : Stage B). it.world) stages

-- each event makes the next stage's world of the one before
abbrev pub StepThrough : {B : Type 0} → Stage B → List Event → List (Stage B) → Type 0
StepThrough stage [] [] = ⊤
StepThrough stage [] (next ∷ later) = ⊥
StepThrough stage (event ∷ events) [] = ⊥
StepThrough stage (event ∷ events) (next ∷ later) =
    WorldStep stage.world event next.world × StepThrough next events later

during_follows :
    StoresLaw → (world next : World) (event : Event) (image : List ℕ) → Sound world → WorldStep world event next
    → StandsDuring the_server world event image → FollowsIn world.server.store image
during_follows stores world next event image sound step stands = (
  after_first stands.stands.0 world.server.store (server_commands world stands.coming),
  stands.stands.3,
  stores.during world event stands.coming stands.delivered stands.stands.0 sound step.allowed stands.takes,
)

good_world : StoresLaw → PartsLaw → (world : World) → Sound world → IsGoodWorld world
good_world stores parts world sound = record {
  rules = stores.rules world sound;
  offers = λ number offset offered. stores.offers world number offset sound offered;
  headline = parts.headline world sound;
}

module _ {B : Type 0} where
  pub step_through :
      (stage : Stage B) (events : List Event) (stages : List (Stage B))
      → Plays stage.world events (worlds_of stages) → StepThrough stage events stages
  step_through stage [] [] plays = tt
  step_through stage [] (next ∷ later) plays =
      absurd (let e : next.world ∷ worlds_of later ≡ [] = plays in cc)
  step_through stage (event ∷ events) [] plays =
      absurd (let e : [] ≡ plays.0 ∷ plays.1 = plays.2 in cc)
  step_through stage (event ∷ events) (next ∷ later) plays =
      let e : next.world ∷ worlds_of later ≡ plays.0 ∷ plays.1 = plays.2 in
      let first : next.world ≡ plays.0 = cc in
      let rest : worlds_of later ≡ plays.1 = cc in
      let plays_rest = subst (λ (worlds : List World). Plays plays.0 events worlds) (sym rest) plays.4 in (
        subst (λ (world : World). WorldStep stage.world event world) (sym first) plays.3,
        step_through next events later
            (subst (λ (world : World). Plays world events (worlds_of later)) (sym first) plays_rest),
      )

  module _ (law : SoundLaw) (stores : StoresLaw) where
    all_sound :
        (stage : Stage B) (events : List Event) (stages : List (Stage B)) → Sound stage.world
        → StepThrough stage events stages → AllFit Sound stages
    all_sound stage [] [] sound steps = tt
    all_sound stage [] (next ∷ later) sound steps = absurd steps
    all_sound stage (event ∷ events) [] sound steps = absurd steps
    all_sound stage (event ∷ events) (next ∷ later) sound steps =
        let next_sound = law.kept stage.world next.world event sound steps.0 in
        (next_sound, all_sound next events later next_sound steps.1)

    all_blocks :
        (stage : Stage B) (events : List Event) (stages : List (Stage B)) → Sound stage.world → HasBlocks stage.world
        → StepThrough stage events stages → AllFit HasBlocks stages
    all_blocks stage [] [] sound blocks steps = tt
    all_blocks stage [] (next ∷ later) sound blocks steps = absurd steps
    all_blocks stage (event ∷ events) [] sound blocks steps = absurd steps
    all_blocks stage (event ∷ events) (next ∷ later) sound blocks steps =
        let next_sound = law.kept stage.world next.world event sound steps.0 in
        let follows = stores.next stage.world next.world event sound steps.0 in
        let next_blocks = stores.blocks stage.world.server.store next.world.server.store follows ∙ blocks in
        (next_blocks, all_blocks next events later next_sound next_blocks steps.1)

    stores_follow :
        (stage : Stage B) (events : List Event) (stages : List (Stage B)) → Sound stage.world
        → StepThrough stage events stages → StoresFollow stage events stages
    stores_follow stage [] stages sound steps = tt
    stores_follow stage (event ∷ events) [] sound steps = tt
    stores_follow stage (event ∷ events) (next ∷ later) sound steps = (
      stores.next stage.world next.world event sound steps.0,
      λ image during. during_follows stores stage.world next.world event image sound steps.0 during,
      stores_follow next events later (law.kept stage.world next.world event sound steps.0) steps.1,
    )

    module _ (parts : PartsLaw) where
      all_good : (stages : List (Stage B)) → AllFit Sound stages → AllFit IsGoodWorld stages
      all_good [] all = tt
      all_good (stage ∷ stages) all = (good_world stores parts stage.world all.0, all_good stages all.1)

      module _ (follows : FollowsLaw) (g : Ghosts B) (cuts : Cuts B) (schedule : Schedule) (worlds : List World)
          (run : IsRun schedule worlds) where
        -- What is promised of the first world of a run, and of each behind an event, holds in whatever a crash since
        -- then leaves of the server's disk, from which the server started once more at the end.
        pub promised_through :
            (start disk_now : B) (stages : List (Stage B))
            → Follow g cuts the_server (first_stage schedule start) schedule.events stages
            → worlds_of stages ≡ worlds → StandsNow g the_server (first_world schedule) start
            → StartsAgain g the_server (last_stage (first_stage schedule start) stages).disk disk_now
            → AllByRecursion (PromisedSince g cuts disk_now) (first_stage schedule start ∷ stages)
        promised_through start disk_now stages goes worlds_are stands again =
            let first = first_stage schedule start in
            let sound = law.first schedule run.is_schedule in
            let plays = subst (λ (worlds : List World). Plays (first_world schedule) schedule.events worlds)
            (sym worlds_are) run.plays in
            let steps = step_through first schedule.events stages plays in
            let blocks : AllFit HasBlocks (first ∷ stages) = (
              stores.first_blocks schedule,
              all_blocks first schedule.events stages sound (stores.first_blocks schedule) steps,
            ) in
            let good = all_good (first ∷ stages) (sound, all_sound first schedule.events stages sound steps) in
            promised_all g cuts follows stores.stays disk_now first schedule.events stages goes stands blocks
            (stores_follow first schedule.events stages sound steps) good again

        -- so it is of a bench that was played on to the end
        pub promised_at :
            (bench bench_now : List B)
            (at : PlayedAt g cuts the_server (EndsWhole g the_server) schedule worlds bench bench_now)
            → PromisedInImages g cuts schedule worlds bench bench_now at
        promised_at bench bench_now at =
            promised_through at.played.start at.disk_now at.played.stages at.played.follow at.played.worlds_are
            at.played.stands at.played.ends_so.0
