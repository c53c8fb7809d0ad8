-- How a rehearsal left the disks of its bench.
use Rattle.std.specs.Prelude.{◌≡◌, ℕ, ◌<◌, List, [], ◌∷◌, length, map, slice_get, None, Some, IfSome, ⊤}
use Rattle.disk_model.specs.Cuts.{ArmsOnly, Cuts}
use Rattle.disk_model.specs.declared.disk.Disk.{Ghosts}
use Rattle.air_world.specs.Schedule.{Schedule}
use Rattle.air_world.specs.World.{World, first_world}
use Rattle.air_rehearsal.specs.Chain.{Follow, Stage, StartsAgain, last_stage}
use Rattle.air_rehearsal.specs.Standing.{StandsFor, StandsNow}
use Rattle.air_rehearsal.specs.Stations.{Station, IsStationOf, client_at, cut_worlds}
use Rattle.air_rehearsal.specs.Stations.{place_of, the_server}

-- these contents stand for what the station keeps in these worlds, one for each
abbrev pub StandInTurn : Station → List World → List (List ℕ) → Type 0
StandInTurn station [] [] = ⊤
StandInTurn station [] (content ∷ contents) = ⊥
StandInTurn station (world ∷ worlds) [] = ⊥
StandInTurn station (world ∷ worlds) (content ∷ contents) =
    StandsFor station world content × StandInTurn station worlds contents

-- Where the disk tells what power cuts left on it, these are as many as the station's events that were cut, and each
-- stands for what the station keeps right after its cut.
abbrev pub TellsCuts : {B : Type 0} → Cuts B → Station → Schedule → List World → B → Type 0
TellsCuts cuts station schedule worlds disk =
    IfSome (cuts.restarts disk) (StandInTurn station (cut_worlds station None schedule.events worlds))

-- the stage before the first event, over this disk
abbrev pub first_stage : {B : Type 0} → Schedule → B → Stage B
first_stage schedule disk = record { world = first_world schedule; waiting = None; disk = disk }

module _ {B : Type 0} (g : Ghosts B) (cuts : Cuts B) (station : Station) where
  -- The arming of the disk is taken away, and the station starts from it.
  pub record Opens (disk disk_now : B) : Type 0 where
    pub disarmed : B
    pub arms : ArmsOnly g cuts None disk disarmed
    pub starts : StartsAgain g station disarmed disk_now

  -- The disk of the station through the schedule's events, with a stage in each world: it is opened before the first
  -- one, and after the last one it comes to this.
  pub record PlayedOn (ends : Stage B → B → Type 0) (schedule : Schedule) (worlds : List World) (disk disk_now : B)
      : Type 0 where
    pub start : B
    pub opens : Opens disk start
    pub stands : StandsNow g station (first_world schedule) start
    pub stages : List (Stage B)
    pub follow : Follow g cuts station (first_stage schedule start) schedule.events stages
    pub worlds_are : map (λ (stage : Stage B). stage.world) stages ≡ worlds
    pub ends_so : ends (last_stage (first_stage schedule start) stages) disk_now
    pub tells_cuts : TellsCuts cuts station schedule worlds (last_stage (first_stage schedule start) stages).disk

  -- the same of the disk at the station's place of the bench
  pub record PlayedAt (ends : Stage B → B → Type 0) (schedule : Schedule) (worlds : List World)
      (bench bench_now : List B) : Type 0 where
    pub disk : B
    pub is_disk : slice_get bench (place_of station) ≡ Some disk
    pub disk_now : B
    pub is_disk_now : slice_get bench_now (place_of station) ≡ Some disk_now
    pub played : PlayedOn ends schedule worlds disk disk_now

-- the disk is as it was in the last stage
abbrev pub StaysSo : {B : Type 0} → Station → Stage B → B → Type 0
StaysSo station last disk_now = disk_now ≡ last.disk

-- At the end the server's store is recovered once more, and the clients' disks are as they were in their last stages.
-- Each stands for the last world.
abbrev pub EndsWhole : {B : Type 0} → Ghosts B → Station → Stage B → B → Type 0
EndsWhole g the_server last disk_now =
    StartsAgain g the_server last.disk disk_now × StandsNow g the_server last.world disk_now
EndsWhole g (client_at c) last disk_now = disk_now ≡ last.disk

module _ {B : Type 0} (g : Ghosts B) (cuts : Cuts B) where
  -- The bench: the disks of the schedule's stations were played on, and the others are as they were.
  pub record BenchPlayed (ends : Station → Stage B → B → Type 0) (schedule : Schedule) (worlds : List World)
      (bench bench_now : List B) : Type 0 where
    pub stations :
        (station : Station) → IsStationOf schedule station
        → PlayedAt g cuts station (ends station) schedule worlds bench bench_now
    pub others : (place : ℕ) → length schedule.calls < place → slice_get bench_now place ≡ slice_get bench place
    pub as_many : length bench_now ≡ length bench
