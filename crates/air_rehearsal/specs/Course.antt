-- How far a rehearsal has come.
use Rattle.std.specs.Prelude.{◌≡◌, ℕ, ◌+◌, ◌<◌, List, ◌∷◌, length, map, slice_get, Some}
use Rattle.std.specs.List.{count_by, sum_by}
use Rattle.disk_model.specs.Cuts.{Cuts}
use Rattle.disk_model.specs.declared.disk.Disk.{Ghosts}
use Rattle.air_world.specs.Cuts.{Plays}
use Rattle.air_world.specs.Schedule.{Schedule}
use Rattle.air_world.specs.World.{World, first_world}
use Rattle.air_rehearsal.specs.Chain.{Follow, Stage, last_stage}
use Rattle.air_rehearsal.specs.Counting.{Tells}
use Rattle.air_rehearsal.specs.Played.{Opens, first_stage}
use Rattle.air_rehearsal.specs.Playing.{Bench, IsPlaying, IsStage, client_count}
use Rattle.air_rehearsal.specs.Report.{Report, cuts_of, is_fetch, is_question, is_refusal, last_world, times}
use Rattle.air_rehearsal.specs.Standing.{StandsNow}
use Rattle.air_rehearsal.specs.Stations.{IsStationOf, Station, place_of, stations_of}

-- the numbers of the report after these events, but for those that are counted at the end
abbrev pub counts_to : Schedule → List World → Report
counts_to schedule worlds =
    record {
      events = length schedule.events;
      asked = count_by is_question schedule.events;
      acked = 0;
      kept = 0;
      refused = times is_refusal (first_world schedule) worlds;
      fetched = times is_fetch (first_world schedule) worlds;
      cuts = sum_by (cuts_of schedule worlds) (stations_of schedule);
    }

module _ {B : Type 0} (g : Ghosts B) (cuts : Cuts B) (schedule : Schedule) (worlds : List World) where
  -- The way of a station's disk through these worlds, which began as this one.
  pub record Path (station : Station) (before : B) (at : Bench B) : Type 0 where
    pub start : B
    pub opens : Opens g cuts station before start
    pub stands : StandsNow g station (first_world schedule) start
    pub stages : List (Stage B)
    pub follow : Follow g cuts station (first_stage schedule start) schedule.events stages
    pub worlds_are : map (λ (stage : Stage B). stage.world) stages ≡ worlds
    pub last :
        IsStage (last_world (first_world schedule) worlds) at station
        (last_stage (first_stage schedule start) stages)

  -- All events of this schedule were played over these disks, the server's and the clients': each could come in its
  -- turn, these are the worlds, and the last one is played now.
  pub record HasPlayed (bench : List B) (at : Bench B) : Type 0 where
    pub plays : Plays (first_world schedule) schedule.events worlds
    pub playing : IsPlaying g cuts (last_world (first_world schedule) worlds) at
    pub paths :
        (station : Station) → IsStationOf schedule station
        → (before : B) × (slice_get bench (place_of station) ≡ Some before) × Path station before at
    pub count_is : client_count at.stations ≡ length schedule.calls
    pub others :
        (place : ℕ) → length schedule.calls < place
        → slice_get (at.disk ∷ at.disks) place ≡ slice_get bench place
    pub as_many : 1 + length at.disks ≡ length bench
    pub counts : Tells at.stations.report (counts_to schedule worlds)
