-- What a rehearsal of a schedule comes to: its report, or the event that may not come.
use Rattle.std.specs.Prelude.{◌≡◌, ℕ, ◌+◌, List, ◌∷◌, ◌++◌, length, slice_get, Some}
use Rattle.std.specs.List.{AllByRecursion}
use Rattle.disk_model.specs.Cuts.{Cuts}
use Rattle.disk_model.specs.Moments.{LeavesSince}
use Rattle.disk_model.specs.declared.disk.Disk.{Ghosts}
use Rattle.file_store.specs.State.{StandsFor as StandsForStore}
use Rattle.file_store.specs.Store.{Store}
use Rattle.air_world.specs.Cuts.{IsRun}
use Rattle.air_world.specs.Headline.{HeadlineIn}
use Rattle.air_world.specs.Lawful.{IsAllowed}
use Rattle.air_world.specs.Laws.{HoldsInEach}
use Rattle.air_world.specs.Schedule.{Event, Schedule}
use Rattle.air_world.specs.World.{World, first_world}
use Rattle.air_rehearsal.specs.Chain.{Stage}
use Rattle.air_rehearsal.specs.Counting.{Tells}
use Rattle.air_rehearsal.specs.Played.{BenchPlayed, EndsWhole, PlayedAt, StaysSo, TellsCuts, first_stage}
use Rattle.air_rehearsal.specs.Report.{IsReport, Report, last_world}
use Rattle.air_rehearsal.specs.ServerEvents.{CanCount}
use Rattle.air_rehearsal.specs.Stations.{IsStationOf, Station, place_of}
use Rattle.air_rehearsal.specs.Stations.{the_server}
use Rattle.air_rehearsal.specs.declared.report.Report.{Report as StoredReport}

-- the octets stand for a store in which what is promised of this world holds
abbrev pub KeepsPromise : World → List ℕ → Type 0
KeepsPromise world image = (store : Store) × StandsForStore image store × HeadlineIn world store

-- the count of failed writes of the server's disk, the first one, doesn't stand at its last number
abbrev pub CanTell : {B : Type 0} → Ghosts B → List B → Type 0
CanTell g bench = (disk : _) → slice_get bench 0 ≡ Some disk → CanCount g disk

-- the schedule up to here
abbrev pub until : List Event → Schedule → Schedule
until front schedule = record schedule { events = front }

-- so many lines come before the events: that of the window, and those of the clients
abbrev pub lines_before : Schedule → ℕ
lines_before schedule = 1 + length schedule.calls

-- Each disk of the schedule's stations tells its restarts, if it does, as these worlds have the cuts.
abbrev pub TellAllCuts : {B : Type 0} → Cuts B → Schedule → List World → List B → Type 0
TellAllCuts cuts schedule worlds bench_now =
    (station : Station) (disk : _) → IsStationOf schedule station
    → slice_get bench_now (place_of station) ≡ Some disk → TellsCuts cuts station schedule worlds disk

module _ {B : Type 0} (g : Ghosts B) (cuts : Cuts B) where
  -- what is promised of the stage's world holds in whatever a crash since then leaves of the disk that this one became
  abbrev pub PromisedSince : B → Stage B → Type 0
  PromisedSince disk_now stage =
      LeavesSince (g.moment stage.disk) (g.images_since disk_now) (KeepsPromise stage.world)

  -- so it is of each stage of the server's disk, the one before the first event too
  abbrev pub PromisedInImages :
      (schedule : Schedule) → (worlds : List World) → (bench bench_now : List B)
      → PlayedAt g cuts the_server (EndsWhole g the_server) schedule worlds bench bench_now → Type 0
  PromisedInImages schedule worlds bench bench_now at =
      AllByRecursion (PromisedSince at.disk_now)
      (first_stage schedule at.played.start ∷ at.played.stages)

  -- The schedule was played to its end. Each event could come in its turn, and these are the worlds; the disks of the
  -- bench went through them; what is promised of uploads and downloads holds in each world, and since each in all that
  -- a crash leaves of the server's disk; and the report counts this run.
  pub record Rehearsed (schedule : Schedule) (bench bench_now : List B) (report : StoredReport) : Type 0 where
    pub worlds : List World
    pub run : IsRun schedule worlds
    pub counts : Report
    pub is_report : IsReport schedule worlds counts
    pub tells : Tells report counts
    pub all_kept : counts.kept ≡ counts.acked
    pub promised : HoldsInEach (first_world schedule ∷ worlds)
    pub played : BenchPlayed g cuts (EndsWhole g) schedule worlds bench bench_now
    pub promised_in_images : PromisedInImages schedule worlds bench bench_now (played.stations the_server tt)
    pub tell_cuts : TellAllCuts cuts schedule worlds bench_now

  -- The event of this line may not come. Those before it were played, and the disks are as these left them.
  pub record IsUnlawful (schedule : Schedule) (bench bench_now : List B) (line : ℕ) : Type 0 where
    pub front : List Event
    pub event : Event
    pub rest : List Event
    pub split : schedule.events ≡ front ++ event ∷ rest
    pub worlds : List World
    pub run : IsRun (until front schedule) worlds
    pub refused : ¬ IsAllowed (last_world (first_world schedule) worlds) event
    pub line_is : line ≡ lines_before schedule + length front + 1
    pub played : BenchPlayed g cuts StaysSo (until front schedule) worlds bench bench_now
