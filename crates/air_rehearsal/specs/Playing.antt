-- What an event makes of the stations of a rehearsal and of their disks.
use Rattle.std.specs.Prelude.{◌≡◌, ℕ, ◌+◌, ◌%◌, ◌^◌, ◌<◌, ◌≤◌, List, [], ◌∷◌, length, map, slice_get, Bool}
use Rattle.std.specs.Prelude.{Option, Some}
use Rattle.std.specs.List.{count_by, range_with_len, sum_by, zip}
use Rattle.std.specs.Option.{option_and_then}
use Rattle.disk_model.specs.Cuts.{Cuts}
use Rattle.disk_model.specs.declared.disk.Disk.{Ghosts}
use Rattle.ftl0_server.specs.ServerState.{ServerState}
use Rattle.ftl0_client.specs.Outcome.{Outcome}
use Rattle.air_world.specs.Files.SoundStore.{NoneGone}
use Rattle.air_world.specs.Cuts.{WorldStep}
use Rattle.air_world.specs.Schedule.{Event}
use Rattle.air_world.specs.Sound.{Sound}
use Rattle.air_world.specs.World.{World, next_moment}
use Rattle.air_rehearsal.specs.Chain.{DiskStep, Stage}
use Rattle.air_rehearsal.specs.Counting.{Tells, one_if}
use Rattle.air_rehearsal.specs.Report.{Report, came_to, is_fetch, is_question, is_refusal}
use Rattle.air_rehearsal.specs.ServerEvents.{waiting_of}
use Rattle.air_rehearsal.specs.Standing.{StandsNow}
use Rattle.air_rehearsal.specs.Stations.{Station, client_at, role_of, the_server, with_cut}
use Rattle.air_rehearsal.specs.Worlds.{IsSteady, PlaysWorld}
use Rattle.air_rehearsal.specs.declared.party.Party.{Party as StoredParty}
use Rattle.air_rehearsal.specs.declared.stations.Stations.{Stations}

-- the stations, with the server, its disk, and the disks of the clients
pub record Bench (B : Type 0) : Type 0 where
  pub stations : Stations
  pub server : ServerState
  pub disk : B
  pub disks : List B

abbrev pub bench_of : {B : Type 0} → Stations → ServerState → B → List B → Bench B
bench_of stations server disk disks = record { stations = stations; server = server; disk = disk; disks = disks }

-- so many clients take part
abbrev pub client_count : Stations → ℕ
client_count stations = length stations.parties.items

-- a client of the bench, with its disk
pub record ClientStage {B : Type 0} (world : World) (at : Bench B) (c : ℕ) (stage : Stage B) : Type 0 where
  pub party : StoredParty
  pub is_party : slice_get at.stations.parties.items c ≡ Some party
  pub disk : B
  pub is_disk : slice_get at.disks c ≡ Some disk
  pub stage_is : stage ≡ record { world = world; waiting = waiting_of party.cut; disk = disk }

-- this is the station, with its disk and the cut that waits for it, in this world
abbrev pub IsStage : {B : Type 0} → World → Bench B → Station → Stage B → Type 0
IsStage world at the_server stage =
    stage ≡ record { world = world; waiting = waiting_of at.stations.cut; disk = at.disk }
IsStage world at (client_at c) stage = ClientStage world at c stage

module _ {B : Type 0} (g : Ghosts B) (cuts : Cuts B) where
  -- Between two events the stations play this world, which is sound, over disks that are steady. No entry of the
  -- server's store was given up.
  pub record IsBench (world : World) (at : Bench B) : Type 0 where
    pub sound : Sound world
    pub none_gone : NoneGone world.server.store
    pub plays : PlaysWorld g at.stations at.server at.disk world
    pub steady : IsSteady g cuts at.disk
    pub all_steady :
        (c : ℕ) (disk : B) → c < client_count at.stations → slice_get at.disks c ≡ Some disk → IsSteady g cuts disk
    pub enough : client_count at.stations ≤ length at.disks
    pub stands :
        (station : Station) (stage : Stage B) → IsStage world at station stage → StandsNow g station world stage.disk

  -- And their clock says how many events there were.
  pub record IsPlaying (world : World) (at : Bench B) : Type 0 where
    pub bench : IsBench world at
    pub moment : at.stations.moment ≡ world.events % 2 ^ 32

-- the cut that waits for a station
abbrev pub waiting_in : Stations → Station → Option ℕ
waiting_in stations the_server = waiting_of stations.cut
waiting_in stations (client_at c) =
    option_and_then (λ (party : StoredParty). waiting_of party.cut) (slice_get stations.parties.items c)

-- the server, and the clients
abbrev pub stations_in : Stations → List Station
stations_in stations = the_server ∷ map client_at (range_with_len 0 (client_count stations))

-- how many stations' power is cut in this event: one, or none
abbrev pub cuts_in : Stations → Event → World → ℕ
cuts_in stations event world =
    sum_by
    (λ station. length (with_cut (role_of station event) (waiting_in stations station) world []))
    (stations_in stations)

-- how often what was asked came to such an outcome in this step
abbrev pub came_in : (Option Outcome → Bool) → World → World → ℕ
came_in is_such old new = count_by (came_to is_such) (zip old.parties new.parties)

-- the numbers of the report once this event came, but for that of the events
abbrev pub counts_with : Stations → Event → World → World → Report → Report
counts_with stations event old new counts =
    record counts {
      asked = counts.asked + one_if (is_question event);
      refused = counts.refused + came_in is_refusal old new;
      fetched = counts.fetched + came_in is_fetch old new;
      cuts = counts.cuts + cuts_in stations event old;
    }

module _ {B : Type 0} (g : Ghosts B) (cuts : Cuts B) where
  -- The event makes a next world of this one, which the stations play; each station's disk goes from the one to the
  -- other; the disks of no station stay as they are; and what comes of the event is counted.
  pub record GoesOn (world : World) (event : Event) (old new : Bench B) : Type 0 where
    pub next : World
    pub step : WorldStep world event next
    pub bench : IsBench g cuts next new
    pub disks :
        (station : Station) (stage stage_now : Stage B) → IsStage world old station stage
        → IsStage next new station stage_now → DiskStep g cuts station stage event stage_now
    pub others :
        (c : ℕ) → client_count old.stations ≤ c → slice_get new.disks c ≡ slice_get old.disks c
    pub as_many : length new.disks ≡ length old.disks
    pub same_count : client_count new.stations ≡ client_count old.stations
    pub moment : new.stations.moment ≡ old.stations.moment
    pub counts :
        (counts : Report) → Tells old.stations.report counts
        → Tells new.stations.report (counts_with old.stations event world next counts)

  -- The event was played, and is one more.
  pub record PlaysEvent (world : World) (event : Event) (old new : Bench B) : Type 0 where
    pub counted : Stations
    pub counted_is :
        counted ≡ record old.stations { moment = counted.moment; report = counted.report }
    pub moment_is : counted.moment ≡ next_moment world
    pub one_more :
        (counts : Report) → Tells old.stations.report counts
        → Tells counted.report (record counts { events = counts.events + 1 })
    pub goes : GoesOn world event (record old { stations = counted }) new
