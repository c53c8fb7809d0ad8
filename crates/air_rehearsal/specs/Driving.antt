-- What the calls of a driver do: which events come of them, and that the stations play these.
use Rattle.std.specs.Prelude.{◌≡◌, ℕ, List, [], ◌∷◌, ◌++◌, Option, IfSome}
use Rattle.std.specs.Option.{option_map}
use Rattle.disk_model.specs.Cuts.{Cuts}
use Rattle.disk_model.specs.declared.disk.Disk.{Ghosts}
use Rattle.ftl0_server.specs.ServerState.{ServerState}
use Rattle.air_schedule.specs.Events.{event_value}
use Rattle.air_schedule.specs.declared.event.Event.{Event as StoredEvent}
use Rattle.air_world.specs.Schedule.{Event, IsInRange, to_client, to_server}
use Rattle.air_world.specs.Sound.{Sound}
use Rattle.air_world.specs.World.{World}
use Rattle.air_rehearsal.specs.Generator.{Draw, Drawing, state_after}
use Rattle.air_rehearsal.specs.Playing.{Bench, IsPlaying, PlaysEvent, bench_of}
use Rattle.air_rehearsal.specs.Ready.{AreReady, IsReadyServer}
use Rattle.air_rehearsal.specs.Report.{last_world}
use Rattle.air_rehearsal.specs.ServerEvents.{CanCount, CountsOn}
use Rattle.air_rehearsal.specs.Worlds.{PlaysStations}
use Rattle.air_rehearsal.specs.declared.generator.Driver.{Driver}
use Rattle.air_rehearsal.specs.declared.generator.Way.{Way}
use Rattle.air_rehearsal.specs.declared.generator.Way.TheVariants.{ToClient, ToServer}
use Rattle.air_rehearsal.specs.declared.stations.Stations.{Stations}

-- where a driver stands: the state of its draws, and the stations that it drives over their disks
pub record Driven (B : Type 0) : Type 0 where
  pub state : ℕ
  pub bench : Bench B

abbrev pub driven_by : {B : Type 0} → Driver → ServerState → B → List B → Driven B
driven_by driver server disk disks =
    record { state = driver.draws.state; bench = bench_of driver.stations server disk disks }

-- all stations are ready, each over its disk
pub record IsReadyBench {B : Type 0} (g : Ghosts B) (at : Bench B) : Type 0 where
  pub server : IsReadyServer g at.stations at.server at.disk
  pub clients : AreReady g at.stations.parties.items at.disks

module _ {B : Type 0} (g : Ghosts B) (cuts : Cuts B) where
  -- these events were played, one after another, and these are the worlds after them
  abbrev pub PlaysEach : World → List Event → List World → Bench B → Bench B → Type 0
  PlaysEach world [] worlds old new = (worlds ≡ []) × (new ≡ old)
  PlaysEach world (event ∷ events) worlds old new =
      (amid : Bench B) × (plays : PlaysEvent g cuts world event old amid) × (later : List World)
      × (worlds ≡ plays.goes.next ∷ later) × PlaysEach plays.goes.next events later amid new

  -- Some events were played from this world on. They are such as this says of a generator, whatever comes behind them.
  pub record Comes (Moves : Drawing → Drawing → Type 0) (world : World) (old new : Driven B) : Type 0 where
    pub events : List Event
    pub worlds : List World
    pub plays : PlaysEach world events worlds old.bench new.bench
    pub moves :
        (later : List Event) (rest : List World)
        → Moves
        (record { state = old.state; world = world; events = events ++ later; worlds = worlds ++ rest })
        (record { state = new.state; world = last_world world worlds; events = later; worlds = rest })

  -- What each call of a driver does: it leaves the stations ready, and in whichever world they play, such events come.
  pub record Drives (Moves : Drawing → Drawing → Type 0) (old new : Driven B) : Type 0 where
    pub ready : IsReadyBench g new.bench
    pub faults : CountsOn g old.bench.disk new.bench.disk
    pub comes :
        (world : World) → IsPlaying g cuts world old.bench → CanCount g new.bench.disk → Comes Moves world old new

-- the delivery of the transmission of this number, from or to the client of that one
abbrev pub delivery_of : Way → ℕ → ℕ → Event
delivery_of ToServer client number = to_server client number
delivery_of ToClient client number = to_client client number

-- in whichever world the stations play, the event's numbers, if there is one, have their ranges
abbrev pub IsFitEvent : Stations → Option StoredEvent → Type 0
IsFitEvent stations event =
    (world : World) → Sound world → PlaysStations stations world → IfSome event (λ it. IsInRange (event_value it))

-- this was drawn, and the state is that behind it
pub record IsDraw (draw : Draw) (event : Option StoredEvent) (state state_now : ℕ) : Type 0 where
  pub event_is : option_map event_value event ≡ draw.event
  pub state_is : state_now ≡ state_after draw.count state
