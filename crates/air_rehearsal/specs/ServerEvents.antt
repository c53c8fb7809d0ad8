-- What becomes of the server, of its disk and of the clients' transmissions, where the server takes part in an event.
use Rattle.std.specs.Prelude.{◌≡◌, ℕ, ◌<◌, ◌≤◌, Option, None, Some, ⊤}
use Rattle.std.specs.Option.{option_map}
use Rattle.disk_model.specs.Cuts.{Cuts}
use Rattle.disk_model.specs.declared.disk.Disk.{Ghosts}
use Rattle.ftl0_server.specs.ServerState.{ServerState}
use Rattle.air_world.specs.Files.SoundStore.{NoneGone}
use Rattle.air_world.specs.Cuts.{ServerEvent}
use Rattle.air_world.specs.Schedule.{Event}
use Rattle.air_world.specs.Sound.{Sound}
use Rattle.air_world.specs.World.{World, next_moment}
use Rattle.air_rehearsal.specs.Chain.{Stage, StepBy}
use Rattle.air_rehearsal.specs.Standing.{StandsNow}
use Rattle.air_rehearsal.specs.Stations.{acts, the_server}
use Rattle.air_rehearsal.specs.Worlds.{IsSteady, PlaysWorld}
use Rattle.air_rehearsal.specs.declared.cuts.Cut.{Cut}
use Rattle.air_rehearsal.specs.declared.stations.Stations.{Stations}

-- the number of the call at which a cut that waits is to come
abbrev pub waiting_of : Option Cut → Option ℕ
waiting_of cut = option_map (λ (it : Cut). it.call) cut

-- the stations, the server and its disk
pub record Serving (B : Type 0) : Type 0 where
  pub stations : Stations
  pub server : ServerState
  pub disk : B

abbrev pub serving : {B : Type 0} → Stations → ServerState → B → Serving B
serving stations server disk = record { stations = stations; server = server; disk = disk }

-- the server between two events of this world
abbrev pub server_stage : {B : Type 0} → World → Serving B → Stage B
server_stage world at = record { world = world; waiting = waiting_of at.stations.cut; disk = at.disk }

-- the count of failed writes and syncs can rise
abbrev pub CanCount : {B : Type 0} → Ghosts B → B → Type 0
CanCount g disk = g.write_faults disk < 18446744073709551615

-- and never falls
abbrev pub CountsOn : {B : Type 0} → Ghosts B → B → B → Type 0
CountsOn g disk disk_now = g.write_faults disk ≤ g.write_faults disk_now

-- Where a cut waits, the count of failed writes can rise: so it tells whether a call failed by the arming.
abbrev pub TellsFailure : {B : Type 0} → Ghosts B → Option Cut → B → Type 0
TellsFailure g None disk = ⊤
TellsFailure g (Some cut) disk = g.write_faults disk < 18446744073709551615

module _ {B : Type 0} (g : Ghosts B) (cuts : Cuts B) where
  -- What an event of the server begins with. The world is sound, no entry of its store was given up, and the stations
  -- and the server play it, at the moment of its next event. The disk stands for it, and is steady.
  pub record AwaitsServer (world : World) (at : Serving B) : Type 0 where
    pub sound : Sound world
    pub none_gone : NoneGone world.server.store
    pub plays : PlaysWorld g at.stations at.server at.disk world
    pub moment : at.stations.moment ≡ next_moment world
    pub stands : StandsNow g the_server world at.disk
    pub steady : IsSteady g cuts at.disk
    pub tells : TellsFailure g at.stations.cut at.disk

  -- The server took part in the event, and this is the next world.
  pub record ServesEvent (world : World) (event : Event) (old new : Serving B) : Type 0 where
    pub next : World
    pub happens : ServerEvent world event next
    pub plays : PlaysWorld g new.stations new.server new.disk next
    pub does :
        StepBy g cuts the_server acts (waiting_of old.stations.cut) (server_stage world old) event
        (server_stage next new)
    pub stands : StandsNow g the_server next new.disk
    pub steady : IsSteady g cuts new.disk
