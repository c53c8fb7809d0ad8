-- What the calls do that an event of the server is made of.
use Rattle.std.specs.Prelude.{◌≡◌, ℕ, suc, ◌-◌, List, length, filter, slice_get, slice_set, false}
use Rattle.std.specs.Prelude.{Option, None, Some, IfSome, Result, ⊤}
use Rattle.ax25_frames.specs.FrameText.{FrameValue}
use Rattle.ax25_link.specs.Window.{window_of}
use Rattle.disk_model.specs.Cuts.{ArmsOnly, Cuts}
use Rattle.disk_model.specs.declared.disk.Disk.{Ghosts}
use Rattle.disk_model.specs.declared.disk.DiskFault.{DiskFault}
use Rattle.disk_model.specs.Runs.{EachImage}
use Rattle.file_journal.specs.Walk.{state}
use Rattle.file_store.specs.State.{StandsFor, standing_of, store_on}
use Rattle.file_store.specs.Store.{Store}
use Rattle.ftl0_session.specs.Uploads.Session.{is_same_call}
use Rattle.ftl0_server.specs.Calls.{Hears}
use Rattle.ftl0_server.specs.Server.{Server, new_server, settled}
use Rattle.ftl0_server.specs.ServerState.{IsServer, ServerState}
use Rattle.ftl0_server.specs.ServerStep.{Empties, happening}
use Rattle.turn_loop.specs.Events.{NodeEvent}
use Rattle.air_world.specs.Events.{ServerTakes}
use Rattle.air_world.specs.Schedule.{Event, tick_server, to_server}
use Rattle.air_world.specs.World.{World, store_blocks}
use Rattle.air_rehearsal.specs.Chain.{StartsAgain}
use Rattle.air_rehearsal.specs.Lanes.{HasLanes, Lanes, replying_each, timing_each}
use Rattle.air_rehearsal.specs.ServerEvents.{Serving}
use Rattle.air_rehearsal.specs.Stations.{the_server}
use Rattle.air_rehearsal.specs.Strikes.{Strikes}
use Rattle.air_rehearsal.specs.Worlds.{PlaysStations}
use Rattle.air_rehearsal.specs.declared.attempt.Attempt.{Attempt}
use Rattle.air_rehearsal.specs.declared.cuts.Cut.{Cut}
use Rattle.air_rehearsal.specs.declared.party.Party.{Party}
use Rattle.air_rehearsal.specs.declared.serving.ServerEvent.{ServerEvent}
use Rattle.air_rehearsal.specs.declared.serving.ServerEvent.TheVariants.{Hear, Tick}
use Rattle.air_rehearsal.specs.declared.stations.Stations.{Stations}

-- the event of a world that comes to the server so
abbrev pub event_of : ServerEvent → Event
event_of (Hear c place) = to_server (suc c) (suc place)
event_of Tick = tick_server

-- The server starts from its disk, without sessions: the store that the disk holds then is the one that the content
-- stood for, and that each image stands for.
pub record IsRestarted {B : Type 0} (g : Ghosts B) (stations : Stations) (disk disk_now : B) (server : ServerState)
    : Type 0 where
  pub is_new :
      IsServer (store_on g server.store disk_now) server
      (new_server stations.me (window_of stations.k) (store_on g server.store disk_now))
  pub stood :
      IfSome (g.content disk) (λ before. standing_of store_blocks before ≡ state (store_on g server.store disk_now))
  pub stands : EachImage g disk_now (λ image. StandsFor image (store_on g server.store disk_now))
  pub again : StartsAgain g the_server disk disk_now

module _ {B : Type 0} (g : Ghosts B) (cuts : Cuts B) where
  -- The arming of the disk is taken away, and the server starts from it.
  pub record IsStarted (stations : Stations) (disk disk_now : B) (server : ServerState) : Type 0 where
    pub disarmed : B
    pub arms : ArmsOnly g cuts None disk disarmed
    pub restarts : IsRestarted g stations disarmed disk_now server

  -- the disk is armed for the cut that comes, if one does
  abbrev pub ArmsFor : Option Cut → B → B → Type 0
  ArmsFor None disk disk_now = disk_now ≡ disk
  ArmsFor (Some cut) disk disk_now = ArmsOnly g cuts (Some (cut.call - 1)) disk disk_now

  -- Power is lost behind an event, and the server starts again from what the disk is left with.
  pub record IsCutSo (stations : Stations) (disk disk_now : B) (server : ServerState) : Type 0 where
    pub left : B
    pub strikes : Strikes g cuts disk left
    pub restarts : IsRestarted g stations left disk_now server
    pub memory : cuts.is_starved disk_now ≡ false

-- The event came to the server, and this was the answer; nothing is sent yet. The stations have the delivery, if it is
-- one, marked, as the world has it then.
pub record IsTaken {B : Type 0} (g : Ghosts B) (world : World) (event : Event) (old new : Serving B)
    (answer : Result ⊤ DiskFault) : Type 0 where
  pub coming : NodeEvent
  pub delivered : World
  pub takes : ServerTakes world event coming delivered
  pub hears : Hears g (happening world.server coming) old.server new.server old.disk new.disk answer
  pub plays : PlaysStations new.stations delivered

-- The server sends all that it has to send, as replies in this attempt, and stands for what it is then, over this store
-- of files.
pub record SendsReplies (store : Store) (it : Server) (now : ServerState) (attempt attempt_now : Attempt) : Type 0 where
  pub frames : List FrameValue
  pub last : Server
  pub empties : Empties it frames last
  pub settles : IsServer store now (settled last)
  pub lanes : (lanes : Lanes) → HasLanes attempt lanes → HasLanes attempt_now (replying_each frames lanes)

-- So it does in the attempt of this client, which is at this place of the clients, and no other one is touched.
pub record RepliesAt (store : Store) (c : ℕ) (it : Server) (now : ServerState) (party : Party)
    (parties parties_now : List Party) : Type 0 where
  pub attempt_now : Attempt
  pub replies : SendsReplies store it now party.attempt attempt_now
  pub parties_are : parties_now ≡ slice_set parties c (record party { attempt = attempt_now })

-- the client was sent those of these frames that are for it, by the server's timer, and nothing else of it changed
pub record IsTimed (frames : List FrameValue) (old new : Party) : Type 0 where
  pub same : new ≡ record old { attempt = new.attempt }
  pub lanes :
      (lanes : Lanes) → HasLanes old.attempt lanes
      → HasLanes new.attempt (timing_each (filter (λ frame. is_same_call frame.dest old.me) frames) lanes)

-- so it is of each client
pub record AreTimed (frames : List FrameValue) (parties parties_now : List Party) : Type 0 where
  pub as_many : length parties_now ≡ length parties
  pub each :
      (i : ℕ) (old new : Party) → slice_get parties i ≡ Some old → slice_get parties_now i ≡ Some new
      → IsTimed frames old new

-- The server sends all that it has to send by its timer, each frame to the client that it is for, and stands for what
-- it is then, over this store of files.
pub record SendsByTimer (store : Store) (it : Server) (now : ServerState) (parties parties_now : List Party)
    : Type 0 where
  pub frames : List FrameValue
  pub last : Server
  pub empties : Empties it frames last
  pub settles : IsServer store now (settled last)
  pub timed : AreTimed frames parties parties_now

-- What the server sends after such an event: replies to the client that it heard, or frames by its timer.
abbrev pub AnswersEvent : ServerEvent → Store → Server → ServerState → List Party → List Party → Type 0
AnswersEvent (Hear c place) store it now parties parties_now =
    (party : Party) → slice_get parties c ≡ Some party → RepliesAt store c it now party parties parties_now
AnswersEvent Tick store it now parties parties_now = SendsByTimer store it now parties parties_now
