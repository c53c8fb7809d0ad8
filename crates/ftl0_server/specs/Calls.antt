-- What a server's calls do.
use Rattle.std.specs.Prelude.{◌≡◌, ℕ, List, [], ◌∷◌, true, false, Bool, Option, None, Some}
use Rattle.std.specs.Prelude.{Result, Ok, Err, IsErr, ⊤}
use Rattle.std.specs.List.{position}
use Rattle.px_base.specs.CallSign.{CallSign}
use Rattle.disk_model.specs.AtDisk.{at}
use Rattle.disk_model.specs.declared.disk.Disk.{Ghosts}
use Rattle.ax25_frames.specs.FrameText.{FrameText, FrameValue, canonical}
use Rattle.ax25_frames.specs.Kinds.{FitsControl}
use Rattle.disk_model.specs.Runs.{Leaves}
use Rattle.file_store.specs.OnDisk.{MakesFirst}
use Rattle.file_store.specs.State.{IsKnown, IsReady, store_on}
use Rattle.file_store.specs.Store.{Store}
use Rattle.file_store.specs.Working.{CutsOffAmongReads, DoesAmongReads}
use Rattle.ftl0_session.specs.Uploads.Failures.{Failure, failed_write}
use Rattle.disk_model.specs.declared.disk.DiskFault.{DiskFault}
use Rattle.turn_loop.specs.Events.{IsFor, NodeEvent}
use Rattle.ftl0_server.specs.AtPlace.{KeepsStore}
use Rattle.ftl0_server.specs.Connection.ConnectionState.{with_reads}
use Rattle.ftl0_server.specs.Connection.Taking.{fails, goes_on}
use Rattle.ftl0_server.specs.declared.place.Place.{Place}
use Rattle.ftl0_server.specs.Places.{SamePlace}
use Rattle.ftl0_server.specs.Server.{Server, ServerHappened, ServerSends, server_next}
use Rattle.ftl0_server.specs.ServerState.{IsServer, SendsFor, ServerState, any_pending, has_caller, server_pending}
use Rattle.ftl0_server.specs.ServerStep.{LooksAtNoFile, happening}

-- What an event does. `event` gives what it makes of the server by the writes and syncs that fail in it. If all was
-- taken, none failed, and its commands are done. If the disk failed, at a write or a sync of some packet and nowhere
-- else, the commands before it are done, and it failed in one of that packet's; the frames that are pending then are
-- those of that step. The count of failed reads rose exactly when a part reported one. The disk gets no longer than a
-- store of this number of blocks may be, or than it was.
abbrev pub HearsBy :
    {D : Type 0} → Ghosts D → (List Failure → ServerHappened) → ServerState → ServerState → D → D → Result ⊤ DiskFault
    → Type 0
HearsBy g event old new disk disk_now (Ok done) =
    ((event []).halt ≡ goes_on) × IsServer (store_on g new.store disk_now) new (event []).after
    × DoesAmongReads g ⊥ (event []).missed old.store new.store disk disk_now (event []).done
HearsBy g event old new disk disk_now (Err fault) =
    (part : ℕ) × ((event (failed_write part)).halt ≡ fails) × SendsFor new (event (failed_write part)).after
    × CutsOffAmongReads g ⊤ (event (failed_write part)).missed (at old.store disk) (at new.store disk_now)
    (event (failed_write part)).done (event (failed_write part)).cut

-- An event came, of which this is what it makes of the server by the failures of the disk; reads failed at these parts
-- of it. Since it came each image stands for the store after the first of the commands that it has when no write and no
-- sync fails, for some number of them: that is what a power cut inside it leaves.
pub record Hears {D : Type 0} (g : Ghosts D) (event : List Failure → ServerHappened) (old new : ServerState)
    (disk disk_now : D) (result : Result ⊤ DiskFault) : Type 0 where
  pub parts : List ℕ
  pub by : HearsBy g (with_reads event parts) old new disk disk_now result
  pub since : Leaves g disk disk_now (λ _. MakesFirst (store_on g old.store disk) (with_reads event parts []).done)

-- What an event needs of a server: nothing is to be given out, and the store is ready.
pub record AwaitsEvent {D : Type 0} (g : Ghosts D) (self : ServerState) (disk : D) : Type 0 where
  pub silent : server_pending self ≡ false
  pub ready : IsReady g self.store disk

-- So a frame, which is one for the server.
pub record AwaitsFrame {D : Type 0} (g : Ghosts D) (self : ServerState) (disk : D) (frame : FrameValue) : Type 0 where
  pub is_for : IsFor self.me frame
  pub numbers : FitsControl frame.kind.control
  pub awaits : AwaitsEvent g self disk

-- What an event does: of whichever server it stood for, over the store of files that the disk holds, it is what the
-- event makes of that, or it stops; this if it is known what octets the files have, and on every disk if no octet of a
-- file is looked at. It keeps its store and its call.
pub record HearsEvent {D : Type 0} (g : Ghosts D) (event : NodeEvent) (old new : ServerState) (disk disk_now : D)
    (result : Result ⊤ DiskFault) : Type 0 where
  pub hears :
      IsKnown g disk → (server : Server) → IsServer (store_on g old.store disk) old server
      → Hears g (happening server event) old new disk disk_now result
  pub alone :
      (server : Server) → IsServer (store_on g old.store disk) old server → LooksAtNoFile server event
      → Hears g (happening server event) old new disk disk_now result
  pub keeps : KeepsStore g (IsErr result) old.store new.store disk disk_now
  pub me : new.me ≡ old.me

-- What is handed out if this is sent next: nothing, and nothing changes; or the octets of its frame in place of those
-- that the buffer held. The server is then, in this sense, the one that has sent it.
abbrev pub HandsOut :
    (ServerState → Server → Type 0) → Option ServerSends → ServerState → ServerState → List ℕ → List ℕ → Bool → Type 0
HandsOut Stands None old new before now answer = (answer ≡ false) × (new ≡ old) × (now ≡ before)
HandsOut Stands (Some sends) old new before now answer =
    (answer ≡ true) × Stands new sends.after × (now ≡ canonical sends.frame) × FrameText sends.frame now

-- the same of whichever server it was
abbrev pub HandsOutNext :
    (ServerState → Server → Type 0) → ServerState → ServerState → List ℕ → List ℕ → Bool → Type 0
HandsOutNext Stands old new before now answer =
    (server : Server) → Stands old server → HandsOut Stands (server_next server) old new before now answer

-- the places are the same, except that frames were given out
abbrev pub SamePlaces : List Place → List Place → Type 0
SamePlaces [] [] = ⊤
SamePlaces [] (after ∷ others) = ⊥
SamePlaces (place ∷ places) [] = ⊥
SamePlaces (place ∷ places) (after ∷ others) = SamePlace place after × SamePlaces places others

-- giving out a frame changes nothing except the links, and the DM that was to be sent
pub record SameButLinks (old new : ServerState) : Type 0 where
  pub me : new.me ≡ old.me
  pub k : new.k ≡ old.k
  pub places : SamePlaces old.places new.places
  pub store : new.store ≡ old.store
  pub lists : new.lists ≡ old.lists

-- the store and the call are as they were
pub record SameStore (old new : ServerState) : Type 0 where
  pub store : new.store ≡ old.store
  pub me : new.me ≡ old.me

-- What a frame of a station needs that has no connection: nothing is to be given out, and the store hasn't failed.
pub record AwaitsStranger (self : ServerState) (caller : CallSign) : Type 0 where
  pub stranger : position (has_caller caller) self.places ≡ None
  pub quiet : any_pending self.places ≡ false
  pub healthy : self.store.journal.failed ≡ false

-- A frame of a station without a connection makes this of whichever server it was, over whichever store.
abbrev pub HearsStranger : (Server → Server) → ServerState → ServerState → Type 0
HearsStranger step old new =
    (store : Store) (server : Server) → IsServer store old server → IsServer store new (step server)
