-- What the stations of a rehearsal need before an event.
use Rattle.std.specs.Prelude.{◌≡◌, ℕ, ◌≤◌, List, length, slice_get, false, Some, ⊤}
use Rattle.std.specs.List.{AllZip}
use Rattle.ax25_link.specs.Window.{IsGoodK}
use Rattle.disk_model.specs.declared.disk.Disk.{Ghosts}
use Rattle.client_notes.specs.Limits.{longest_file}
use Rattle.file_store.specs.State as store
use Rattle.ftl0_client.specs.ClientState.{IsFree, MayHear, client_pending}
use Rattle.ftl0_server.specs.ServerState.{ServerState, server_pending}
use Rattle.air_rehearsal.specs.declared.part.Part.{Part}
use Rattle.air_rehearsal.specs.declared.part.Part.TheVariants.{Download, Hear, List as list_part, Resume, Tick}
use Rattle.air_rehearsal.specs.declared.part.Part.TheVariants.{Upload}
use Rattle.air_rehearsal.specs.declared.party.Party.{Party}
use Rattle.air_rehearsal.specs.declared.stations.Stations.{Stations}

-- the client is of these stations, and may hear a frame
pub record IsTheirs {D : Type 0} (g : Ghosts D) (party : Party) (disk : D) : Type 0 where
  pub window : IsGoodK party.k
  pub me : party.client.me ≡ party.me
  pub server : party.client.server ≡ party.server
  pub k : party.client.k ≡ party.k
  pub may : MayHear g party.client disk

-- and has nothing to send
pub record IsReadyParty {D : Type 0} (g : Ghosts D) (party : Party) (disk : D) : Type 0 where
  pub theirs : IsTheirs g party disk
  pub quiet : client_pending party.client ≡ false

-- all but which uploads its tasks are is as it was
pub record KeepsParty (old new : Party) : Type 0 where
  pub me : new.me ≡ old.me
  pub server : new.server ≡ old.server
  pub k : new.k ≡ old.k
  pub client : new.client ≡ old.client
  pub attempt : new.attempt ≡ old.attempt
  pub cut : new.cut ≡ old.cut

-- what is asked may be asked
abbrev pub MayDo : Party → Part → Type 0
MayDo party (Upload upload file) = IsFree party.client × (length file ≤ longest_file)
MayDo party (Resume task number file) = IsFree party.client × (length file ≤ longest_file)
MayDo party (list_part tokens) = IsFree party.client × (length tokens ≤ 2047)
MayDo party (Download number) = IsFree party.client × (1 ≤ number)
MayDo party (Hear place) = ⊤
MayDo party Tick = ⊤

-- the server is of these stations, and its store is ready on its disk
pub record IsUp {D : Type 0} (g : Ghosts D) (stations : Stations) (server : ServerState) (disk : D) : Type 0 where
  pub window : IsGoodK stations.k
  pub me : server.me ≡ stations.me
  pub ready : store.IsReady g server.store disk

-- and has nothing to send
pub record IsReadyServer {D : Type 0} (g : Ghosts D) (stations : Stations) (server : ServerState) (disk : D)
    : Type 0 where
  pub up : IsUp g stations server disk
  pub silent : server_pending server ≡ false

-- all but what it and the server sent is as it was
pub record KeepsAllButLanes (old new : Party) : Type 0 where
  pub same : new ≡ record old { attempt = new.attempt }

-- so it is of each of these clients, one after another
abbrev pub KeepParties : List Party → List Party → Type 0
KeepParties = AllZip KeepsAllButLanes

-- All but what was sent, and the cut that waits for the server, is as it was.
pub record KeepsClients (old new : Stations) : Type 0 where
  pub me : new.me ≡ old.me
  pub k : new.k ≡ old.k
  pub parties : KeepParties old.parties.items new.parties.items
  pub uploads : new.uploads ≡ old.uploads
  pub moment : new.moment ≡ old.moment
  pub report : new.report ≡ old.report

-- each client is ready over its disk
abbrev pub AreReady : {D : Type 0} → Ghosts D → List Party → List D → Type 0
AreReady {D} g parties disks =
    (c : ℕ) (party : Party) (disk : D) → slice_get parties c ≡ Some party → slice_get disks c ≡ Some disk
    → IsReadyParty g party disk
