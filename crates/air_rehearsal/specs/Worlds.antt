-- Which world the stations of a rehearsal play.
use Rattle.std.specs.Prelude.{◌≡◌, ℕ, suc, ◌<◌, List, [], ◌∷◌, is_some, false}
use Rattle.std.specs.List.{AllZip}
use Rattle.disk_model.specs.Cuts.{Cuts, Unarmed}
use Rattle.disk_model.specs.Disk.{IsTold}
use Rattle.disk_model.specs.declared.disk.Disk.{Ghosts}
use Rattle.ax25_link.specs.Window.{window_of}
use Rattle.file_store.specs.State.{store_on}
use Rattle.ftl0_client.specs.ClientState.{IsClient}
use Rattle.ftl0_server.specs.ServerState.{IsServer, ServerState}
use Rattle.air_world.specs.Attempts.Party.{Asked, Party}
use Rattle.air_world.specs.Files.Uploads.{upload_file, upload_name}
use Rattle.air_world.specs.World.{World, store_blocks}
use Rattle.air_rehearsal.specs.Lanes.{HasLanes, lanes_of}
use Rattle.air_rehearsal.specs.declared.asking.Upload.{Upload}
use Rattle.air_rehearsal.specs.declared.party.Party.{Party as StoredParty}
use Rattle.air_rehearsal.specs.declared.stations.Stations.{Stations}

-- The client is that one of a world, with the transmissions of its current attempt, and with a cut that waits where
-- one does there.
pub record PlaysParty (self : StoredParty) (party : Party) : Type 0 where
  pub me_is : self.me ≡ party.client.me
  pub client : IsClient self.client party.client
  pub lanes : HasLanes self.attempt (lanes_of party.attempts)
  pub uploads_are : self.uploads.items ≡ party.uploads
  pub cut_is : is_some self.cut ≡ party.is_cut

-- so it is of each of them, one after another
abbrev pub PlayParties : List StoredParty → List Party → Type 0
PlayParties = AllZip PlaysParty

-- the uploads from this number on, as they were asked
abbrev pub asked_from : ℕ → List Upload → List Asked
asked_from number [] = []
asked_from number (upload ∷ uploads) =
    record {
      client = upload.client;
      name = upload_name number;
      file = upload_file number upload.octets;
    } ∷ asked_from (suc number) uploads

-- All but the server is that of the world.
pub record PlaysStations (self : Stations) (world : World) : Type 0 where
  pub me_is : self.me ≡ world.server.me
  pub window_is : world.server.window ≡ window_of self.k
  pub cut_is : is_some self.cut ≡ world.is_cut
  pub files_are : world.files ≡ asked_from 0 self.uploads.items
  pub parties : PlayParties self.parties.items world.parties

-- And so is the server, over the store of files that its disk holds, which has the blocks of a rehearsal.
pub record PlaysWorld {B : Type 0} (g : Ghosts B) (self : Stations) (state : ServerState) (disk : B) (world : World)
    : Type 0 where
  pub server : IsServer (store_on g state.store disk) state world.server
  pub blocks : world.server.store.blocks ≡ store_blocks
  pub stations : PlaysStations self world

-- Between two events a disk tells its content, isn't armed, and has memory; no call of it is listed to fail, and the
-- count of its failed reads can rise.
pub record IsSteady {B : Type 0} (g : Ghosts B) (cuts : Cuts B) (disk : B) : Type 0 where
  pub told : IsTold (g.content disk)
  pub plain : cuts.plain disk
  pub unarmed : cuts.arming disk ≡ Unarmed
  pub memory : cuts.is_starved disk ≡ false
  pub reads : g.read_faults disk < 18446744073709551615
