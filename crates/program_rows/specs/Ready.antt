-- What the two stations of a row need before a frame comes, a tick, or what is asked.
use Rattle.std.specs.Prelude.{◌≡◌, false}
use Rattle.disk_model.specs.declared.disk.Disk.{Ghosts}
use Rattle.ax25_link.specs.Window.{IsGoodK}
use Rattle.file_store.specs.State as store
use Rattle.ftl0_client.specs.ClientState.{MayHear, client_pending}
use Rattle.ftl0_server.specs.ServerState.{server_pending}
use Rattle.program_rows.specs.declared.air.client_side.ClientSide.{ClientSide}
use Rattle.program_rows.specs.declared.air.server_side.ServerSide.{ServerSide}
use Rattle.program_rows.specs.declared.air.exchange.Stations.{Stations}

-- the client is of these stations, and may hear a frame
pub record IsTheirs {D : Type 0} (g : Ghosts D) (side : ClientSide D) : Type 0 where
  pub window : IsGoodK side.k
  pub me : side.client.me ≡ side.me
  pub server : side.client.server ≡ side.server
  pub may : MayHear g side.client side.disk

-- and has nothing to send
pub record IsReadyClient {D : Type 0} (g : Ghosts D) (side : ClientSide D) : Type 0 where
  pub theirs : IsTheirs g side
  pub quiet : client_pending side.client ≡ false

-- the server is this station, and its store is ready on its disk
pub record IsUp {D : Type 0} (g : Ghosts D) (side : ServerSide D) : Type 0 where
  pub me : side.server.me ≡ side.me
  pub ready : store.IsReady g side.server.store side.disk

-- and has nothing to send
pub record IsReadyServer {D : Type 0} (g : Ghosts D) (side : ServerSide D) : Type 0 where
  pub up : IsUp g side
  pub silent : server_pending side.server ≡ false

-- both stations are ready
pub record AreReady {C S : Type 0} (c : Ghosts C) (s : Ghosts S) (stations : Stations C S) : Type 0 where
  pub client : IsReadyClient c stations.client
  pub server : IsReadyServer s stations.server
