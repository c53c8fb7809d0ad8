-- The course of a server is lawful.
use Rattle.server_node.proofs.on_air.ServerLemmas.{lawful}
use Rattle.server_node.proofs.on_air.station.ServerStationStation.is_lawful.Goals as goal

pub returns : goal.returns
returns g c = lawful g.D.Disk g.met.D.Disk.lasts_same g.met.D.Disk.lasts_on
