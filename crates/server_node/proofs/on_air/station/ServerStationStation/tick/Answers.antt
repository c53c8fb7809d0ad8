-- The tick came, and what it made of the server is to be said.
use Rattle.std.proofs.Common.{Ok}
use Rattle.server_node.proofs.Names.{at, ticks}
use Rattle.server_node.proofs.on_air.ServerLemmas.{owes-event}
use Rattle.server_node.proofs.on_air.station.ServerStationStation.tick.Goals as goal

pub returns-in-Ok-clause-takes : goal.returns-in-Ok-clause-takes
returns-in-Ok-clause-takes g c =
    owes-event g.D.Disk g.met.D.Disk.lasts_same (at c.args.self.now c.args.disk.now) c.tick.new.self c.tick.new._disk (ticks c.args.moment) (Ok tt) c.in-Ok.ensures.takes
