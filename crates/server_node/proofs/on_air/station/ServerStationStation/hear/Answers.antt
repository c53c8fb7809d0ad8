-- The frame came, and what it made of the server is to be said.
use Rattle.std.proofs.Common.{Err, Ok}
use Rattle.ax25_frames.specs.Values.{value_of}
use Rattle.server_node.proofs.Names.{at, hears}
use Rattle.server_node.proofs.on_air.ServerLemmas.{owes-event}
use Rattle.server_node.proofs.on_air.station.ServerStationStation.hear.Goals as goal

pub returns-in-Ok-clause-takes : goal.returns-in-Ok-clause-takes
returns-in-Ok-clause-takes g c =
    owes-event g.D.Disk g.met.D.Disk.lasts_same (at c.args.self.now c.args.disk.now) c.hear.new.self c.hear.new.disk (hears (value_of c.args.frame.now) c.args.moment) (Ok tt) c.in-Ok.ensures

pub returns-in-Err-clause-takes : goal.returns-in-Err-clause-takes
returns-in-Err-clause-takes g c =
    let owes = owes-event g.D.Disk g.met.D.Disk.lasts_same (at c.args.self.now c.args.disk.now) c.hear.new.self c.hear.new.disk (hears (value_of c.args.frame.now) c.args.moment) (Err c.in-Err.fault) c.in-Err.ensures in
    (_, c.from.ensures, owes)
