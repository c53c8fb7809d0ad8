-- A tick brings no packet.
use Rattle.server_node.proofs.Names.{at}
use Rattle.server_node.proofs.sessions.CourseLemmas.{owes-tick}
use Rattle.server_node.proofs.sessions.server.SessionServerParty.tick.Goals as goal

pub returns : goal.returns
returns g c = record { takes = owes-tick g.D.Disk g.met.D.Disk.lasts_same g.met.D.Disk.lasts_on c.args._moment (at c.args.self.now c.args._disk.now) c.requires }
