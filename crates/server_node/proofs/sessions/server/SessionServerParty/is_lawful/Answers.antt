-- The course of a session's server is lawful.
use Rattle.server_node.proofs.sessions.CourseLemmas.{lawful}
use Rattle.server_node.proofs.sessions.server.SessionServerParty.is_lawful.Goals as goal

pub returns : goal.returns
returns g c = lawful g.D.Disk g.met.D.Disk.lasts_same g.met.D.Disk.lasts_on
