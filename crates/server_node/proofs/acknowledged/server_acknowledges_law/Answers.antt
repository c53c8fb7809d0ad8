-- From the laws of the session's table and of taking packets.
use Rattle.server_node.proofs.acknowledged.Names.{seen}
use Rattle.server_node.proofs.acknowledged.AcknowledgedLemmas.{server_acknowledges}
use Rattle.server_node.proofs.acknowledged.server_acknowledges_law.Goals as goal

pub returns : goal.returns
returns g c = server_acknowledges (seen g.D.Disk g.A.Air g.C.Clock.given) c.acknowledged_stands_law.ensures c.taking_law.ensures
