-- From the law of the session's table.
use Rattle.server_node.proofs.acknowledged.Names.{seen}
use Rattle.server_node.proofs.acknowledged.AcknowledgedLemmas.{session_acknowledges}
use Rattle.server_node.proofs.acknowledged.session_acknowledges_law.Goals as goal

pub returns : goal.returns
returns g c = session_acknowledges (seen g.D.Disk g.A.Air g.C.Clock.given) c.acknowledged_stands_law.ensures
