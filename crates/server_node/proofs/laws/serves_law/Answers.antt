-- From the law of a server over events.
use Rattle.server_node.proofs.Names.{serves}
use Rattle.server_node.proofs.laws.serves_law.Goals as goal

pub returns : goal.returns
returns c = serves
