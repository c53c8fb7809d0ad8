-- From the law of a session over events.
use Rattle.server_node.proofs.Names.{runs}
use Rattle.server_node.proofs.laws.runs_law.Goals as goal

pub returns : goal.returns
returns c = runs
