use Rattle.ftl0_client.proofs.StrangerLemmas.{stranger}
use Rattle.ftl0_client.proofs.laws.stranger_law.Goals as goal

pub returns : goal.returns
returns c = stranger
