use Rattle.ftl0_client.proofs.OutcomeLemmas.{acked}
use Rattle.ftl0_client.proofs.laws.acked_law.Goals as goal

pub returns : goal.returns
returns c = acked c.acked_law.ensures
