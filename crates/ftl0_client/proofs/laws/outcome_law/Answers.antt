use Rattle.ftl0_client.proofs.OutcomeLemmas.{outcome-stays}
use Rattle.ftl0_client.proofs.laws.outcome_law.Goals as goal

pub returns : goal.returns
returns c = outcome-stays c.outcome_law.ensures
