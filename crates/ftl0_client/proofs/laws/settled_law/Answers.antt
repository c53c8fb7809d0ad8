use Rattle.ftl0_client.proofs.GoingLemmas.{settled-law}
use Rattle.ftl0_client.proofs.laws.settled_law.Goals as goal

pub returns : goal.returns
returns c = settled-law c.stands_law.ensures.stays c.quiet_law.ensures c.outcome_law.ensures
