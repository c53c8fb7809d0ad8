use Rattle.ftl0_client.proofs.GoingLemmas.{stays-law}
use Rattle.ftl0_client.proofs.laws.stays_law.Goals as goal

pub returns : goal.returns
returns c = stays-law c.outcome_law.ensures
