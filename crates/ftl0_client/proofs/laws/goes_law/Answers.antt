use Rattle.ftl0_client.proofs.GoingLemmas.{goes-law}
use Rattle.ftl0_client.proofs.laws.goes_law.Goals as goal

pub returns : goal.returns
returns c = goes-law c.stands_law.ensures.stays c.stands_law.ensures.calling
