use Rattle.ftl0_client.proofs.OutcomeLemmas.{fetched}
use Rattle.ftl0_client.proofs.laws.fetched_law.Goals as goal

pub returns : goal.returns
returns c = fetched c.fetched_law.ensures
