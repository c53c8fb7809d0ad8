use Rattle.ftl0_client.proofs.EmptiesLemmas.{one_step}
use Rattle.ftl0_client.proofs.laws.one_step_law.Goals as goal

pub returns : goal.returns
returns c = one_step
