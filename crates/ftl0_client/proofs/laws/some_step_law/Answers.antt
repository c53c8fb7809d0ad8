use Rattle.ftl0_client.proofs.EmptiesLemmas.{some_step}
use Rattle.ftl0_client.proofs.laws.some_step_law.Goals as goal

pub returns : goal.returns
returns c = some_step
