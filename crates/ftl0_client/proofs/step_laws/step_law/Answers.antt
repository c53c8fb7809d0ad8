use Rattle.ftl0_client.proofs.step_laws.StepLemmas.{step-law}
use Rattle.ftl0_client.proofs.step_laws.step_law.Goals as goal

pub returns : goal.returns
returns c = step-law
