use Rattle.ftl0_server.proofs.step_laws.FitsLemmas.{one_step}
use Rattle.ftl0_server.proofs.step_laws.one_step_law.Goals as goal

pub returns : goal.returns
returns c = one_step
