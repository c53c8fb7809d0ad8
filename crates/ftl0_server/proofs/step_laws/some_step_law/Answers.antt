use Rattle.ftl0_server.proofs.step_laws.FitsLemmas.{some_step}
use Rattle.ftl0_server.proofs.step_laws.some_step_law.Goals as goal

pub returns : goal.returns
returns c = some_step c.queued_law.ensures
