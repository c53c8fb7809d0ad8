use Rattle.ftl0_server.proofs.step_laws.RowLemmas.{commands_own}
use Rattle.ftl0_server.proofs.step_laws.caller_law.Goals as goal

pub returns : goal.returns
returns c = commands_own
