use Rattle.ftl0_server.proofs.step_laws.ReceivesLemmas.{receives-law}
use Rattle.ftl0_server.proofs.step_laws.receives_law.Goals as goal

pub returns : goal.returns
returns c = receives-law
