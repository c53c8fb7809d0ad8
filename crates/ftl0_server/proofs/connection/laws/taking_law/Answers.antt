use Rattle.ftl0_server.proofs.connection.TakingLemmas.{taking-law}
use Rattle.ftl0_server.proofs.connection.laws.taking_law.Goals as goal

pub returns : goal.returns
returns c = taking-law
