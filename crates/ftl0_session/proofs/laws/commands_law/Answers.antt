use Rattle.ftl0_session.proofs.RunLemmas.{commands}
use Rattle.ftl0_session.proofs.laws.commands_law.Goals as goal

pub returns : goal.returns
returns c = commands
