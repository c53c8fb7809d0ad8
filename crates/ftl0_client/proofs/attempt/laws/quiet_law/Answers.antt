use Rattle.ftl0_client.proofs.attempt.StandLemmas.{quiet-law}
use Rattle.ftl0_client.proofs.attempt.laws.quiet_law.Goals as goal

pub returns : goal.returns
returns c = quiet-law
