use Rattle.ftl0_client.proofs.attempt.DownLemmas.{outcome-law}
use Rattle.ftl0_client.proofs.attempt.laws.outcome_law.Goals as goal

pub returns : goal.returns
returns c = outcome-law
