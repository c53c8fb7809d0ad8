use Rattle.ftl0_client.proofs.attempt.AckedLemmas.{acked-law}
use Rattle.ftl0_client.proofs.attempt.laws.acked_law.Goals as goal

pub returns : goal.returns
returns c = acked-law
