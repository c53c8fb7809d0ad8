use Rattle.ftl0_client.proofs.attempt.EndedLemmas.{stays-law}
use Rattle.ftl0_client.proofs.attempt.laws.stays_law.Goals as goal

pub returns : goal.returns
returns c = stays-law
