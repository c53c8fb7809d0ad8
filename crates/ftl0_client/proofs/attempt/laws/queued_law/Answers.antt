use Rattle.ftl0_client.proofs.attempt.SettlingLemmas.{queued-law}
use Rattle.ftl0_client.proofs.attempt.laws.queued_law.Goals as goal

pub returns : goal.returns
returns c = queued-law
