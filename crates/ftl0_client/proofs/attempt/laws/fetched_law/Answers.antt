use Rattle.ftl0_client.proofs.attempt.FetchedLemmas.{fetched-law}
use Rattle.ftl0_client.proofs.attempt.laws.fetched_law.Goals as goal

pub returns : goal.returns
returns c = fetched-law
