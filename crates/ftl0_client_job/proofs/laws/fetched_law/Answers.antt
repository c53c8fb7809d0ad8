use Rattle.ftl0_client_job.proofs.LawLemmas.{fetched, fetching}
use Rattle.ftl0_client_job.proofs.laws.fetched_law.Goals as goal

pub returns : goal.returns
returns c = record { octets = fetching; whole = fetched }
