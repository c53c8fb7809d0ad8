use Rattle.ftl0_client_job.proofs.LawLemmas.{stays}
use Rattle.ftl0_client_job.proofs.laws.stays_law.Goals as goal

pub returns : goal.returns
returns c = stays
