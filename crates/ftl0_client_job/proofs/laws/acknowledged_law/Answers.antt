use Rattle.ftl0_client_job.proofs.LawLemmas.{acknowledged}
use Rattle.ftl0_client_job.proofs.laws.acknowledged_law.Goals as goal

pub returns : goal.returns
returns c = acknowledged
