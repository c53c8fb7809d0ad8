use Rattle.ftl0_client_job.proofs.PromiseLemmas.{listed}
use Rattle.ftl0_client_job.proofs.laws.listed_law.Goals as goal

pub returns : goal.returns
returns c = listed
