use Rattle.ftl0_client_job.proofs.HeaderLemmas.{short-law}
use Rattle.ftl0_client_job.proofs.laws.short_law.Goals as goal

pub returns : goal.returns
returns c = short-law
