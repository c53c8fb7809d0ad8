use Rattle.ftl0_client_job.proofs.OwnLemmas.{owned}
use Rattle.ftl0_client_job.proofs.laws.owned_law.Goals as goal

pub returns : goal.returns
returns g c = owned g.D.Disk
