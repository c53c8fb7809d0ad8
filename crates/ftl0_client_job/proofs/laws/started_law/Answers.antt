use Rattle.ftl0_client_job.proofs.LawLemmas.{is-started}
use Rattle.ftl0_client_job.proofs.laws.started_law.Goals as goal

pub returns : goal.returns
returns g c = is-started g.D.Disk
