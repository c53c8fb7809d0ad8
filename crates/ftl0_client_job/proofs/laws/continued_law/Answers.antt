use Rattle.ftl0_client_job.proofs.LawLemmas.{continued, resumed}
use Rattle.ftl0_client_job.proofs.laws.continued_law.Goals as goal

pub returns : goal.returns
returns c = record { upload = continued; download = resumed }
