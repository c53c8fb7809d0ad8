use Rattle.ftl0_session.proofs.RunLemmas.{upload_run}
use Rattle.ftl0_session.proofs.laws.upload_run_law.Goals as goal

pub returns : goal.returns
returns c = upload_run
