use Rattle.ftl0_session.proofs.uploads.Uploads.{acknowledged}
use Rattle.ftl0_session.proofs.uploads.laws.acknowledged_law.Goals as goal

pub returns : goal.returns
returns c = acknowledged
