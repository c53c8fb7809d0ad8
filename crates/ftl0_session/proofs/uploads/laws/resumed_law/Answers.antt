use Rattle.ftl0_session.proofs.uploads.Uploads.{resumed}
use Rattle.ftl0_session.proofs.uploads.laws.resumed_law.Goals as goal

pub returns : goal.returns
returns c = resumed
