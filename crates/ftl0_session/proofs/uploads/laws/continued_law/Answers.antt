use Rattle.ftl0_session.proofs.uploads.Uploads.{continued}
use Rattle.ftl0_session.proofs.uploads.laws.continued_law.Goals as goal

pub returns : goal.returns
returns c = continued
