use Rattle.ftl0_session.proofs.uploads.Uploads.{uploaded}
use Rattle.ftl0_session.proofs.uploads.laws.uploaded_law.Goals as goal

pub returns : goal.returns
returns c = uploaded
