use Rattle.ftl0_session.proofs.uploads.UploadRows.{row-granted}
use Rattle.ftl0_session.proofs.uploads.laws.granted_law.Goals as goal

pub returns : goal.returns
returns c = row-granted
