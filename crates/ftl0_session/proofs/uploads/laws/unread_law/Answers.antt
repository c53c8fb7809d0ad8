use Rattle.ftl0_session.proofs.uploads.Uploads.{unread}
use Rattle.ftl0_session.proofs.uploads.laws.unread_law.Goals as goal

pub returns : goal.returns
returns c = unread
