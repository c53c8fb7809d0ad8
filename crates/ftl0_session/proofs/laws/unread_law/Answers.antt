use Rattle.ftl0_session.proofs.LawLemmas.{unread}
use Rattle.ftl0_session.proofs.laws.unread_law.Goals as goal

pub returns : goal.returns
returns c = unread
