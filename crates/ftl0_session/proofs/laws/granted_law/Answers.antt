use Rattle.ftl0_session.proofs.LawLemmas.{granted}
use Rattle.ftl0_session.proofs.laws.granted_law.Goals as goal

pub returns : goal.returns
returns c = granted
