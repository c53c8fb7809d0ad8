use Rattle.ftl0_session.proofs.LawLemmas.{acknowledged}
use Rattle.ftl0_session.proofs.laws.acknowledged_law.Goals as goal

pub returns : goal.returns
returns c = acknowledged
