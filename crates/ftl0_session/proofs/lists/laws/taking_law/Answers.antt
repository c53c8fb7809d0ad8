use Rattle.ftl0_session.proofs.lists.LawLemmas.{taking}
use Rattle.ftl0_session.proofs.lists.laws.taking_law.Goals as goal

pub returns : goal.returns
returns c = taking
