use Rattle.ftl0_session.proofs.LawLemmas.{resumed}
use Rattle.ftl0_session.proofs.laws.resumed_law.Goals as goal

pub returns : goal.returns
returns c = resumed
