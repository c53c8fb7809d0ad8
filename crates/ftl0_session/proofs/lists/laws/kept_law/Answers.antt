use Rattle.ftl0_session.proofs.lists.LawLemmas.{kept}
use Rattle.ftl0_session.proofs.lists.laws.kept_law.Goals as goal

pub returns : goal.returns
returns c = kept
