use Rattle.ftl0_session.proofs.lists.LawLemmas.{others}
use Rattle.ftl0_session.proofs.lists.laws.others_law.Goals as goal

pub returns : goal.returns
returns c = others
