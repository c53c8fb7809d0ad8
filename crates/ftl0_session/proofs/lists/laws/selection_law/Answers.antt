use Rattle.ftl0_session.proofs.lists.LawLemmas.{selection}
use Rattle.ftl0_session.proofs.lists.laws.selection_law.Goals as goal

pub returns : goal.returns
returns c = selection
