use Rattle.ftl0_session.proofs.downloads.DueLemmas.{due-kept}
use Rattle.ftl0_session.proofs.downloads.ListLemmas.{lists-kept}
use Rattle.ftl0_session.proofs.downloads.laws.stays_law.Goals as goal

pub returns-clause-due : goal.returns-clause-due
returns-clause-due c = due-kept

pub returns-clause-lists : goal.returns-clause-lists
returns-clause-lists c = lists-kept
