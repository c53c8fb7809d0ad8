use Rattle.pfh_items.proofs.HeaderLemmas.{one_header}
use Rattle.pfh_items.proofs.WalkLemmas.{one_walk}
use Rattle.pfh_items.proofs.laws.items_law.Goals as goal

pub returns-clause-walk : goal.returns-clause-walk
returns-clause-walk c = one_walk

pub returns-clause-header : goal.returns-clause-header
returns-clause-header c = one_header
