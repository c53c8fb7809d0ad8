use Rattle.selection.proofs.ReadLemmas.{one_tree, one_fault, reads_back}
use Rattle.selection.proofs.laws.tokens_law.Goals as goal

pub returns-clause-tree : goal.returns-clause-tree
returns-clause-tree c = one_tree

pub returns-clause-fault : goal.returns-clause-fault
returns-clause-fault c = one_fault

pub returns-clause-back : goal.returns-clause-back
returns-clause-back c = reads_back
