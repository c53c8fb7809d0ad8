use Rattle.pfh_items.proofs.FaultLemmas.{no_fault, one_fault}
use Rattle.pfh_items.proofs.laws.fault_law.Goals as goal

pub returns-clause-fault : goal.returns-clause-fault
returns-clause-fault c = one_fault

pub returns-clause-none : goal.returns-clause-none
returns-clause-none c = no_fault
