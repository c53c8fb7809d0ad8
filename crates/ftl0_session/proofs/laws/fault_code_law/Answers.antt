use Rattle.ftl0_session.proofs.FaultLemmas.{due_codes, fault_codes}
use Rattle.ftl0_session.proofs.laws.fault_code_law.Goals as goal

pub returns-clause-rows : goal.returns-clause-rows
returns-clause-rows c = fault_codes

pub returns-clause-due : goal.returns-clause-due
returns-clause-due c = due_codes
