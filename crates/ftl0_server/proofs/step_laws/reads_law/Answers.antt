use Rattle.ftl0_server.proofs.step_laws.RowLemmas.{due_told, reads_told}
use Rattle.ftl0_server.proofs.step_laws.reads_law.Goals as goal

pub returns-clause-rows : goal.returns-clause-rows
returns-clause-rows c = reads_told

pub returns-clause-due : goal.returns-clause-due
returns-clause-due c = due_told
