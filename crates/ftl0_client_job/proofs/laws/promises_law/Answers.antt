use Rattle.ftl0_client_job.proofs.PromiseLemmas.{begun, due_stands, promises}
use Rattle.ftl0_client_job.proofs.laws.promises_law.Goals as goal

pub returns-clause-begun : goal.returns-clause-begun
returns-clause-begun c = begun

pub returns-clause-packet : goal.returns-clause-packet
returns-clause-packet c = promises

pub returns-clause-due : goal.returns-clause-due
returns-clause-due c = due_stands
