use Rattle.client_notes.proofs.KeepLemmas.{tasks_law}
use Rattle.client_notes.proofs.laws.tasks_law.Goals as goal

pub returns : goal.returns
returns c = tasks_law
