use Rattle.client_notes.proofs.TaskLemmas.{acked-stays}
use Rattle.client_notes.proofs.laws.acked_law.Goals as goal

pub returns : goal.returns
returns c = acked-stays
