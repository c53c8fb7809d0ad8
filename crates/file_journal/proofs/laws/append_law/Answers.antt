use Rattle.file_journal.proofs.WalkLemmas.{one_step}
use Rattle.file_journal.proofs.laws.append_law.Goals as goal

pub returns : goal.returns
returns g c held = one_step (g.L.Ledger.steps.step held)
