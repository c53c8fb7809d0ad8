use Rattle.file_journal.proofs.WalkLemmas.{for_same}
use Rattle.file_journal.proofs.laws.recovery_law.Goals as goal

pub returns : goal.returns
returns g c held = for_same (g.L.Ledger.steps.step held)
