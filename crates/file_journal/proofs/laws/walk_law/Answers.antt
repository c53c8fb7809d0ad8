use Rattle.file_journal.proofs.WalkLemmas.{one_walk}
use Rattle.file_journal.proofs.laws.walk_law.Goals as goal

pub returns : goal.returns
returns g c held = one_walk (g.L.Ledger.steps.step held)
