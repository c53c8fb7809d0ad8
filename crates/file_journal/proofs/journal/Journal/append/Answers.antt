use Rattle.file_journal.proofs.Names.{puts_none}
use Rattle.file_journal.proofs.BoundLemmas.{stays_same}
use Rattle.file_journal.proofs.journal.Journal.append.Goals as goal

pub returns-then-self-clause-puts : goal.returns-then-self-clause-puts
returns-then-self-clause-puts g c = puts_none g.D.Disk c.args.disk.now _ (λ is. cc is) (g.met.D.Disk.lasts_same c.args.disk.now)

pub returns-then-self-clause-within : goal.returns-then-self-clause-within
returns-then-self-clause-within g c in_halves = stays_same g.D.Disk _ c.args.disk.now
