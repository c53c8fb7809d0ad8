use Rattle.file_journal.proofs.HoldLemmas.{read_stands}
use Rattle.file_journal.proofs.kept.Kept.read_block.Goals as goal

pub returns-clause-stands_at : goal.returns-clause-stands_at
returns-clause-stands_at g c =
    read_stands g.D.Disk g.L.Ledger.steps g.L.Ledger.form c.args.disk.now c.read_block.new.disk _ _ c.read_block.ensures.reads c.requires.stands_at c.read_block.ensures.stands_on
