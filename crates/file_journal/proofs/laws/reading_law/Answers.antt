use Rattle.std.proofs.Common.{arith}
use Rattle.file_journal.proofs.Names.{common_steps}
use Rattle.file_journal.proofs.ReadingLemmas.{read_from_stands, stands_from_read}
use Rattle.file_journal.proofs.laws.reading_law.Goals as goal

pub returns : goal.returns
returns c place octets reading are some = grind (arith, common_steps, read_from_stands, stands_from_read)
