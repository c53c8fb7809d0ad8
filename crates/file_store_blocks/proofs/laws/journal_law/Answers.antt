use Rattle.file_store_blocks.proofs.Names.{placed_seen}
use Rattle.file_store_blocks.proofs.laws.journal_law.Goals as goal

pub returns : goal.returns
returns c = placed_seen
