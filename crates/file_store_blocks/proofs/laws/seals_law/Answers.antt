use Rattle.file_store_blocks.proofs.RulesLemmas.{seals_same}
use Rattle.file_store_blocks.proofs.laws.seals_law.Goals as goal

pub returns : goal.returns
returns c = seals_same
