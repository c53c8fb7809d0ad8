use Rattle.file_store_blocks.proofs.RulesLemmas.{seen_store}
use Rattle.file_store_blocks.proofs.laws.store_law.Goals as goal

pub returns : goal.returns
returns c = seen_store
