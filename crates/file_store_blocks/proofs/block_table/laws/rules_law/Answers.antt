use Rattle.file_store_blocks.proofs.block_table.RunLemmas.{runs-beginning, runs-none, runs-taking, runs-without}
use Rattle.file_store_blocks.proofs.block_table.laws.rules_law.Goals as goal

pub returns : goal.returns
returns c = (runs-none, runs-beginning, runs-taking, runs-without)
