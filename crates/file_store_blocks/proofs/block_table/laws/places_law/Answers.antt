use Rattle.file_store_blocks.proofs.block_table.PlaceLemmas.{stands-once, stands-taken, taken-stands}
use Rattle.file_store_blocks.proofs.block_table.laws.places_law.Goals as goal

pub returns : goal.returns
returns c = (
  λ table block. (taken-stands table block, λ s. stands-taken s.1.1),
  λ table block run at other_run other_at rules first other. stands-once rules first other,
)
