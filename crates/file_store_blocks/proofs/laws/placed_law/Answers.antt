use Rattle.file_store_blocks.proofs.Names.{after_placed, none_is_placed, after_seals}
use Rattle.file_store_blocks.proofs.laws.placed_law.Goals as goal

pub returns : goal.returns
returns c = (none_is_placed, λ held blocks. tt, after_placed, after_seals)
