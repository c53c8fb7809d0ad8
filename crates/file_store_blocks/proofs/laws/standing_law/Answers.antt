use Rattle.file_store_blocks.proofs.StandingLemmas.{placed_stands, standing_keeps, stands_placed}
use Rattle.file_store_blocks.proofs.laws.standing_law.Goals as goal

pub returns : goal.returns
returns c = (λ octets files are. (stands_placed octets files are, λ is. placed_stands octets files is.0 is.1 is.2 is.3), standing_keeps)
