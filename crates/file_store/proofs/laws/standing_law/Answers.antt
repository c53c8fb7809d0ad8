use Rattle.file_store.proofs.Names.{placed_stands, stands_placed}
use Rattle.file_store.proofs.laws.standing_law.Goals as goal

pub returns : goal.returns
returns c octets files are = (
  λ stands. let is = stands_placed octets files are stands in (is.0, is.1, (is.2, is.3)),
  λ is. placed_stands octets files is.0 is.1 is.2.0 is.2.1,
)
