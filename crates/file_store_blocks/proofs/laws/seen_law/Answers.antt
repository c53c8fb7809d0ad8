use Rattle.std.proofs.Common.{refl}
use Rattle.file_store_blocks.proofs.SeenLemmas.{seen_after, seen_allowed}
use Rattle.file_store_blocks.proofs.laws.seen_law.Goals as goal

pub returns : goal.returns
returns c = (
  λ held blocks. refl,
  λ held store command is ok. (seen_allowed held store command is ok, seen_after held store command is ok),
)
