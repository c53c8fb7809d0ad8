use Rattle.file_store_model.proofs.LawLemmas.{after_all-gone}
use Rattle.file_store_model.proofs.laws.numbers_law.Goals as goal

pub returns : goal.returns
returns c = after_all-gone
