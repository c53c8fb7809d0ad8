use Rattle.file_store_model.proofs.AfterLemmas.{after-IsStore, after-KeepsComplete}
use Rattle.file_store_model.proofs.LawLemmas.{empty-IsStore, after-next}
use Rattle.file_store_model.proofs.laws.commands_law.Goals as goal

pub returns : goal.returns
returns c = (empty-IsStore, λ store command is call ok. (after-IsStore store command is call ok, after-KeepsComplete store command is ok, after-next store command ok))
