use Rattle.file_store_model.proofs.FollowLemmas.{follows_law}
use Rattle.file_store_model.proofs.laws.follows_law.Goals as goal

pub returns : goal.returns
returns c = follows_law
