use Rattle.pfh_items.proofs.StampLemmas.{one_stamp}
use Rattle.pfh_items.proofs.laws.stamp_law.Goals as goal

pub returns : goal.returns
returns c = one_stamp
