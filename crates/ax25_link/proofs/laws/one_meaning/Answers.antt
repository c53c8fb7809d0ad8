use Rattle.ax25_link.proofs.OneMeaning.{one_meaning}
use Rattle.ax25_link.proofs.laws.one_meaning.Goals as goal

pub returns : goal.returns
returns c = one_meaning
