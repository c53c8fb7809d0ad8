use Rattle.ax25_link.proofs.BoundLemmas.{bound_law}
use Rattle.ax25_link.proofs.laws.exact_bound.Goals as goal

pub returns : goal.returns
returns c = bound_law
