use Rattle.ax25_link.proofs.LawLemmas.{prefix_law}
use Rattle.ax25_link.proofs.laws.prefix_law.Goals as goal

pub returns : goal.returns
returns c = prefix_law
