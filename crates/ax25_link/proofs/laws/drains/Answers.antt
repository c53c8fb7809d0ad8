use Rattle.ax25_link.proofs.DrainsLemmas.{drains}
use Rattle.ax25_link.proofs.laws.drains.Goals as goal

pub returns : goal.returns
returns c = drains
