use Rattle.ax25_link.proofs.StationLemmas.{stations_law}
use Rattle.ax25_link.proofs.laws.stations_law.Goals as goal

pub returns : goal.returns
returns c = stations_law
