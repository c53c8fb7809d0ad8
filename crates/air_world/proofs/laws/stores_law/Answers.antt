-- From the laws of the server's events.
use Rattle.air_world.proofs.StoresLemmas.{stores-law}
use Rattle.air_world.proofs.laws.stores_law.Goals as goal

pub returns : goal.returns
returns c = stores-law c.station_laws.ensures.server
