-- From the laws of both stations' events, of the store and of file headers.
use Rattle.air_world.proofs.During.{prefixes-law}
use Rattle.air_world.proofs.laws.prefixes_law.Goals as goal

pub returns : goal.returns
returns c =
    prefixes-law c.station_laws.ensures c.follows_law.ensures c.fault_law.ensures.none
    c.no_front_law.ensures.front
