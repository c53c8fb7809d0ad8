-- From the laws of both stations' events.
use Rattle.air_world.proofs.KeptLemmas.{sound-law}
use Rattle.air_world.proofs.laws.sound_law.Goals as goal

pub returns : goal.returns
returns c = sound-law c.station_laws.ensures
