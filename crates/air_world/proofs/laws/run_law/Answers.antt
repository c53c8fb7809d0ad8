-- From the laws of the world.
use Rattle.air_world.proofs.BelowLemmas.{run-law}
use Rattle.air_world.proofs.laws.run_law.Goals as goal

pub returns : goal.returns
returns c = run-law c.sound_law.ensures c.existence_law.ensures
