-- From the laws of the steps of a server and of a client.
use Rattle.air_world.proofs.ExistenceLemmas.{existence-law}
use Rattle.air_world.proofs.laws.existence_law.Goals as goal

pub returns : goal.returns
returns c = existence-law c.some_step_law-2.ensures c.some_step_law.ensures
