-- From the laws of the world.
use Rattle.air_world.proofs.BelowLemmas.{cuts-law}
use Rattle.air_world.proofs.laws.cuts_law.Goals as goal

pub returns : goal.returns
returns c = cuts-law
