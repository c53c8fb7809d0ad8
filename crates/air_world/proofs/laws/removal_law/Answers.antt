-- From the laws of stores that follow one another, and of what is due.
use Rattle.air_world.proofs.RemovalLemmas.{removal-law}
use Rattle.air_world.proofs.laws.removal_law.Goals as goal

pub returns : goal.returns
returns c = removal-law c.follows_law.ensures c.stays_law.ensures.due c.stays_law.ensures.lists
