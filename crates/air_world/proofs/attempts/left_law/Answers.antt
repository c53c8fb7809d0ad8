-- From the lemmas on attempts that a client left, and on sessions that are over.
use Rattle.air_world.proofs.attempts.Left.{left-law}
use Rattle.air_world.proofs.attempts.left_law.Goals as goal

pub returns : goal.returns
returns c = left-law
