-- From the lemmas on what the server's end of the link took.
use Rattle.air_world.proofs.attempts.Fronts.{front-law}
use Rattle.air_world.proofs.attempts.front_law.Goals as goal

pub returns : goal.returns
returns c = front-law
