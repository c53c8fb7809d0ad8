-- From the lemmas on a transmission of the current attempt.
use Rattle.air_world.proofs.attempts.Current.{current}
use Rattle.air_world.proofs.attempts.current_law.Goals as goal

pub returns : goal.returns
returns c = current
