-- From the law of a frame at a session.
use Rattle.air_world.proofs.attempts.HeardStore.{heard-law}
use Rattle.air_world.proofs.attempts.heard_law.Goals as goal

pub returns : goal.returns
returns c = heard-law c.hearing_law.ensures
