-- From the laws of a frame at a session, and of a server's steps.
use Rattle.air_world.proofs.attempts.HeardFront.{heard-front}
use Rattle.air_world.proofs.attempts.heard_front_law.Goals as goal

pub returns : goal.returns
returns c = heard-front c.hearing_law.ensures c.some_step_law.ensures
