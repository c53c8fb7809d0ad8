-- From the laws of a frame at a session, and of a server's steps.
use Rattle.air_world.proofs.attempts.ServerOwnLaw.{server-hears}
use Rattle.air_world.proofs.attempts.server_hears_law.Goals as goal

pub returns : goal.returns
returns c = server-hears c.hearing_law.ensures c.some_step_law.ensures c.one_step_law.ensures
