-- From the laws of a server's steps.
use Rattle.air_world.proofs.attempts.TickedAttempts.{server-ticks}
use Rattle.air_world.proofs.attempts.server_ticks_law.Goals as goal

pub returns : goal.returns
returns c = server-ticks c.some_step_law.ensures c.one_step_law.ensures
