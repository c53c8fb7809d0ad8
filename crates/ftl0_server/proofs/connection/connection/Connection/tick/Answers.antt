-- A tick at which the peer isn't given up leaves the link up.
use Rattle.std.proofs.Common.{arith}
use Rattle.ftl0_server.proofs.Names.{common_steps}
use Rattle.ftl0_server.proofs.connection.connection.Connection.tick.Goals as goal

pub returns-clause-up : goal.returns-clause-up
returns-clause-up c = grind (arith, common_steps)
