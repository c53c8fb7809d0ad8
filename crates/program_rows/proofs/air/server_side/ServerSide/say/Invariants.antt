-- The server still stands on its disk, and has fewer frames to give out.
use Rattle.ftl0_server.specs.ServerState.{server_most}
use Rattle.program_rows.specs.Ready.{IsUp}
use Rattle.program_rows.proofs.air.server_side.ServerSide.say.Given as goal

abbrev pub invariant-loop-out : goal.invariant-loop-out
invariant-loop-out g l = IsUp g.D.Disk l.self

abbrev pub decreases-loop-out : goal.decreases-loop-out
decreases-loop-out g l = server_most l.self.server
