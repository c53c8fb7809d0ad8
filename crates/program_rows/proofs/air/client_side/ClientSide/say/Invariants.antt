-- The client still may hear a frame, and has fewer frames to give out.
use Rattle.ftl0_client.specs.ClientState.{client_most}
use Rattle.program_rows.specs.Ready.{IsTheirs}
use Rattle.program_rows.proofs.air.client_side.ClientSide.say.Given as goal

abbrev pub invariant-loop-out : goal.invariant-loop-out
invariant-loop-out g l = IsTheirs g.D.Disk l.self

abbrev pub decreases-loop-out : goal.decreases-loop-out
decreases-loop-out g l = client_most l.self.client
