-- The client may hear the next frame.
use Rattle.program_rows.specs.Ready.{IsReadyClient}
use Rattle.program_rows.proofs.air.client_side.ClientSide.hear_all.Given as goal

abbrev pub invariant-loop-octets : goal.invariant-loop-octets
invariant-loop-octets g l = IsReadyClient g.D.Disk l.self
