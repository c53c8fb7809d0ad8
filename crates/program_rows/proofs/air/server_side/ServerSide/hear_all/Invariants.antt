-- The server may hear the next frame.
use Rattle.program_rows.specs.Ready.{IsReadyServer}
use Rattle.program_rows.proofs.air.server_side.ServerSide.hear_all.Given as goal

abbrev pub invariant-loop-octets : goal.invariant-loop-octets
invariant-loop-octets g l = IsReadyServer g.D.Disk l.self
