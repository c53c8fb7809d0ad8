-- Both stations are ready.
use Rattle.program_rows.specs.Ready.{AreReady}
use Rattle.program_rows.proofs.air.exchange.Stations.carry.Given as goal

abbrev pub invariant-loop : goal.invariant-loop
invariant-loop g l = AreReady g.C.Disk g.S.Disk l.self
