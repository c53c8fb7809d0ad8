-- Both stations are ready.
use Rattle.program_rows.specs.Ready.{AreReady}
use Rattle.program_rows.proofs.air.exchange.Stations.break_all.Given as goal

abbrev pub invariant-loop-number : goal.invariant-loop-number
invariant-loop-number g l = AreReady g.C.Disk g.S.Disk l.self
