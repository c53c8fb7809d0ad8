-- The count of failed writes never falls: not at the cut, and not while the server starts.
use Rattle.std.proofs.Common.{arith}
use Rattle.air_rehearsal.proofs.stations.Stations.be_cut.Goals as goal

pub returns-clause-faults : goal.returns-clause-faults
returns-clause-faults g c =
    let struck = c.strike.ensures.faults in
    let later = (g.met.B.CutDisk.lasts_so c.strike.new.disk c.restart_server.new.disk c.restart_server.ensures.lasts).writes in
    omega (arith, struck, later)

pub returns-then-starved-clause-faults : goal.returns-then-starved-clause-faults
returns-then-starved-clause-faults g c =
    let struck = c.strike.ensures.faults in
    let later = (g.met.B.CutDisk.lasts_so c.strike.new.disk c.restart_server.new.disk c.restart_server.ensures.lasts).writes in
    omega (arith, struck, later)

pub returns-in_err-server-clause-faults : goal.returns-in_err-server-clause-faults
returns-in_err-server-clause-faults g c =
    let struck = c.strike.ensures.faults in
    let later = (g.met.B.CutDisk.lasts_so c.strike.new.disk c.restart_server.new.disk c.restart_server.ensures.lasts).writes in
    omega (arith, struck, later)
