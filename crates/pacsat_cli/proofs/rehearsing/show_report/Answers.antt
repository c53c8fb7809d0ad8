-- A front of the line was put.
use Rattle.pacsat_cli.proofs.RehearsalEnds.{front-put}
use Rattle.pacsat_cli.proofs.rehearsing.show_report.Goals as goal

pub returns : goal.returns
returns g c =
    let front = rw c.as_bytes.ensures.value at c.in-Err.ensures.err in
    let line = rw c.in-Ok.ensures.ok at front in
    front-put g.O.Out c.args.out.now c.put.new.self c.args.report.now line c.in-Err.ensures.faults.rose
