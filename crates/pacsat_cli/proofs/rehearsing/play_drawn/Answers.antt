-- What was drawn was played to its end.
use Rattle.air_rehearsal.specs.Generator.{DrivenBy}
use Rattle.std.proofs.Common.{Err, ap, refl}
use Rattle.air_rehearsal.specs.declared.report.Report.{Report}
use Rattle.pacsat_cli.specs.Rehearsing.{ShowsReport}
use Rattle.pacsat_cli.proofs.Names.{cuts_by, CanTell, DrawnEnd}
use Rattle.pacsat_cli.proofs.RehearsalEnds.{drawn-end, ends-so, none-put, report-shown}
use Rattle.pacsat_cli.proofs.rehearsing.play_drawn.Goals as goal

pub returns-in-Ok : goal.returns-in-Ok
returns-in-Ok g c =
    let cuts = cuts_by g.B.CutDisk.restarts g.B.CutDisk.arming g.B.CutDisk.plain g.B.CutDisk.is_starved in
    let IsPlayed : Report → Type 0 =
    λ report. CanTell g.B.Disk c.drive.new.bench.items → DrivenBy g.B.Disk cuts c.args.seed c.args.count
    c.args.bench.now.items c.drive.new.bench.items report in
    ends-so g.O.Out c.args.out.now (ShowsReport IsPlayed)
    (DrawnEnd g.B.Disk cuts c.args.seed c.args.count c.args.bench.now.items c.drive.new.bench.items)
    c.show_report.new.out c.show_report.result
    (λ text h.
    drawn-end g.B.Disk cuts c.args.seed c.args.count c.args.bench.now.items c.drive.new.bench.items text
    c.show_report.result h)
    (report-shown g.O.Out c.args.out.now c.show_report.new.out IsPlayed c.in-Ok.report c.show_report.result
    c.in-Ok.ensures.driven c.show_report.ensures)

pub returns-in-Err-Broken : goal.returns-in-Err-Broken
returns-in-Err-Broken g c =
    none-put g.O.Out c.args.out.now
    (DrawnEnd g.B.Disk
    (cuts_by g.B.CutDisk.restarts g.B.CutDisk.arming g.B.CutDisk.plain g.B.CutDisk.is_starved) c.args.seed
    c.args.count c.args.bench.now.items c.drive.new.bench.items) _ refl refl

-- an event that may not come isn't played
pub unreachable-requires : goal.unreachable-requires
unreachable-requires g c =
    c.in-Err-Unlawful.ensures.lawful c.in-Err-Unlawful.field-0-0 (ap Err c.in-Err-Unlawful.field-0-is)
