-- The text is that of a schedule, which was played to its end.
use Rattle.std.proofs.Common.{refl}
use Rattle.pacsat_cli.specs.Rehearsing.{ContentEnd}
use Rattle.pacsat_cli.proofs.Names.{cuts_by}
use Rattle.pacsat_cli.proofs.RehearsalEnds.{none-put, played-text}
use Rattle.pacsat_cli.proofs.rehearsing.play_text.Goals as goal

pub returns-in-Ok-rehearse : goal.returns-in-Ok-rehearse
returns-in-Ok-rehearse g c =
    played-text g.B.Disk (cuts_by g.B.CutDisk.restarts g.B.CutDisk.arming g.B.CutDisk.plain g.B.CutDisk.is_starved) g.O.Out
    c.args.out.now c.show_report.new.out c.args.text.now c.args.bench.now.items c.rehearse.new.bench.items
    c.in-Ok-rehearse.report c.show_report.result c.requires.most
    (record { schedule = c.in-Ok.schedule; text = c.in-Ok.ensures.read; rehearsed = c.in-Ok-rehearse.ensures.rehearsed })
    c.show_report.ensures

pub returns : goal.returns
returns g c =
    none-put g.O.Out c.args.out.now
    (ContentEnd g.B.Disk
    (cuts_by g.B.CutDisk.restarts g.B.CutDisk.arming g.B.CutDisk.plain g.B.CutDisk.is_starved) c.args.text.now
    c.args.bench.now.items c.rehearse.new.bench.items) _ refl
    (record { most = c.requires.most; ends = (c.in-Ok.schedule, c.in-Ok.ensures.read, refl) })
