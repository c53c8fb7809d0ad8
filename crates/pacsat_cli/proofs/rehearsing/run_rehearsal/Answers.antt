-- The disks were made, and it was played over them; or there was no memory for them.
use Rattle.std.proofs.Common.{refl}
use Rattle.pacsat_cli.specs.declared.status.Status.TheVariants as status
use Rattle.pacsat_cli.proofs.Names.{FromFresh, PlayEnd, cuts_by}
use Rattle.pacsat_cli.proofs.RehearsalEnds.{none-put, played-fresh}
use Rattle.pacsat_cli.proofs.rehearsing.run_rehearsal.Goals as goal

pub returns-in-Ok-clause-shown : goal.returns-in-Ok-clause-shown
returns-in-Ok-clause-shown g c =
    played-fresh g.B.Disk (cuts_by g.B.CutDisk.restarts g.B.CutDisk.arming g.B.CutDisk.plain g.B.CutDisk.is_starved) g.O.Out
    c.args.out.now c.play.new.out (g.S.Shelf.held c.args.shelf.now) c.args.request.now c.renew.new.self.disks.items
    c.play.new.bench.items c.play.result c.in-Ok.ensures.fresh c.play.ensures.shown

pub returns-in-Err-clause-shown : goal.returns-in-Err-clause-shown
returns-in-Err-clause-shown g c =
    let cuts = cuts_by g.B.CutDisk.restarts g.B.CutDisk.arming g.B.CutDisk.plain g.B.CutDisk.is_starved in
    none-put g.O.Out c.args.out.now
    (FromFresh g.B.Disk cuts (λ old. PlayEnd g.B.Disk cuts (g.S.Shelf.held c.args.shelf.now) c.args.request.now old c.renew.new.self.disks.items))
    status.OutOfMemory refl refl
