-- What was loaded is played, or nothing was loaded.
use Rattle.pacsat_cli.proofs.Names.{cuts_by}
use Rattle.pacsat_cli.proofs.RehearsalEnds.{content-no_shelf, unloaded-named}
use Rattle.pacsat_cli.proofs.rehearsing.play_named.Goals as goal

pub returns-in-Ok-clause-shelf : goal.returns-in-Ok-clause-shelf
returns-in-Ok-clause-shelf g c =
    let cuts = cuts_by g.B.CutDisk.restarts g.B.CutDisk.arming g.B.CutDisk.plain g.B.CutDisk.is_starved in
    let ends = c.play_text.ensures.ends in (
      c.in-Ok.ensures.held,
      record {
        rose = λ e. absurd (content-no_shelf g.B.Disk cuts _ c.args.bench.now.items c.play_text.new.bench.items c.play_text.ensures.text c.play_text.result ends e);
        same = λ _. c.in-Ok.ensures.faults.same (λ e. cc);
      },
    )

pub returns-in-Err-clause-shown : goal.returns-in-Err-clause-shown
returns-in-Err-clause-shown g c =
    rw c.status_of_load.ensures
    (unloaded-named g.B.Disk (cuts_by g.B.CutDisk.restarts g.B.CutDisk.arming g.B.CutDisk.plain g.B.CutDisk.is_starved) g.O.Out c.args.out.now (g.S.Shelf.held c.args.shelf.now) c.args.name.now c.args.bench.now.items c.in-Err.refusal c.in-Err.ensures.answer)
