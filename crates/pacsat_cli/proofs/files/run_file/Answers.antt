-- What was loaded is the content of the name, and its text is what is shown.
use Rattle.pacsat_cli.proofs.FilesShown.{loaded-shown, unloaded-shown}
use Rattle.pacsat_cli.proofs.files.run_file.Goals as goal

pub returns-in-Ok-clause-shown : goal.returns-in-Ok-clause-shown
returns-in-Ok-clause-shown g c =
    loaded-shown g.O.Out.shown g.O.Out.faults c.args.command (g.S.Shelf.held c.args.shelf.now) c.args.name.now c.args.out.now c.show_octets.new.out c.as_slice.result.now c.show_octets.result (rw c.as_slice.ensures c.in-Ok.ensures.answer) c.show_octets.ensures.shown

pub returns-in-Err-clause-shown : goal.returns-in-Err-clause-shown
returns-in-Err-clause-shown g c =
    rw c.status_of_load.ensures
    (unloaded-shown g.O.Out.shown g.O.Out.faults c.args.command (g.S.Shelf.held c.args.shelf.now) c.args.name.now c.args.out.now c.in-Err.refusal c.in-Err.ensures.answer)
