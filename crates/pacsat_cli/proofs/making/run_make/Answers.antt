-- What was loaded is the content of BODY.
use Rattle.pacsat_cli.proofs.Names.{make_value}
use Rattle.pacsat_cli.proofs.MakeEnds.{ran, unloaded-made}
use Rattle.pacsat_cli.proofs.making.run_make.Goals as goal

pub returns-in-Ok-clause-made : goal.returns-in-Ok-clause-made
returns-in-Ok-clause-made g c =
    let octets = rw c.as_slice.ensures at c.make_of.ensures.made in
    let made = rw c.in-Ok.ensures.held at octets in
    ran _ c.args.body.now c.args.name.now _ (g.S.Shelf.held c.args.shelf.now) (g.S.Shelf.held c.make_of.new.shelf) c.make_of.result c.in-Ok.ensures.most c.in-Ok.ensures.answer made

pub returns-in-Err-clause-made : goal.returns-in-Err-clause-made
returns-in-Err-clause-made g c =
    rw c.status_of_load.ensures
    (rw c.in-Err.ensures.held (unloaded-made (make_value c.args.spec.now) c.args.body.now c.args.name.now (g.S.Shelf.held c.args.shelf.now) c.in-Err.refusal c.in-Err.ensures.answer))
