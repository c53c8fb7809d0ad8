-- What was loaded is the content of NAME.
use Rattle.pacsat_cli.proofs.MakeEnds.{body-ran, unloaded-ran}
use Rattle.pacsat_cli.proofs.making.run_body.Goals as goal

pub returns-in-Ok-clause-body : goal.returns-in-Ok-clause-body
returns-in-Ok-clause-body g c =
    let octets = rw c.as_slice.ensures at c.keep_body.ensures.body in
    let made = rw c.in-Ok.ensures.held at octets in
    body-ran c.args.name.now c.args.kept.now _ (g.S.Shelf.held c.args.shelf.now) (g.S.Shelf.held c.keep_body.new.shelf) c.keep_body.result c.in-Ok.ensures.most c.in-Ok.ensures.answer made

pub returns-in-Err-clause-body : goal.returns-in-Err-clause-body
returns-in-Err-clause-body g c =
    rw c.status_of_load.ensures
    (rw c.in-Err.ensures.held (unloaded-ran c.args.name.now c.args.kept.now (g.S.Shelf.held c.args.shelf.now) c.in-Err.refusal c.in-Err.ensures.answer))
