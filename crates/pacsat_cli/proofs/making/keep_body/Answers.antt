use Rattle.pacsat_cli.proofs.MakeEnds.{kept-body}
use Rattle.pacsat_cli.proofs.making.keep_body.Goals as goal

pub returns-in-Ok-clause-body : goal.returns-in-Ok-clause-body
returns-in-Ok-clause-body g c =
    kept-body c.args.file.now c.args.name.now _ (g.S.Shelf.held c.args.shelf.now) (g.S.Shelf.held c.keep.new.shelf) c.keep.result c.in-Ok.ensures.body c.in-Ok.ensures.fault c.keep.ensures.kept
