-- A file was made and kept, or it would be too long.
use Rattle.pacsat_cli.proofs.Names.{make_value}
use Rattle.pacsat_cli.proofs.MakeEnds.{made-file, too_long-file}
use Rattle.pacsat_cli.proofs.making.make_of.Goals as goal

pub returns-in-Ok-clause-made : goal.returns-in-Ok-clause-made
returns-in-Ok-clause-made g c =
    made-file (make_value c.args.spec.now) c.args.body.now c.args.name.now _ (g.S.Shelf.held c.args.shelf.now) (g.S.Shelf.held c.keep.new.shelf) c.keep.result c.requires c.in-Ok.ensures.refused c.in-Ok.ensures.file (rw c.as_slice.ensures at c.keep.ensures.kept)

pub returns-in-Err-TooLong-clause-made : goal.returns-in-Err-TooLong-clause-made
returns-in-Err-TooLong-clause-made g c =
    too_long-file (make_value c.args.spec.now) c.args.body.now c.args.name.now (g.S.Shelf.held c.args.shelf.now) c.in-Err-TooLong.field-0 _ c.in-Err-TooLong.field-0-is c.requires c.in-Err-TooLong.ensures.refused
