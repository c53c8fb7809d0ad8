use Rattle.std.proofs.Common.{None}
use Rattle.real_outside.proofs.Names.{OpensLocked, Fills}
use Rattle.real_outside.proofs.Kept.{on_opened}
use Rattle.real_outside.proofs.shelf.keeping.keep_in_place.Goals as goal

pub returns : goal.returns
returns g c =
    on_opened (OpensLocked c.args.name.now) (Fills None c.args.bytes.now) _ _ _ (g.S.FileSystem.number c.in_ok-file.file)
    c.fill.result c.in_ok-file.ensures c.fill.ensures
