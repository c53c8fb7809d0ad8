use Rattle.real_outside.proofs.Names.{OpensLocked, WritesOver}
use Rattle.real_outside.proofs.Kept.{on_opened}
use Rattle.real_outside.proofs.shelf.keeping.replace_locked.Goals as goal

pub returns : goal.returns
returns g c =
    on_opened (OpensLocked c.args.path.now)
    (λ done held. WritesOver c.args.path.now c.args.part.now c.args.mode held c.args.bytes.now done) _ _ _
    (g.S.FileSystem.number c.in_ok-held.held) c.write_over.result c.in_ok-held.ensures c.write_over.ensures
