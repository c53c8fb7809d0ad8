use Rattle.real_outside.proofs.Names.{Prepares, WritesSynced}
use Rattle.real_outside.proofs.Kept.{in_turn}
use Rattle.real_outside.proofs.shelf.keeping.fill.Goals as goal

pub returns : goal.returns
returns g c =
    let file = g.S.FileSystem.number c.args.file.now in
    in_turn (λ done. Prepares c.args.mode done file) (λ done. WritesSynced c.args.bytes.now done file)
    _ _ _ c.write_synced.result c.in_ok-prepare.ensures c.write_synced.ensures
