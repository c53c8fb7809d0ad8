use Rattle.real_outside.specs.declared.files.file_call.FileCall.TheVariants as call
use Rattle.real_outside.proofs.Names.{Once, WritesFrom}
use Rattle.real_outside.proofs.Kept.{in_turn, once}
use Rattle.real_outside.proofs.shelf.keeping.write_synced.Goals as goal

pub returns : goal.returns
returns g c =
    let file = g.S.FileSystem.number c.args.file.now in
    in_turn (λ done. WritesFrom 0 c.args.bytes.now done file) (Once (call.Sync file)) _ _ _ c.sync.result
    c.in_ok-write_all.ensures (once (call.Sync file) _ _ c.sync.result c.sync.ensures)
