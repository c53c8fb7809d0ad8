use Rattle.std.proofs.Common.{◌<◌, inl, refl, arith}
use Rattle.real_outside.specs.declared.files.file_call.FileCall.TheVariants as call
use Rattle.real_outside.proofs.Names.{WritesOnce}
use Rattle.real_outside.proofs.Asked.{asks_two}
use Rattle.real_outside.proofs.files.steps.write_once.Goals as goal

pub returns-clause-writes : goal.returns-clause-writes
returns-clause-writes g c =
    let at = c.args.at in
    let bytes = c.args.bytes.now in
    let file = g.S.FileSystem.number c.args.file.now in
    let limit = c.limit.result in
    let result = c.write_at.result in
    let below : at < limit = omega (arith, c.if-limit-at.false) in
    asks_two (WritesOnce at bytes result file) _ _ _ (call.Limit limit) (call.Write file at bytes result)
    c.limit.ensures c.write_at.ensures.moves.told (limit, inl (below, refl))
