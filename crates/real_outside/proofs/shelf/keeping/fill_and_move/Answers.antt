use Rattle.real_outside.specs.declared.files.file_call.FileCall.TheVariants as call
use Rattle.real_outside.proofs.Names.{Fills, Once}
use Rattle.real_outside.proofs.Errors.{handed_on}
use Rattle.real_outside.proofs.Kept.{in_turn, in_turn_err, once}
use Rattle.real_outside.proofs.shelf.keeping.fill_and_move.Goals as goal

pub returns-in_err-fill : goal.returns-in_err-fill
returns-in_err-fill g c =
    let file = g.S.FileSystem.number c.args.file.now in
    let held = g.S.FileSystem.number c.args.held.now in
    let error = c.in_err-fill.field-0.0 in
    let result = c.from_residual.result in
    in_turn_err (λ done. Fills c.args.mode c.args.bytes.now done file)
    (Once (call.Rename file held c.args.part.now c.args.path.now)) _ _ result error
    (handed_on result error c.from_residual.ensures) c.in_err-fill.ensures

pub returns : goal.returns
returns g c =
    let file = g.S.FileSystem.number c.args.file.now in
    let held = g.S.FileSystem.number c.args.held.now in
    let moved = call.Rename file held c.args.part.now c.args.path.now in
    in_turn (λ done. Fills c.args.mode c.args.bytes.now done file) (Once moved) _ _ _ c.rename.result
    c.in_ok-fill.ensures (once moved _ _ c.rename.result c.rename.ensures)
