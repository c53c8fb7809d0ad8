use Rattle.std.proofs.Common.{None}
use Rattle.real_outside.proofs.Names.{MovesFilled, OpensPart}
use Rattle.real_outside.proofs.Errors.{handed_on}
use Rattle.real_outside.proofs.Kept.{not_opened, on_opened}
use Rattle.real_outside.proofs.shelf.keeping.write_new.Goals as goal

pub returns-in_err-file : goal.returns-in_err-file
returns-in_err-file g c =
    let part = c.args.part.now in
    let error = c.in_err-file.field-0.0 in
    let result = c.from_residual.result in
    not_opened (OpensPart part)
    (λ done file. MovesFilled c.args.path.now part None file c.args.bytes.now done file) _ _ result error
    (handed_on result error c.from_residual.ensures) c.in_err-file.ensures

pub returns : goal.returns
returns g c =
    let part = c.args.part.now in
    on_opened (OpensPart part)
    (λ done file. MovesFilled c.args.path.now part None file c.args.bytes.now done file) _ _ _
    (g.S.FileSystem.number c.in_ok-file.file) c.move_filled.result c.in_ok-file.ensures c.move_filled.ensures
