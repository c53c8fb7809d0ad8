use Rattle.std.proofs.Common.{inl, inr, Ok, Err, refl}
use Rattle.real_outside.proofs.Names.{OpensLocked, file_answer, ChecksPart, OpensPart, asks_as, asks_then}
use Rattle.real_outside.proofs.Errors.{handed_on}
use Rattle.real_outside.proofs.shelf.keeping.open_part.Goals as goal

pub returns-in_err-check_part : goal.returns-in_err-check_part
returns-in_err-check_part g c =
    let part = c.args.part.now in
    let error = c.in_err-check_part.field-0.0 in
    let result = c.from_residual.result in
    asks_as (ChecksPart part (Err error)) (OpensPart part (file_answer g.S.FileSystem.number result)) _ _
    (λ calls checks. rw (handed_on result error c.from_residual.ensures) (inl (error, refl, checks)))
    c.in_err-check_part.ensures

pub returns : goal.returns
returns g c =
    let part = c.args.part.now in
    let answer = file_answer g.S.FileSystem.number c.open_locked.result in
    asks_then (ChecksPart part (Ok tt)) (OpensLocked part answer) (OpensPart part answer) _ _ _
    (λ first later checks opens. inr (first, later, refl, checks, opens)) c.in_ok-check_part.ensures c.open_locked.ensures
