use Rattle.std.proofs.Common.{Err, ◌∙◌, ap}
use Rattle.client_notes.proofs.Names.{err_from_is_err_and}
use Rattle.client_notes.proofs.KeptLemmas.{answers-err, answers-ok}
use Rattle.client_notes.proofs.notes.Notes.recover.Goals as goal

pub returns-clause-answers : goal.returns-clause-answers
returns-clause-answers g c = answers-ok g.D.Disk c.args.disk.now c.recover.new.disk _ _ c.in_ok-kept.ensures.answers

pub returns-in_err-kept-clause-answers : goal.returns-in_err-kept-clause-answers
returns-in_err-kept-clause-answers g c =
    let p = err_from_is_err_and c.from_residual.result c.from_residual.ensures.1 in
    answers-err g.D.Disk c.args.disk.now c.recover.new.disk c.in_err-kept.field-0.0 c.from_residual.result (p.1 ∙ ap (λ x. Err x) p.2) c.in_err-kept.ensures.answers

pub returns-clause-calls : goal.returns-clause-calls
returns-clause-calls g c = c.recover.ensures.calls

pub returns-in_err-kept-clause-calls : goal.returns-in_err-kept-clause-calls
returns-in_err-kept-clause-calls g c = c.recover.ensures.calls
