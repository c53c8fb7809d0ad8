use Rattle.std.proofs.Common.{arith}
use Rattle.selection.proofs.Names.{err_from_is_err_and}
use Rattle.selection.proofs.StepLemmas.{checks-fault, checks-none, checks-one, checks-more}
use Rattle.selection.proofs.operands.check.Goals as goal

pub returns-in_err-count : goal.returns-in_err-count
returns-in_err-count c =
    let p = err_from_is_err_and c.from_residual.result c.from_residual.ensures.1 in
    rw (p.1, p.2) (checks-fault c.args.tokens.now c.in_err-count.field-0.0 c.in_err-count.ensures)

pub returns-in-0 : goal.returns-in-0
returns-in-0 c = checks-none c.args.tokens.now c.in_ok-count.count c.in-0.is c.in_ok-count.ensures

pub returns-in-1 : goal.returns-in-1
returns-in-1 c = checks-one c.args.tokens.now c.in_ok-count.count c.in-1.is c.in_ok-count.ensures

pub returns-in_default : goal.returns-in_default
returns-in_default c = checks-more c.args.tokens.now c.in_ok-count.count (omega (arith, c.in_default)) c.in_ok-count.ensures
