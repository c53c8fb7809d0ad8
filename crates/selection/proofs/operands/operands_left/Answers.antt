use Rattle.std.proofs.Common.{arith}
use Rattle.selection.proofs.Names.{err_from_is_err_and}
use Rattle.selection.proofs.StepLemmas.{counted-step, counted-fault, counted-many, counted-end}
use Rattle.selection.proofs.operands.operands_left.Goals as goal

pub returns-then-most-eq0 : goal.returns-then-most-eq0
returns-then-most-eq0 c =
    counted-many c.args.tokens.now c.loop-at.most c.loop-at.operands c.loop-at.at c.if-most-eq0.true c.loop-at-test.true c.loop-at.invariant.walk

pub returns-in_err-len : goal.returns-in_err-len
returns-in_err-len c =
    let p = err_from_is_err_and c.from_residual.result c.from_residual.ensures.1 in
    rw (p.1, p.2)
    (counted-fault c.args.tokens.now c.loop-at.most c.loop-at.operands c.loop-at.at c.in_err-len.field-0.0 (omega arith) c.loop-at-test.true
    c.loop-at.invariant.walk c.in_err-len.ensures.step)

pub loop-at-preserved : goal.loop-at-preserved
loop-at-preserved c =
    let more = c.in_ok-len.ensures.more in
    let within = c.in_ok-len.ensures.within in
    record {
      walk =
          counted-step c.args.tokens.now c.loop-at.most c.loop-at.operands c.loop-at.at c.in_ok-len.len c.in_ok-len.after (omega arith)
          c.loop-at-test.true c.loop-at.invariant.walk c.in_ok-len.ensures.step;
      few = omega arith;
      within = omega arith;
    }

pub returns : goal.returns
returns c =
    counted-end c.args.tokens.now c.loop-at.most c.loop-at.operands c.loop-at.at c.loop-at-test.false c.loop-at.invariant.walk
