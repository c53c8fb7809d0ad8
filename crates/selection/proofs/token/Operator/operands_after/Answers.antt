use Rattle.std.proofs.Common.{ℕ, ◌+◌, ◌-◌, ◌≤◌, Some, sym, subst, arith}
use Rattle.selection.proofs.Names.{operands_of, operated, LeavesAs}
use Rattle.selection.proofs.StepLemmas.{no_operands, operated_as}
use Rattle.selection.proofs.token.Operator.operands_after.Goals as goal

pub returns-then-operands-needed-clause-trees : goal.returns-then-operands-needed-clause-trees
returns-then-operands-needed-clause-trees c =
    λ trees size. let needed = c.operands-needed.ensures in no_operands c.args.self trees (omega arith)

pub returns-clause-trees : goal.returns-clause-trees
returns-clause-trees c =
    λ trees size.
    let needed = c.operands-needed.ensures in
    let enough : operands_of c.args.self ≤ c.args.operands = omega arith in
    subst (λ (n : ℕ). LeavesAs (Some (c.args.operands + 1 - n)) (operated c.args.self trees)) (sym needed)
    (operated_as c.args.self trees c.args.operands size enough)
