use Rattle.std.proofs.Common.{◌∷◌, ap, arith}
use Rattle.selection.proofs.Names.{Token, Compare, trees_after, comparison_value, token_value}
use Rattle.selection.proofs.token.Token.operands_after.Goals as goal

pub returns-in-Compare-clause-trees : goal.returns-in-Compare-clause-trees
returns-in-Compare-clause-trees c =
    λ trees size. (
      Compare (comparison_value c.in-Compare.field-0) ∷ trees,
      ap (λ (t : Token). trees_after (token_value t) trees) c.in-Compare.is,
      omega arith,
    )
