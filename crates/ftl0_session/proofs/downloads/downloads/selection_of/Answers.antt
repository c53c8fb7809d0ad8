use Rattle.std.proofs.Common.{List, ℕ, Option, sym, subst, arith}
use Rattle.ftl0_session.proofs.Names.{IfNone, IfSome, tree_of, IsOctets-slice, SelectsBy, SelectsNone}
use Rattle.ftl0_session.proofs.downloads.SelectLemmas.{selects-none, selects-some}
use Rattle.ftl0_session.proofs.downloads.downloads.selection_of.Goals as goal

pub returns-clause-some : goal.returns-clause-some
returns-clause-some c =
    let octets = IsOctets-slice c.args.tokens.now (λ i. omega (arith, c.type_inv.tokens i)) in
    subst (λ (o : Option (List ℕ)). IfSome o (λ s. SelectsBy c.args.tokens.now (tree_of s))) (sym c.ok.ensures.value)
    (selects-some c.args.tokens.now octets c.if-tokens-gt-MOST_TOKENS.false c.read.result c.read.ensures.tree)

pub returns-clause-none : goal.returns-clause-none
returns-clause-none c =
    let octets = IsOctets-slice c.args.tokens.now (λ i. omega (arith, c.type_inv.tokens i)) in
    subst (λ (o : Option (List ℕ)). IfNone o (SelectsNone c.args.tokens.now)) (sym c.ok.ensures.value)
    (selects-none c.args.tokens.now octets c.if-tokens-gt-MOST_TOKENS.false c.read.result c.read.ensures.refuses)
