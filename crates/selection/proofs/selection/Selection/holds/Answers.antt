use Rattle.std.proofs.Common.{rules, ◌≡◌, ℕ, List, sym, ap, subst, ◌∙◌}
use Rattle.selection.proofs.Names.{IsOk, Tree, holds, tree_in, tree_of}
use Rattle.selection.proofs.ReadLemmas.{postfix_ok, tree_is}
use Rattle.selection.proofs.selection.Selection.holds.Goals as goal

pub tokens_hold-requires : goal.tokens_hold-requires
tokens_hold-requires c =
    let same : c.deref.result.now ≡ c.self.inside.octets.items = search rules in
    let P : List ℕ → Type 0 = λ t. IsOk (tree_in t) in
    subst P (sym same) (postfix_ok c.self.inside.octets.items (tree_of c.self.inside.octets.items) c.self.invariant)

pub returns-clause-tree : goal.returns-clause-tree
returns-clause-tree c =
    let same : c.deref.result.now ≡ c.self.inside.octets.items = search rules in
    λ tree h.
    c.tokens_hold.ensures
    ∙ ap (λ (t : List ℕ). holds (tree_of t) c.args.header.now.items) (same ∙ c.self.view_is)
    ∙ ap (λ (t : Tree). holds t c.args.header.now.items) (tree_is c.args.self.now tree h)
