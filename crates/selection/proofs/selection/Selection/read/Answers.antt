use Rattle.std.proofs.Common.{rules, ◌≡◌, ℕ, List, Err, refl, sym, ap, subst, ◌∙◌, arith}
use Rattle.selection.proofs.Names.{err_from_is_err_and, IsOctets, Postfix, tree_of}
use Rattle.selection.proofs.ReadLemmas.{IsOctets-slice, accepted, exit-accepts, exit-refuses, read-refuses}
use Rattle.selection.proofs.selection.Selection.read.Goals as goal

pub returns-in_err-check-clause-accepts : goal.returns-in_err-check-clause-accepts
returns-in_err-check-clause-accepts c =
    let p = err_from_is_err_and c.from_residual.result c.from_residual.ensures.1 in
    exit-accepts c.args.tokens.now c.in_err-check.field-0.0 c.from_residual.result (p.1 ∙ ap Err p.2) c.in_err-check.ensures

pub returns-in_err-check-clause-refuses : goal.returns-in_err-check-clause-refuses
returns-in_err-check-clause-refuses c =
    let p = err_from_is_err_and c.from_residual.result c.from_residual.ensures.1 in
    let octets : IsOctets c.args.tokens.now = IsOctets-slice c.args.tokens.now (λ i. omega (arith, c.type_inv.tokens i)) in
    exit-refuses c.args.tokens.now c.in_err-check.field-0.0 c.from_residual.result octets (p.1 ∙ ap Err p.2) c.in_err-check.ensures

pub invariant_of-result : goal.invariant_of-result
invariant_of-result c =
    let octets : IsOctets c.args.tokens.now = IsOctets-slice c.args.tokens.now (λ i. omega (arith, c.type_inv.tokens i)) in
    let P : List ℕ → Type 0 = λ t. Postfix (tree_of t) t in
    let same : c.try_extend_from_slice.new.self.items ≡ c.args.tokens.now = search rules in
    subst P (sym same) (accepted c.args.tokens.now octets c.in_ok-check.ensures)

pub returns-clause-accepts : goal.returns-clause-accepts
returns-clause-accepts c =
    let octets : IsOctets c.args.tokens.now = IsOctets-slice c.args.tokens.now (λ i. omega (arith, c.type_inv.tokens i)) in
    (λ ok. (tree_of c.args.tokens.now, accepted c.args.tokens.now octets c.in_ok-check.ensures), λ h. refl)

pub returns-clause-tree : goal.returns-clause-tree
returns-clause-tree c =
    let octets : IsOctets c.args.tokens.now = IsOctets-slice c.args.tokens.now (λ i. omega (arith, c.type_inv.tokens i)) in
    let P : List ℕ → Type 0 = λ t. Postfix (tree_of t) c.args.tokens.now in
    let same : c.try_extend_from_slice.new.self.items ≡ c.args.tokens.now = search rules in
    subst P (sym same) (accepted c.args.tokens.now octets c.in_ok-check.ensures)

pub returns-clause-refuses : goal.returns-clause-refuses
returns-clause-refuses c =
    let octets : IsOctets c.args.tokens.now = IsOctets-slice c.args.tokens.now (λ i. omega (arith, c.type_inv.tokens i)) in
    λ fault. read-refuses c.args.tokens.now c.try_extend_from_slice.new.self.items octets c.in_ok-check.ensures fault
