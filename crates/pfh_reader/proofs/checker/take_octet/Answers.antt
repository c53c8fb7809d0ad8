-- What one octet more makes of a cut item.
use Rattle.std.proofs.Common.{ℕ, ◌++◌, ◌∷◌, [], List, sym, ap, ◌∙◌, subst, arith, lit<}
use Rattle.pfh_reader.proofs.Names.{Ran, items_from, IsCutItem, KeepsClaims, TakesItems}
use Rattle.pfh_reader.proofs.FeedLemmas.{IsCutItem-none, IsOctets-push, length-cut, octet_cut, octet_end, octet_ran}
use Rattle.pfh_reader.proofs.checker.take_octet.Goals as goal

pub push-requires : goal.push-requires
push-requires c = (lit< tt, length-cut c.args.held.now.items c.requires)

pub returns-in-EndItem-clause-end : goal.returns-in-EndItem-clause-end
returns-in-EndItem-clause-end c true_is =
    octet_end c.args.held.now.items c.args.octet c.in-EndItem.at c.args.claims.now c.take_items.new.claims c.requires
    (IsOctets-push c.args.held.now.items c.args.octet c.requires.octets (omega arith))
    (ap (λ (t : List ℕ). (items_from 0 t).stop) (sym (c.as_slice.ensures.value ∙ c.push.ensures.items)) ∙ sym c.take_items.ensures.stop ∙ c.in-EndItem.is)
    (subst (λ (t : List ℕ). KeepsClaims (items_from 0 t).items c.args.claims.now c.take_items.new.claims) (c.as_slice.ensures.value ∙ c.push.ensures.items) c.take_items.ensures.claims)

pub returns-in-EndItem-clause-cut : goal.returns-in-EndItem-clause-cut
returns-in-EndItem-clause-cut c = subst IsCutItem (sym c.clear.ensures) IsCutItem-none

pub returns-then-at-eq0-clause-cut : goal.returns-then-at-eq0-clause-cut
returns-then-at-eq0-clause-cut c =
    let cut =
    octet_cut (c.args.held.now.items ++ c.args.octet ∷ []) c.args.claims.now c.take_items.new.claims
    (IsOctets-push c.args.held.now.items c.args.octet c.requires.octets (omega arith))
    (ap (λ (t : List ℕ). (items_from 0 t).stop) (sym (c.as_slice.ensures.value ∙ c.push.ensures.items)) ∙ sym c.take_items.ensures.stop ∙ c.in-Ran.is ∙ ap (λ (n : ℕ). Ran n) c.if-at-eq0.true)
    (subst (λ (t : List ℕ). KeepsClaims (items_from 0 t).items c.args.claims.now c.take_items.new.claims) (c.as_slice.ensures.value ∙ c.push.ensures.items) c.take_items.ensures.claims) in
    subst IsCutItem (sym c.push.ensures.items) cut.1

pub returns-then-at-eq0-clause-items : goal.returns-then-at-eq0-clause-items
returns-then-at-eq0-clause-items c false_is =
    let cut =
    octet_cut (c.args.held.now.items ++ c.args.octet ∷ []) c.args.claims.now c.take_items.new.claims
    (IsOctets-push c.args.held.now.items c.args.octet c.requires.octets (omega arith))
    (ap (λ (t : List ℕ). (items_from 0 t).stop) (sym (c.as_slice.ensures.value ∙ c.push.ensures.items)) ∙ sym c.take_items.ensures.stop ∙ c.in-Ran.is ∙ ap (λ (n : ℕ). Ran n) c.if-at-eq0.true)
    (subst (λ (t : List ℕ). KeepsClaims (items_from 0 t).items c.args.claims.now c.take_items.new.claims) (c.as_slice.ensures.value ∙ c.push.ensures.items) c.take_items.ensures.claims) in
    subst (λ (t : List ℕ). TakesItems (c.args.held.now.items ++ c.args.octet ∷ []) t c.args.claims.now c.take_items.new.claims) (sym c.push.ensures.items) cut.0

pub returns-else-at-eq0-clause-cut : goal.returns-else-at-eq0-clause-cut
returns-else-at-eq0-clause-cut c = subst IsCutItem (sym c.clear-in-Ran.ensures) IsCutItem-none

pub returns-else-at-eq0-clause-items : goal.returns-else-at-eq0-clause-items
returns-else-at-eq0-clause-items c false_is =
    subst (λ (t : List ℕ). TakesItems (c.args.held.now.items ++ c.args.octet ∷ []) t c.args.claims.now c.take_items.new.claims) (sym c.clear-in-Ran.ensures)
    (octet_ran c.args.held.now.items c.args.octet c.in-Ran.at c.args.claims.now c.take_items.new.claims c.requires
    (IsOctets-push c.args.held.now.items c.args.octet c.requires.octets (omega arith))
    (ap (λ (t : List ℕ). (items_from 0 t).stop) (sym (c.as_slice.ensures.value ∙ c.push.ensures.items)) ∙ sym c.take_items.ensures.stop ∙ c.in-Ran.is)
    c.if-at-eq0.false
    (subst (λ (t : List ℕ). KeepsClaims (items_from 0 t).items c.args.claims.now c.take_items.new.claims) (c.as_slice.ensures.value ∙ c.push.ensures.items) c.take_items.ensures.claims))
