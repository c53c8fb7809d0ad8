use Rattle.std.proofs.Common.{◌≡◌, ℕ, ◌+◌, get_or, drop, refl, rules, sym, ap, ◌∙◌, arith}
use Rattle.pfh_items.specs.declared.table.Form.TheVariants.{Number}
use Rattle.ftl0_client_job.proofs.Names.{bytes_eq, end_item, mandatory_items, MandatoryItem, are_items, item_len}
use Rattle.ftl0_client_job.proofs.ShortLemmas.{items-end, items-none, items-on, rest-is}
use Rattle.ftl0_client_job.proofs.short.are_items.Goals as goal

pub returns-then-not-begins_item : goal.returns-then-not-begins_item
returns-then-not-begins_item c =
    let i = c.loop-rule.rule-index in
    let rule : MandatoryItem = get_or mandatory_items i (record { id = 0; len = 0; form = Number }) in
    sym (items-none mandatory_items i rule (record { id = 0; len = 0; form = Number }) c.loop-rule.left.now (omega arith) refl (sym c.begins_item.ensures ∙ c.if-not-begins_item.true)) ∙ c.loop-rule.invariant

pub loop-rule-preserved : goal.loop-rule-preserved
loop-rule-preserved c =
    let i = c.loop-rule.rule-index in
    let rule : MandatoryItem = get_or mandatory_items i (record { id = 0; len = 0; form = Number }) in
    ap (are_items (drop (i + 1) mandatory_items)) (rest-is c.loop-rule.left.now (item_len rule))
    ∙ items-on mandatory_items i rule (record { id = 0; len = 0; form = Number }) c.loop-rule.left.now (omega arith) refl (sym c.begins_item.ensures ∙ c.if-not-begins_item.false)
    ∙ c.loop-rule.invariant

pub returns : goal.returns
returns c =
    let left = c.loop-rule.left.now in
    let test : c.eq.result ≡ bytes_eq left end_item = search rules in
    let last : 11 ≡ c.loop-rule.rule-index = omega arith in
    test ∙ sym (items-end left) ∙ ap (λ (k : ℕ). are_items (drop k mandatory_items) left) last ∙ c.loop-rule.invariant
