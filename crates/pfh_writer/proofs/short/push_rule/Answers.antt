use Rattle.std.proofs.Common.{◌≡◌, ℕ, ◌+◌, length, Some, ap, ◌∙◌, arith, lit<}
use Rattle.pfh_writer.proofs.Names.{array_vec_len}
use Rattle.pfh_writer.proofs.ItemsLemmas.{field-once}
use Rattle.pfh_writer.proofs.short.push_rule.Goals as goal

never : (c : goal.In_default) → ⊥
never c = let none = c.in_default.ensures ∙ field-once c.args.header.now.items c.args.rule.now c.requires.once in cc

pub returns-in_default-clause-text : goal.returns-in_default-clause-text
returns-in_default-clause-text c = absurd (never c)

pub returns-in_default-clause-len : goal.returns-in_default-clause-len
returns-in_default-clause-len c = absurd (never c)

pub returns-in_default-clause-item : goal.returns-in_default-clause-item
returns-in_default-clause-item c = absurd (never c)

pub push_item-requires : goal.push_item-requires
push_item-requires c =
    let it : Some c.in-Some.bytes.now ≡ Some c.requires.once.0 = c.in-Some.ensures ∙ field-once c.args.header.now.items c.args.rule.now c.requires.once in
    let octets : c.in-Some.bytes.now ≡ c.requires.once.0 = cc in
    let len : length c.in-Some.bytes.now ≡ c.args.rule.now.len = ap length octets ∙ c.requires.once.2 in
    let room = c.requires.room in
    let short = c.requires.rule.short in
    (lit< tt, (omega arith, omega arith))

pub returns-clause-len : goal.returns-clause-len
returns-clause-len c =
    let it : Some c.in-Some.bytes.now ≡ Some c.requires.once.0 = c.in-Some.ensures ∙ field-once c.args.header.now.items c.args.rule.now c.requires.once in
    let octets : c.in-Some.bytes.now ≡ c.requires.once.0 = cc in
    c.push_item.ensures.len
    ∙ ap (λ (n : ℕ). array_vec_len c.args.form.now + (3 + n)) (ap length octets ∙ c.requires.once.2)
