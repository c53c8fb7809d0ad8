use Rattle.std.proofs.Common.{◌≡◌, ◌+◌, ◌++◌, take, drop, map}
use Rattle.pfh_writer.proofs.Names.{AllByRecursion, array_vec_len, StandsOnce, AreItems, header_start, items_text, mandatory_items, IsRule, short_item}
use Rattle.pfh_writer.proofs.ShortLemmas.{rules_len}
use Rattle.pfh_writer.proofs.short.form_of.Given as goal

-- so many rules were put, and there is room for those that are left
abbrev pub invariant-loop-rule : goal.invariant-loop-rule
invariant-loop-rule l = record {
  once : AllByRecursion (StandsOnce l.header.items) (drop l.rule-index mandatory_items);
  rules : AllByRecursion IsRule (drop l.rule-index mandatory_items);
  text : l.form.items ≡ header_start ++ items_text (map (short_item l.header.items 0) (take l.rule-index mandatory_items));
  are_items : AreItems (map (short_item l.header.items 0) (take l.rule-index mandatory_items));
  room : array_vec_len l.form + rules_len (drop l.rule-index mandatory_items) ≡ 70;
}
