use Rattle.pfh_writer.proofs.Names.{StandsOnce, header_start, Number, MandatoryItem, mandatory_items, IsRule, short_item}
use Rattle.pfh_writer.proofs.ShortLemmas.{rule_now, text_more, are_more, room_more}
use Rattle.pfh_writer.proofs.short.form_of.Goals as goal

pub push_rule-requires-clause-once : goal.push_rule-requires-clause-once
push_rule-requires-clause-once c =
    let items = c.args.header.now.items in
    (rule_now (short_item items 0) mandatory_items c.loop-rule.rule-index _ c.loop-rule-test.true (StandsOnce items) c.loop-rule.invariant.once).0

pub push_rule-requires-clause-rule : goal.push_rule-requires-clause-rule
push_rule-requires-clause-rule c =
    (rule_now (short_item c.args.header.now.items 0) mandatory_items c.loop-rule.rule-index _ c.loop-rule-test.true IsRule c.loop-rule.invariant.rules).0

pub loop-rule-preserved : goal.loop-rule-preserved
loop-rule-preserved c =
    let any : MandatoryItem = record { id = 0; len = 0; form = Number } in
    let items = c.args.header.now.items in
    let i = c.loop-rule.rule-index in
    let h = c.loop-rule.invariant in
    let put = c.push_rule.ensures in
    record {
      once = (rule_now (short_item items 0) mandatory_items i any c.loop-rule-test.true (StandsOnce items) h.once).1;
      rules = (rule_now (short_item items 0) mandatory_items i any c.loop-rule-test.true IsRule h.rules).1;
      text = text_more (short_item items 0) mandatory_items i _ c.loop-rule-test.true _ _ header_start h.text put.text;
      are_items = are_more (short_item items 0) mandatory_items i _ c.loop-rule-test.true h.are_items put.item;
      room = room_more (short_item items 0) mandatory_items i _ c.loop-rule-test.true _ _ h.room put.len;
    }
