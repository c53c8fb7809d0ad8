use Rattle.std.proofs.Common.{ap, length, arith, map}
use Rattle.pfh_items.specs.Values.{item_value}
use Rattle.pfh_writer.proofs.Names.{stamp_of, data_sum, filled_item}
use Rattle.pfh_writer.proofs.SumLemmas.{data_sum_more, data_sum_none}
use Rattle.pfh_writer.proofs.server.ServerItems.renewed_sum.Goals as goal

pub loop-item-smaller : goal.loop-item-smaller
loop-item-smaller c = let step = ap length c.in-Some.ensures.steps.0 in omega arith

pub loop-item-preserved : goal.loop-item-preserved
loop-item-preserved c =
    data_sum_more (stamp_of c.args.self.now) c.loop-item.sum c.with_item-sum.result c.args.header_sum (data_sum c.args.items.items)
    (data_sum (map (filled_item (stamp_of c.args.self.now)) c.args.items.items)) (item_value c.in-Some.item) c.loop-item.item-iterator.items
    c.next.new.self.items c.in-Some.ensures.steps.0 c.with_item-sum.ensures c.loop-item.invariant

pub returns : goal.returns
returns c =
    data_sum_none (stamp_of c.args.self.now) c.loop-item.sum c.args.header_sum (data_sum c.args.items.items)
    (data_sum (map (filled_item (stamp_of c.args.self.now)) c.args.items.items)) c.loop-item.item-iterator.items c.in-None.ensures.steps.0.0
    c.loop-item.invariant

pub loop-item-preserved-derived : goal.loop-item-preserved-derived
loop-item-preserved-derived c = (tt, tt)
