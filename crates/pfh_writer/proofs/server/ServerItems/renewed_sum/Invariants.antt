use Rattle.std.proofs.Common.{◌≡◌, ◌+◌, ◌%◌, length, map}
use Rattle.pfh_writer.proofs.Names.{stamp_of, data_sum, filled_item}
use Rattle.pfh_writer.proofs.server.ServerItems.renewed_sum.Given as goal

-- the sum so far, with the items that are left
abbrev pub invariant-loop-item : goal.invariant-loop-item
invariant-loop-item l =
    (l.sum + data_sum l.fn.items.items + data_sum (map (filled_item (stamp_of l.self)) l.item-iterator.items)) % 65536
    ≡ (l.header_sum + data_sum (map (filled_item (stamp_of l.self)) l.fn.items.items) + data_sum l.item-iterator.items) % 65536

abbrev pub decreases-loop-item : goal.decreases-loop-item
decreases-loop-item l = length l.item-iterator.items
