use Rattle.std.proofs.Common.{◌≡◌, ◌++◌, length}
use Rattle.header_tool.proofs.Names.{AreItems, item_lines}
use Rattle.header_tool.proofs.shown.text_of_items.Given as goal

-- the lines so far, and those of the items that are left
abbrev pub invariant-loop-item : goal.invariant-loop-item
invariant-loop-item l =
    AreItems l.item-iterator.items × (l.text ++ item_lines l.item-iterator.items ≡ item_lines l.header.items)

abbrev pub decreases-loop-item : goal.decreases-loop-item
decreases-loop-item l = length l.item-iterator.items
