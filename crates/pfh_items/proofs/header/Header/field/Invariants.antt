use Rattle.std.proofs.Common.{◌≡◌, length}
use Rattle.pfh_items.proofs.Names.{field_of}
use Rattle.pfh_items.proofs.header.Header.field.Given as goal

-- the first item of the id is among those that are left
abbrev pub invariant-loop-item : goal.invariant-loop-item
invariant-loop-item l = field_of l.id l.item-iterator.items ≡ field_of l.id l.self.items

abbrev pub decreases-loop-item : goal.decreases-loop-item
decreases-loop-item l = length l.item-iterator.items
