use Rattle.std.proofs.Common.{◌≡◌, length}
use Rattle.std.specs.List.{list_any}
use Rattle.selection.proofs.Names.{satisfies, comparison_value}
use Rattle.selection.proofs.token.Comparison.holds.Given as goal

-- an item that satisfies it is among those that are left
abbrev pub invariant-loop-item : goal.invariant-loop-item
invariant-loop-item l =
    list_any (λ item. satisfies (comparison_value l.self) item) l.item-iterator.items
    ≡ list_any (λ item. satisfies (comparison_value l.self) item) l.header.items

abbrev pub decreases-loop-item : goal.decreases-loop-item
decreases-loop-item l = length l.item-iterator.items
