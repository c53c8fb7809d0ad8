use Rattle.std.proofs.Common.{◌≡◌, length}
use Rattle.file_store.proofs.Names.{is_one_of_len, items_with}
use Rattle.file_store.proofs.HeaderLemmas.{once_still}
use Rattle.file_store.proofs.header.stands_once.Given as goal

-- `once` says whether one occurs before the items that are left
abbrev pub invariant-loop-item : goal.invariant-loop-item
invariant-loop-item l =
    is_one_of_len l.rule.len (items_with l.rule.id l.header.items)
    ≡ once_still l.once l.rule.len (items_with l.rule.id l.item-iterator.items)

abbrev pub decreases-loop-item : goal.decreases-loop-item
decreases-loop-item l = length l.item-iterator.items
