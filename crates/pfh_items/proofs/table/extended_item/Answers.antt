use Rattle.std.proofs.Common.{◌==◌, rules, tests}
use Rattle.pfh_items.specs.declared.table.ExtendedItem.{ExtendedItem}
use Rattle.pfh_items.proofs.Names.{YieldsList-from_slice, find_from_yields_List, extended_items}
use Rattle.pfh_items.proofs.table.extended_item.Goals as goal

pub returns : goal.returns
returns c =
    find_from_yields_List (λ (rule : ExtendedItem). rule.id == c.args.id) _ _ _ c.find.ensures.ran (YieldsList-from_slice extended_items cc) (λ x b q k. search (rules, tests))
