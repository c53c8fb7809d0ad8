use Rattle.std.proofs.Common.{◌==◌, rules, tests}
use Rattle.pfh_items.proofs.Names.{YieldsList-from_slice, find_from_yields_List, MandatoryItem, mandatory_items}
use Rattle.pfh_items.proofs.table.mandatory_item.Goals as goal

pub returns : goal.returns
returns c =
    find_from_yields_List (λ (rule : MandatoryItem). rule.id == c.args.id) _ _ _ c.find.ensures.ran (YieldsList-from_slice mandatory_items cc) (λ x b q k. search (rules, tests))
