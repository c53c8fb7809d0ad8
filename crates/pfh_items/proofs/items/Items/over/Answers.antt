use Rattle.std.proofs.Common.{arith}
use Rattle.pfh_items.proofs.WalkLemmas.{IsOctets-slice, ItemsFrom-items_from}
use Rattle.pfh_items.proofs.items.Items.over.Goals as goal

pub returns-clause-items : goal.returns-clause-items
returns-clause-items c = ItemsFrom-items_from 0 c.args.bytes.now (IsOctets-slice c.args.bytes.now (λ i. omega (arith, c.type_inv.bytes i)))
