-- A chain of an iterator's methods that begins with items.
use Rattle.std.proofs.Common.{length, ap}
use Rattle.std.proofs.lemmas.Iterator.Consumers.{YieldsList-from_shown}
use Rattle.pfh_items.proofs.Names.{YieldsList, GivesItem, item_value, items_left, ItemList}

-- it gives those that are left
pub YieldsList-items : (walk : ItemList) → YieldsList GivesItem item_value walk walk.items
YieldsList-items walk =
    YieldsList-from_shown GivesItem item_value items_left (λ before after none. ap length none.0.0) (λ before item after some. some.0) walk
