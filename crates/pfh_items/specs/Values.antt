-- What contracts see of an item that is lent.
use Rattle.std.specs.Prelude.{◌≡◌, List, Option, length}
use Rattle.std.specs.Iterator.{YieldsFirstBy}
use Rattle.pfh_items.specs.declared.items.Item.{Item}
use Rattle.pfh_items.specs.declared.items.Stop.TheVariants.{EndItem}
use Rattle.pfh_items.specs.Layout.{ItemValue, items_text}
use Rattle.pfh_items.specs.Walk.{ItemList}

-- the item without where its octets lie
abbrev pub item_value : Item → ItemValue
item_value item = record { id = item.id; content = item.bytes.now }

-- the items that are left
abbrev pub items_left : ItemList → List ItemValue
items_left walk = walk.items

-- these items, and then the end item
abbrev pub whole_items : List ItemValue → ItemList
whole_items items = record { items = items; stop = EndItem (length (items_text items)) }

-- The item is the first that was left, if there is one, and what ends the items stays.
abbrev pub GivesItem : ItemList → Option Item → ItemList → Type 0
GivesItem before item after = YieldsFirstBy item_value items_left before item after × (after.stop ≡ before.stop)
