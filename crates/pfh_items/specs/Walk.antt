-- The items of octets from the first item on, and where they stop.
use Rattle.std.specs.Prelude.{◌≡◌, ℕ, zero, suc, ◌+◌, ◌==◌, List, [], ◌∷◌, ◌++◌, length, take, drop, slice_index, Bool, ◌&&◌, nat_le, if◌then◌else◌}
use Rattle.px_base.specs.Numbers.{le16}
use Rattle.pfh_items.specs.declared.items.Stop.{Stop}
use Rattle.pfh_items.specs.declared.items.Stop.TheVariants.{EndItem, Ran}
use Rattle.pfh_items.specs.Layout.{ItemValue, IsItem, item_text, items_text, AreItems, end_item}

-- what contracts see of items that are walked over: those that are left, and what ends them
pub record ItemList : Type 0 where
  pub items : List ItemValue
  pub stop : Stop

-- no item and no end item stands at the front
pub record StartsCut (octets : List ℕ) : Type 0 where
  pub no_item : (item : ItemValue) (later : List ℕ) → IsItem item → octets ≡ item_text item ++ later → ⊥
  pub no_end : (later : List ℕ) → octets ≡ end_item ++ later → ⊥

-- From this place on the octets are the texts of these items, and then at the place where they stop the end item; or
-- what no whole item and no end item stands at the front of.
abbrev pub StopsAt : ℕ → List ℕ → List ItemValue → Stop → Type 0
StopsAt place octets items (EndItem at) =
    (rest : List ℕ) × AreItems items × (octets ≡ items_text items ++ (end_item ++ rest)) × (at ≡ place + length (items_text items))
StopsAt place octets items (Ran at) =
    (rest : List ℕ) × AreItems items × (octets ≡ items_text items ++ rest) × StartsCut rest × (at ≡ place + length (items_text items))

abbrev pub ItemsFrom : ℕ → List ℕ → ItemList → Type 0
ItemsFrom place octets walk = StopsAt place octets walk.items walk.stop

-- The same, computed from the front.

-- how many octets the item has that begins so: three, and the data's length
abbrev pub item_len : List ℕ → ℕ
item_len octets = 3 + slice_index octets 2

-- whether all octets of the item at the front are there
abbrev pub starts_whole : List ℕ → Bool
starts_whole octets = nat_le (item_len octets) (length octets)

-- whether the item at the front is the end item, where it is whole
abbrev pub starts_end : List ℕ → Bool
starts_end octets = (slice_index octets 0 == 0) && (slice_index octets 1 == 0) && (slice_index octets 2 == 0)

-- the item at the front
abbrev pub item_in : List ℕ → ItemValue
item_in octets = record { id = le16 octets 0; content = take (slice_index octets 2) (drop 3 octets) }

-- with this item before the others
abbrev pub with_item : ItemValue → ItemList → ItemList
with_item item walk = record { items = item ∷ walk.items; stop = walk.stop }

-- the items from this place on, at most so many
unfoldable pub items_within : ℕ → ℕ → List ℕ → ItemList
items_within zero place octets = record { items = []; stop = Ran place }
items_within (suc most) place octets =
    if starts_whole octets then
    (if starts_end octets then record { items = []; stop = EndItem place }
    else with_item (item_in octets) (items_within most (place + item_len octets) (drop (item_len octets) octets)))
    else record { items = []; stop = Ran place }

-- the items from this place on; there are no more of them than octets
unfoldable pub items_from : ℕ → List ℕ → ItemList
items_from place octets = items_within (length octets) place octets
