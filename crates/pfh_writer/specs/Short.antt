-- The short form of a header (PFH 1990, mandatory header; FTL0 1990, short directory).
use Rattle.std.specs.Prelude.{◌≡◌, ℕ, ◌≤◌, ◌==◌, List, map, if◌then◌else◌}
use Rattle.std.specs.List.{AllByRecursion}
use Rattle.px_base.specs.Numbers.{le16_octets}
use Rattle.pfh_items.specs.declared.table.MandatoryItem.{MandatoryItem}
use Rattle.pfh_items.specs.Faults.{StandsOnce, content_of}
use Rattle.pfh_items.specs.Layout.{ItemValue}
use Rattle.pfh_items.specs.Stamp.{renewed}
use Rattle.pfh_items.specs.Table.{mandatory_items}

-- each mandatory item stands once, and has its length
abbrev pub HasEachOnce : List ItemValue → Type 0
HasEachOnce items = AllByRecursion (StandsOnce items) mandatory_items

-- What each row of the table has: header_checksum two octets, no id is 0, and no length above 255.
pub record IsRule (rule : MandatoryItem) : Type 0 where
  pub sum : rule.id ≡ 0x0A → rule.len ≡ 2
  pub some : rule.id ≡ 0 → ⊥
  pub short : rule.len ≤ 255

-- the item of a short form for this rule, with this sum of the header
abbrev pub short_item : List ItemValue → ℕ → MandatoryItem → ItemValue
short_item items sum rule =
    if rule.id == 0x0A then record { id = rule.id; content = le16_octets sum }
    else record { id = rule.id; content = content_of rule.id items }

-- the mandatory items in ascending order with the data that they have, but a renewed header_checksum
abbrev pub short_items : List ItemValue → List ItemValue
short_items items = renewed (map (λ rule. record { id = rule.id; content = content_of rule.id items }) mandatory_items)
