-- Short headers one after another (PFH 1990, mandatory header; FTL0 1990, short directory).
use Rattle.std.specs.Prelude.{◌≡◌, ℕ, zero, suc, ◌+◌, ◌/◌, ◌==◌, List, [], ◌∷◌, ◌++◌, length, take, drop, nat_le, Bool, ◌&&◌, ⊤}
use Rattle.std.specs.Str.{bytes_eq}
use Rattle.px_base.specs.Numbers.{le16_octets}
use Rattle.pfh_items.specs.declared.table.MandatoryItem.{MandatoryItem}
use Rattle.pfh_items.specs.Layout.{ItemValue, end_item, header_start, header_text}
use Rattle.pfh_items.specs.Table.{mandatory_items}

-- how many octets a short header has
abbrev pub short_len : ℕ
short_len = 73

-- what an item of this rule begins with: its id and its data's length
abbrev pub item_start : MandatoryItem → List ℕ
item_start rule = le16_octets rule.id ++ rule.len ∷ []

-- how many octets an item of this rule has
abbrev pub item_len : MandatoryItem → ℕ
item_len rule = 3 + rule.len

-- whether the octets begin with an item of this rule, whatever its data is
abbrev pub begins_item : MandatoryItem → List ℕ → Bool
begins_item rule octets = nat_le (item_len rule) (length octets) && bytes_eq (take 3 octets) (item_start rule)

-- whether the octets are an item of each of these rules, in order, and the end item
unfoldable pub are_items : List MandatoryItem → List ℕ → Bool
are_items [] octets = bytes_eq octets end_item
are_items (rule ∷ rules) octets = begins_item rule octets && are_items rules (drop (item_len rule) octets)

-- Whether the octets are a short header: AA 55, the mandatory items with their lengths in ascending order, the end item.
-- The items' data isn't looked at.
abbrev pub is_short_header : List ℕ → Bool
is_short_header octets = bytes_eq (take 2 octets) header_start && are_items mandatory_items (drop 2 octets)

-- whether the octets are this number of short headers, one after another
unfoldable pub are_headers : ℕ → List ℕ → Bool
are_headers zero octets = length octets == 0
are_headers (suc n) octets = is_short_header (take short_len octets) && are_headers n (drop short_len octets)

-- whether they are short headers, one after another, as many as they have the octets for
abbrev pub are_short_headers : List ℕ → Bool
are_short_headers octets = are_headers (length octets / short_len) octets

-- the item has the rule's id, and data of its length
abbrev pub IsItemOf : MandatoryItem → ItemValue → Type 0
IsItemOf rule item = (item.id ≡ rule.id) × (length item.content ≡ rule.len)

-- there is an item of each of these rules, in order, and no other
abbrev pub AreItemsOf : List MandatoryItem → List ItemValue → Type 0
AreItemsOf [] [] = ⊤
AreItemsOf [] (item ∷ items) = ⊥
AreItemsOf (rule ∷ rules) [] = ⊥
AreItemsOf (rule ∷ rules) (item ∷ items) = IsItemOf rule item × AreItemsOf rules items

-- the octets of a header that has the mandatory items with their lengths in ascending order, and no others
abbrev pub IsShortText : List ℕ → Type 0
IsShortText octets = (items : List ItemValue) × AreItemsOf mandatory_items items × (octets ≡ header_text items)
