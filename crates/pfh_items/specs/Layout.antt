-- The layout of a file header (PFH 1990, "PACSAT File Header definition"): AA 55, items, the end item.
use Rattle.std.specs.Prelude.{◌≡◌, ℕ, ◌^◌, ◌<◌, ◌≤◌, List, [], ◌∷◌, ◌++◌, length}
use Rattle.std.specs.List.{AllByRecursion}
use Rattle.px_base.specs.Numbers.{le16_octets}
use Rattle.px_base.specs.Octets.{IsOctets}

-- an item without where its octets lie: its id and its data
pub record ItemValue : Type 0 where
  pub id : ℕ
  pub content : List ℕ

-- The id is a number of two octets, and the data at most 255 octets. Id 0 without data is the end item's alone.
pub record IsItem (item : ItemValue) : Type 0 where
  pub id : item.id < 2 ^ 16
  pub octets : IsOctets item.content
  pub most : length item.content ≤ 255
  pub no_end : item.id ≡ 0 → item.content ≡ [] → ⊥

-- two octets of id, one of the data's length, the data
abbrev pub item_text : ItemValue → List ℕ
item_text item = le16_octets item.id ++ length item.content ∷ item.content

-- the items one after another
abbrev pub items_text : List ItemValue → List ℕ
items_text [] = []
items_text (item ∷ items) = item_text item ++ items_text items

abbrev pub AreItems : List ItemValue → Type 0
AreItems items = AllByRecursion IsItem items

-- what ends the items: id 0 without data
abbrev pub end_item : List ℕ
end_item = 0 ∷ 0 ∷ 0 ∷ []

-- what every header begins with
abbrev pub header_start : List ℕ
header_start = 0xAA ∷ 0x55 ∷ []

-- the octets of the header with these items
abbrev pub header_text : List ItemValue → List ℕ
header_text items = header_start ++ (items_text items ++ end_item)

-- these octets are the header with these items, and nothing else
pub record HeaderText (items : List ItemValue) (octets : List ℕ) : Type 0 where
  pub are_items : AreItems items
  pub text : octets ≡ header_text items

-- the file is the header with these items, and then this body
pub record FileText (items : List ItemValue) (body file : List ℕ) : Type 0 where
  pub are_items : AreItems items
  pub text : file ≡ header_text items ++ body

-- what contracts see of a header with the body that it stands before
pub record HeaderValue : Type 0 where
  pub items : List ItemValue
  pub body : List ℕ
