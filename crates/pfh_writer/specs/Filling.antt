-- How a server's items are filled in, one after another.
use Rattle.std.specs.Prelude.{◌≡◌, ℕ, ◌+◌, ◌%◌, ◌==◌, List, ◌∷◌, ◌++◌, length, take, drop, sum, if◌then◌else◌}
use Rattle.px_base.specs.Numbers.{le16, le16_octets}
use Rattle.pfh_items.specs.Layout.{ItemValue, IsItem, item_text, end_item}
use Rattle.pfh_items.specs.Stamp.{StampValue}
use Rattle.pfh_writer.specs.declared.filling.PassedItem.{PassedItem}
use Rattle.pfh_writer.specs.Sums.{filled_item}

-- an item's id and length stand as they were, its data is filled in before what follows it, and this is told of it
pub record FillsItem (stamp : StampValue) (item : ItemValue) (later new : List ℕ) (passed : PassedItem) : Type 0 where
  pub text : new ≡ le16_octets item.id ++ length item.content ∷ ((filled_item stamp item).content ++ later)
  pub id : passed.id ≡ item.id
  pub len : passed.len ≡ length item.content
  pub change : (passed.change + sum item.content) % 65536 ≡ sum (filled_item stamp item).content % 65536

-- The octets don't begin with the end item; and where they begin with an item, it was filled in.
pub record FillsFront (stamp : StampValue) (old new : List ℕ) (passed : PassedItem) : Type 0 where
  pub no_end : (later : List ℕ) → old ≡ end_item ++ later → ⊥
  pub item : (item : ItemValue) (later : List ℕ) → IsItem item → old ≡ item_text item ++ later
      → FillsItem stamp item later new passed

-- The octets begin with no item, and stay.
pub record StaysAtEnd (old new : List ℕ) : Type 0 where
  pub no_item : (item : ItemValue) (later : List ℕ) → IsItem item → old ≡ item_text item ++ later → ⊥
  pub same : new ≡ old

-- the place of header_checksum's data, if this is its item and its data begins here, or else as it was known
abbrev pub sum_place_after : ℕ → ℕ → ℕ → ℕ
sum_place_after known id at = if id == 0x0A then at else known

-- the octets, with this added to the sum that stands at a place, modulo 65,536
abbrev pub with_sum_changed : List ℕ → ℕ → ℕ → List ℕ
with_sum_changed octets at change =
    take at octets ++ (le16_octets ((le16 octets at + change) % 65536) ++ drop (at + 2) octets)
