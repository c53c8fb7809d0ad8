-- A file as a server keeps it, with the items that it fills in (PFH 1990: file_number, ax25_uploader, upload_time).
use Rattle.std.specs.Prelude.{ℕ, ◌==◌, List, ◌++◌, length, map, Bool, ◌&&◌, ◌||◌, if◌then◌else◌, Option, Some, None}
use Rattle.px_base.specs.CallSign.{CallSign}
use Rattle.px_base.specs.Numbers.{le16_octets, le32_octets}
use Rattle.pfh_items.specs.Layout.{ItemValue, HeaderValue, header_text, FileText}
use Rattle.pfh_items.specs.Faults.{with_content, header_sum, file_parts}

-- what a file is stamped with: its number, who uploaded it, and when
pub record StampValue : Type 0 where
  pub number : ℕ
  pub by : CallSign
  pub moment : ℕ

-- items of these three kinds are the server's, and so is header_checksum: a file_number, an ax25_uploader of six octets,
-- an upload_time of four
abbrev pub is_number_item : ItemValue → Bool
is_number_item item = item.id == 0x01

abbrev pub is_uploader_item : ItemValue → Bool
is_uploader_item item = (item.id == 0x11) && (length item.content == 6)

abbrev pub is_upload_time_item : ItemValue → Bool
is_upload_time_item item = (item.id == 0x12) && (length item.content == 4)

abbrev pub is_server_item : ItemValue → Bool
is_server_item item = is_number_item item || is_uploader_item item || is_upload_time_item item || (item.id == 0x0A)

-- the item with the data that the stamp gives it
abbrev pub stamped_item : StampValue → ItemValue → ItemValue
stamped_item stamp item =
    if is_number_item item then record { id = item.id; content = le32_octets stamp.number }
    else if is_uploader_item item then record { id = item.id; content = stamp.by.chars }
    else if is_upload_time_item item then record { id = item.id; content = le32_octets stamp.moment }
    else item

-- the items with header_checksum renewed
abbrev pub renewed : List ItemValue → List ItemValue
renewed items = with_content 0x0A (le16_octets (header_sum items)) items

-- the items of a stamped file: the same, each with its data, and header_checksum renewed
abbrev pub stamped_items : StampValue → List ItemValue → List ItemValue
stamped_items stamp items = renewed (map (stamped_item stamp) items)

-- New is old, stamped: it has the stamped items and the same body.
abbrev pub Stamped : StampValue → List ℕ → List ℕ → Type 0
Stamped stamp old new =
    (items : List ItemValue) × (body : List ℕ) × FileText items body old × FileText (stamped_items stamp items) body new

-- The same, computed; a file of which no items reach an end item stays as it is.

-- these parts, stamped
abbrev pub stamped_parts : StampValue → List ℕ → Option HeaderValue → List ℕ
stamped_parts stamp file (Some parts) = header_text (stamped_items stamp parts.items) ++ parts.body
stamped_parts stamp file None = file

unfoldable pub stamped : StampValue → List ℕ → List ℕ
stamped stamp file = stamped_parts stamp file (file_parts file)
