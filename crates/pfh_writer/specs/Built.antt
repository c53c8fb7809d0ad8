-- What a builder of headers makes (PFH 1990, mandatory header): the mandatory items in ascending order, then the others.
use Rattle.std.specs.Prelude.{◌≡◌, ℕ, ◌+◌, ◌==◌, List, [], ◌∷◌, ◌++◌, length, Bool, false, not, ◌&&◌, nat_le, nat_lt, if◌then◌else◌, Option, Some, None}
use Rattle.std.specs.List.{AllByRecursion, list_any}
use Rattle.px_base.specs.Numbers.{le16_octets, le32_octets, sum16}
use Rattle.pfh_items.specs.Layout.{ItemValue, AreItems, items_text, header_text}
use Rattle.pfh_items.specs.Stamp.{renewed}
use Rattle.pfh_items.specs.Table.{fixed_len, is_mandatory, is_single}
use Rattle.pfh_writer.specs.declared.refusal.PutRefusal.{PutRefusal}
use Rattle.pfh_writer.specs.declared.refusal.PutRefusal.TheVariants.{Mandatory, BadLength, Twice}

-- What contracts see of a builder: what was given for the mandatory items, and the other items in the order of `put`.
pub record BuilderValue : Type 0 where
  pub name : List ℕ
  pub ext : List ℕ
  pub created : ℕ
  pub modified : ℕ
  pub seu : ℕ
  pub file_type : ℕ
  pub others : List ItemValue

-- These octets are the texts of the items, none of which is mandatory.
pub record AreOthers (octets : List ℕ) (items : List ItemValue) : Type 0 where
  pub are_items : AreItems items
  pub text : octets ≡ items_text items
  pub optional : AllByRecursion (λ item. is_mandatory item.id ≡ false) items

-- the item of this id with this data
abbrev pub item : ℕ → List ℕ → ItemValue
item id content = record { id = id; content = content }

-- Whether an item of this id may have data of this length: the one that the id's data has where that is fixed; else 0 to
-- 255 octets, and for id 0 not 0.
abbrev pub fits_len : Option ℕ → ℕ → ℕ → Bool
fits_len (Some fixed) id len = len == fixed
fits_len None id len = nat_le len 255 && not ((id == 0) && (len == 0))

-- whether an item of this id stands
abbrev pub stands : ℕ → List ItemValue → Bool
stands id items = list_any (λ item. item.id == id) items

-- Why a builder with these other items takes no item of this id with this data, if it doesn't: the first of three causes.
abbrev pub put_refusal : List ItemValue → ℕ → List ℕ → Option PutRefusal
put_refusal others id content =
    if is_mandatory id then Some (Mandatory id)
    else if not (fits_len (fixed_len id) id (length content)) then Some (BadLength id)
    else if is_single id && stands id others then Some (Twice id)
    else None

-- the mandatory items, with file_number and header_checksum zero, of a header that says these numbers of its file
unfoldable pub mandatory_saying : BuilderValue → ℕ → ℕ → ℕ → List ItemValue
mandatory_saying builder file_size body_sum body_offset =
    item 0x01 (0 ∷ 0 ∷ 0 ∷ 0 ∷ [])  -- file_number
    ∷ item 0x02 builder.name  -- file_name
    ∷ item 0x03 builder.ext  -- file_ext
    ∷ item 0x04 (le32_octets file_size)  -- file_size
    ∷ item 0x05 (le32_octets builder.created)  -- create_time
    ∷ item 0x06 (le32_octets builder.modified)  -- last_modified_time
    ∷ item 0x07 (builder.seu ∷ [])  -- seu_flag
    ∷ item 0x08 (builder.file_type ∷ [])  -- file_type
    ∷ item 0x09 (le16_octets body_sum)  -- body_checksum
    ∷ item 0x0A (0 ∷ 0 ∷ [])  -- header_checksum
    ∷ item 0x0B (le16_octets body_offset)  -- body_offset
    ∷ []

-- all items of such a header
abbrev pub items_saying : BuilderValue → ℕ → ℕ → ℕ → List ItemValue
items_saying builder file_size body_sum body_offset = mandatory_saying builder file_size body_sum body_offset ++ builder.others

-- the length of the header in octets, whatever it says
abbrev pub built_len : BuilderValue → ℕ
built_len builder = length (header_text (items_saying builder 0 0 0))

-- the length of the file with this body in octets
abbrev pub built_file_len : BuilderValue → List ℕ → ℕ
built_file_len builder body = built_len builder + length body

-- The items of the built file with this body: they say its length, its body's sum and its header's length, and the sum of
-- the header is its sum.
abbrev pub built_items : BuilderValue → List ℕ → List ItemValue
built_items builder body = renewed (items_saying builder (built_file_len builder body) (sum16 body) (built_len builder))

-- the length that a file can't have, if there is one: the header's, above 65,535 octets, or the file's, above 4,194,304
abbrev pub passing_len : BuilderValue → List ℕ → Option ℕ
passing_len builder body =
    if nat_lt 65535 (built_len builder) then Some (built_len builder)
    else if nat_lt 4194304 (built_file_len builder body) then Some (built_file_len builder body)
    else None
