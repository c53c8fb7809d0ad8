-- What the standard says of the items' ids (PFH 1990, mandatory and extended header): the data's length in octets,
-- whether it is a number, and whether the item may stand more than once. All other ids are free in these.
use Rattle.std.specs.Prelude.{ℕ, ◌==◌, List, [], ◌∷◌, Bool, true, false, not, ◌&&◌, ◌||◌, Option, Some, None, find, option_and_then}
use Rattle.std.specs.List.{list_any}
use Rattle.pfh_items.specs.declared.table.Form.{Form}
use Rattle.pfh_items.specs.declared.table.Form.TheVariants.{Number, Text}
use Rattle.pfh_items.specs.declared.table.MandatoryItem.{MandatoryItem}
use Rattle.pfh_items.specs.declared.table.ExtendedItem.{ExtendedItem}

abbrev mandatory : ℕ → ℕ → Form → MandatoryItem
mandatory id len form = record { id = id; len = len; form = form }

abbrev once : ℕ → Option ℕ → Form → ExtendedItem
once id len form = record { id = id; len = len; form = form; repeats = false }

abbrev repeated : ℕ → Option ℕ → Form → ExtendedItem
repeated id len form = record { id = id; len = len; form = form; repeats = true }

-- the items that every header has, each once and with its length
abbrev pub mandatory_items : List MandatoryItem
mandatory_items =
    mandatory 0x01 4 Number  -- file_number
    ∷ mandatory 0x02 8 Text  -- file_name
    ∷ mandatory 0x03 3 Text  -- file_ext
    ∷ mandatory 0x04 4 Number  -- file_size
    ∷ mandatory 0x05 4 Number  -- create_time
    ∷ mandatory 0x06 4 Number  -- last_modified_time
    ∷ mandatory 0x07 1 Number  -- seu_flag
    ∷ mandatory 0x08 1 Number  -- file_type
    ∷ mandatory 0x09 2 Number  -- body_checksum
    ∷ mandatory 0x0A 2 Number  -- header_checksum
    ∷ mandatory 0x0B 2 Number  -- body_offset
    ∷ []

-- the items that a server and its callers add
abbrev pub extended_items : List ExtendedItem
extended_items =
    once 0x10 None Text  -- source
    ∷ once 0x11 (Some 6) Text  -- ax25_uploader
    ∷ once 0x12 (Some 4) Number  -- upload_time
    ∷ once 0x13 (Some 1) Number  -- download_count
    ∷ repeated 0x14 None Text  -- destination
    ∷ repeated 0x15 (Some 6) Text  -- ax25_downloader
    ∷ repeated 0x16 (Some 4) Number  -- download_time
    ∷ once 0x17 (Some 4) Number  -- expire_time
    ∷ once 0x18 (Some 1) Number  -- priority
    ∷ []

-- the ids of the items that are for people and programs to read; no rule is for them
abbrev pub optional_ids : List ℕ
optional_ids =
    0x19  -- compression_type
    ∷ 0x20  -- bbs_message_type
    ∷ 0x21  -- bulletin id
    ∷ 0x22  -- title
    ∷ 0x23  -- keywords
    ∷ 0x24  -- file_description
    ∷ 0x25  -- compression_description
    ∷ 0x26  -- user_file_name
    ∷ []

-- whether every header has an item of this id
abbrev pub is_mandatory : ℕ → Bool
is_mandatory id = list_any (λ rule. rule.id == id) mandatory_items

abbrev pub is_number_form : Form → Bool
is_number_form Number = true
is_number_form Text = false

-- whether the data of an item of this id is a number
abbrev pub is_number : ℕ → Bool
is_number id =
    list_any (λ rule. (rule.id == id) && is_number_form rule.form) mandatory_items
    || list_any (λ rule. (rule.id == id) && is_number_form rule.form) extended_items

abbrev mandatory_len : Option MandatoryItem → Option ℕ → Option ℕ
mandatory_len (Some rule) other = Some rule.len
mandatory_len None other = other

-- the length in octets of the data of an item of this id, where it is fixed
abbrev pub fixed_len : ℕ → Option ℕ
fixed_len id =
    mandatory_len (find (λ rule. rule.id == id) mandatory_items)
    (option_and_then (λ rule. rule.len) (find (λ rule. rule.id == id) extended_items))

-- whether an item of this id stands at most once: the mandatory ones, and the extended ones of which this is said
abbrev pub is_single : ℕ → Bool
is_single id = is_mandatory id || list_any (λ rule. (rule.id == id) && not rule.repeats) extended_items
