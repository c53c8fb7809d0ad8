-- The first rule of file headers that a file breaks (PFH 1990), and its code (FTL0 1990, error codes).
use Rattle.std.specs.Prelude.{◌≡◌, ◌≢◌, ℕ, ◌+◌, ◌==◌, List, [], ◌∷◌, ◌++◌, length, drop, slice_index, map, filter, find, Bool, true, false, not, ◌&&◌, if◌then◌else◌, Option, Some, None, option_map, unwrap_or}
use Rattle.std.specs.List.{AllByRecursion, list_all}
use Rattle.px_base.specs.Numbers.{le16, le32, sum16}
use Rattle.pfh_items.specs.declared.fault.FileFault.{FileFault}
use Rattle.pfh_items.specs.declared.fault.FileFault.TheVariants.{NoHeader, NoEndItem, MissingItem, BadHeader, HeaderSum, BodySum}
use Rattle.pfh_items.specs.declared.items.Stop.{Stop}
use Rattle.pfh_items.specs.declared.items.Stop.TheVariants.{EndItem, Ran}
use Rattle.pfh_items.specs.declared.table.MandatoryItem.{MandatoryItem}
use Rattle.pfh_items.specs.Layout.{ItemValue, HeaderValue, header_start, header_text, FileText}
use Rattle.pfh_items.specs.Table.{mandatory_items}
use Rattle.pfh_items.specs.Walk.{items_from}

-- the items of this id
abbrev pub items_with : ℕ → List ItemValue → List ItemValue
items_with id items = filter (λ item. item.id == id) items

-- the data of the first item of this id
abbrev pub field_of : ℕ → List ItemValue → Option (List ℕ)
field_of id items = option_map (λ item. item.content) (find (λ item. item.id == id) items)

-- the same, and no octets where there is no such item
abbrev pub content_of : ℕ → List ItemValue → List ℕ
content_of id items = unwrap_or (field_of id items) []

-- the items, with these octets as the data of each item of this id
abbrev pub with_content : ℕ → List ℕ → List ItemValue → List ItemValue
with_content id content items = map (λ item. if item.id == id then record { id = item.id; content = content } else item) items

-- the sum of a header's octets modulo 65,536, with the two of header_checksum's data taken as zero
abbrev pub header_sum : List ItemValue → ℕ
header_sum items = sum16 (header_text (with_content 0x0A (0 ∷ 0 ∷ []) items))

-- an item of this id stands
abbrev pub Stands : List ItemValue → MandatoryItem → Type 0
Stands items rule = items_with rule.id items ≢ []

-- one item of this id stands, and its data has the length
abbrev pub StandsOnce : List ItemValue → MandatoryItem → Type 0
StandsOnce items rule =
    (content : List ℕ) × (items_with rule.id items ≡ record { id = rule.id; content = content } ∷ []) × (length content ≡ rule.len)

-- each mandatory item stands
abbrev pub HasMandatory : List ItemValue → Type 0
HasMandatory items = AllByRecursion (Stands items) mandatory_items

-- Each mandatory item stands once and has its length, file_size is the file's length, and body_offset the header's.
pub record FitsFile (items : List ItemValue) (body : List ℕ) : Type 0 where
  pub once : AllByRecursion (StandsOnce items) mandatory_items
  pub file_size : le32 (content_of 0x04 items) 0 ≡ length (header_text items ++ body)
  pub body_offset : le16 (content_of 0x0B items) 0 ≡ length (header_text items)

-- header_checksum is the header's sum
abbrev pub HasHeaderSum : List ItemValue → Type 0
HasHeaderSum items = le16 (content_of 0x0A items) 0 ≡ header_sum items

-- body_checksum is the sum of the body's octets modulo 65,536
abbrev pub HasBodySum : List ItemValue → List ℕ → Type 0
HasBodySum items body = le16 (content_of 0x09 items) 0 ≡ sum16 body

-- the file begins with AA 55
abbrev pub BeginsHeader : List ℕ → Type 0
BeginsHeader file = (rest : List ℕ) × (file ≡ header_start ++ rest)

-- The rule that a file is the first to break, in this order. NoHeader: it begins with AA 55. NoEndItem: items follow,
-- and an end item. MissingItem: each mandatory item stands. BadHeader: each stands once and has its length, and what
-- they say of the lengths is so. HeaderSum and BodySum: so is what they say of the sums.
abbrev pub FirstFault : FileFault → List ℕ → Type 0
FirstFault NoHeader file = BeginsHeader file → ⊥
FirstFault NoEndItem file =
    BeginsHeader file × ((items : List ItemValue) (body : List ℕ) → FileText items body file → ⊥)
FirstFault MissingItem file =
    (items : List ItemValue) × (body : List ℕ) × FileText items body file × (HasMandatory items → ⊥)
FirstFault BadHeader file =
    (items : List ItemValue) × (body : List ℕ) × FileText items body file × HasMandatory items × (FitsFile items body → ⊥)
FirstFault HeaderSum file =
    (items : List ItemValue) × (body : List ℕ) × FileText items body file × HasMandatory items × FitsFile items body
    × (HasHeaderSum items → ⊥)
FirstFault BodySum file =
    (items : List ItemValue) × (body : List ℕ) × FileText items body file × HasMandatory items × FitsFile items body
    × HasHeaderSum items × (HasBodySum items body → ⊥)

-- a file with these items and this body keeps all rules
pub record IsFaultless (items : List ItemValue) (body file : List ℕ) : Type 0 where
  pub file_text : FileText items body file
  pub mandatory : HasMandatory items
  pub fits : FitsFile items body
  pub header_sum : HasHeaderSum items
  pub body_sum : HasBodySum items body

-- This is the first fault of the file, or none where it keeps all rules.
abbrev pub IsFound : List ℕ → Option FileFault → Type 0
IsFound file None = (items : List ItemValue) × (body : List ℕ) × IsFaultless items body file
IsFound file (Some fault) = FirstFault fault file

-- the code by which a peer is told (FTL0 1990: no PFH, bad header, mandatory field missing, header check, body check)
abbrev pub code_of : FileFault → ℕ
code_of NoHeader = 7
code_of NoEndItem = 14
code_of MissingItem = 6
code_of BadHeader = 14
code_of HeaderSum = 15
code_of BodySum = 16

-- The same, computed.

-- whether the file begins with AA 55; an octet that isn't there counts as 0
abbrev pub begins_header : List ℕ → Bool
begins_header file = (slice_index file 0 == 0xAA) && (slice_index file 1 == 0x55)

-- a header with these items, and as its body what follows the end item, if they reach one
abbrev pub header_before : List ℕ → List ItemValue → Stop → Option HeaderValue
header_before octets items (EndItem at) = Some (record { items = items; body = drop (at + 3) octets })
header_before octets items (Ran at) = None

-- the items and the body of a file, if it is a header and a body
unfoldable pub file_parts : List ℕ → Option HeaderValue
file_parts file =
    if begins_header file
    then header_before (drop 2 file) (items_from 0 (drop 2 file)).items (items_from 0 (drop 2 file)).stop
    else None

-- whether there is no item
abbrev pub has_none : List ItemValue → Bool
has_none [] = true
has_none (item ∷ items) = false

-- whether this is one item, whose data has this length
abbrev pub is_one_of_len : ℕ → List ItemValue → Bool
is_one_of_len len [] = false
is_one_of_len len (item ∷ []) = length item.content == len
is_one_of_len len (item ∷ (other ∷ items)) = false

abbrev pub has_mandatory : List ItemValue → Bool
has_mandatory items = list_all (λ rule. not (has_none (items_with rule.id items))) mandatory_items

abbrev pub fits_file : List ItemValue → List ℕ → Bool
fits_file items body =
    list_all (λ rule. is_one_of_len rule.len (items_with rule.id items)) mandatory_items
    && (le32 (content_of 0x04 items) 0 == length (header_text items ++ body))
    && (le16 (content_of 0x0B items) 0 == length (header_text items))

-- the first fault of a file with these items and this body
abbrev pub fault_of : List ItemValue → List ℕ → Option FileFault
fault_of items body =
    if not (has_mandatory items) then Some MissingItem
    else if not (fits_file items body) then Some BadHeader
    else if not (le16 (content_of 0x0A items) 0 == header_sum items) then Some HeaderSum
    else if not (le16 (content_of 0x09 items) 0 == sum16 body) then Some BodySum
    else None

-- no parts, or their first fault
abbrev pub fault_of_parts : Option HeaderValue → Option FileFault
fault_of_parts None = Some NoEndItem
fault_of_parts (Some parts) = fault_of parts.items parts.body

-- the first fault of a file
unfoldable pub first_fault : List ℕ → Option FileFault
first_fault file = if begins_header file then fault_of_parts (file_parts file) else Some NoHeader

-- its code
abbrev pub fault_code : List ℕ → Option ℕ
fault_code file = option_map code_of (first_fault file)
