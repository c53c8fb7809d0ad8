-- The text that shows a file's header: a line for each item, and one that says whether the file keeps the rules of headers
-- (PFH 1990; FTL0 1990, error codes).
use Rattle.std.specs.Prelude.{◌≡◌, ◌≢◌, ℕ, ◌/◌, ◌%◌, List, [], ◌∷◌, ◌++◌, length, flat_map, codes, decimal, Option, Some, None}
use Rattle.hex.specs.Hex.{encode_lower}
use Rattle.pfh_items.specs.Faults.{fault_code, file_parts}
use Rattle.pfh_items.specs.Layout.{ItemValue, HeaderValue}

-- an item's id, as four hexadecimal digits
abbrev pub id_text : ℕ → List ℕ
id_text id = encode_lower (id / 256 % 256 ∷ id % 256 ∷ [])

-- an item's data: a blank, and two hexadecimal digits for each octet; nothing where there is no octet
abbrev pub content_text : List ℕ → List ℕ
content_text [] = []
content_text (octet ∷ octets) = codes " " ++ encode_lower (octet ∷ octets)

-- the line of an item: its id, how many octets its data has, and the data
abbrev pub item_line : ItemValue → List ℕ
item_line item = id_text item.id ++ codes " " ++ decimal (length item.content) ++ content_text item.content ++ codes "\n"

-- the lines of items in their order, joined
abbrev pub item_lines : List ItemValue → List ℕ
item_lines items = flat_map item_line items

-- the last line: that the file keeps all rules, or the code of the first that it breaks
abbrev pub last_line : Option ℕ → List ℕ
last_line None = codes "ok\n"
last_line (Some code) = codes "fault " ++ decimal code ++ codes "\n"

-- The number is the code of a fault, which is never 0, or it is 0 where there is none.
abbrev pub IsCodeOf : Option ℕ → ℕ → Type 0
IsCodeOf None number = number ≡ 0
IsCodeOf (Some code) number = (number ≡ code) × (number ≢ 0)

-- the items of a file that is a header and a body, and none of another
abbrev pub items_in : Option HeaderValue → List ItemValue
items_in None = []
items_in (Some header) = header.items

-- the text that shows a file with these items, if it has a header, and this fault
abbrev pub shown_text : List ItemValue → Option ℕ → List ℕ
shown_text items code = item_lines items ++ last_line code

-- the text that shows a file's header
abbrev pub header_lines : List ℕ → List ℕ
header_lines file = shown_text (items_in (file_parts file)) (fault_code file)

-- the line that says what the check of a file finds
abbrev pub check_text : List ℕ → List ℕ
check_text file = last_line (fault_code file)
