-- The short form of the header of a complete file is octets (PFH 1990, mandatory header).
use Rattle.std.proofs.Common.{◌≡◌, ℕ, ◌≤◌, ◌<◌, ◌==◌, List, [], ◌∷◌, ◌++◌, length, map, refl, ap, sym, ◌∙◌, subst, cond}
use Rattle.std.proofs.Common.{Bool, true, false, Option, None, Some, arith}
use Rattle.std.specs.Prelude.{option_map}
use Rattle.px_base.specs.Numbers.{le16_octets}
use Rattle.pfh_items.specs.Layout.{AreItems, HeaderValue, IsItem, ItemValue, end_item, header_start, header_text}
use Rattle.pfh_items.specs.Layout.{item_text, items_text}
use Rattle.pfh_items.specs.Table.{mandatory_items}
use Rattle.pfh_items.specs.declared.table.MandatoryItem.{MandatoryItem}
use Rattle.pfh_writer.specs.Short.{short_items}
use Rattle.air_world.proofs.files.Names.{find, IsTrue, unwrap_or, AllByRecursion, flat_map, All-append, All-cons, All-head, All-nil, All-tail, IsOctets, content_of, fault_code, header_sum, with_content, IsOctets-le16, file_parts-text, no_fault, no_fault-code, IsCompleteIn, is_complete, KeepsRules, header_items, parts_or_none, Entry, Holding, Store, complete, octets_at, octets_of, partial, AreFiles, octets_in, short_octets, IsSoundStore}
use Rattle.air_world.proofs.files.FileOctets.{octets-entry}
use Rattle.air_world.proofs.files.StoreLemmas.{found-such}

abbrev IsOctet : ℕ → Type 0
IsOctet octet = octet < 256

-- ---- the texts of items

-- the data of the item are octets, and so is their number
record HasOctets (item : ItemValue) : Type 0 where
  octets : IsOctets item.content
  most : length item.content ≤ 255

item-octets : (item : ItemValue) → HasOctets item → IsOctets (item_text item)
item-octets item has =
    All-append IsOctet (le16_octets item.id) (length item.content ∷ item.content) (IsOctets-le16 item.id)
    (All-cons IsOctet (length item.content) item.content (omega (arith, has.most)) has.octets)

items-octets : (items : List ItemValue) → AllByRecursion HasOctets items → IsOctets (items_text items)
items-octets [] has = All-nil _
items-octets (item ∷ items) has =
    All-append IsOctet (item_text item) (items_text items) (item-octets item has.0) (items-octets items has.1)

header-octets : (items : List ItemValue) → AllByRecursion HasOctets items → IsOctets (header_text items)
header-octets items has =
    let start : IsOctets header_start = All-cons IsOctet 0xAA (0x55 ∷ []) (omega arith)
    (All-cons IsOctet 0x55 [] (omega arith) (All-nil _)) in
    let end : IsOctets end_item = All-cons IsOctet 0 (0 ∷ 0 ∷ []) (omega arith)
    (All-cons IsOctet 0 (0 ∷ []) (omega arith) (All-cons IsOctet 0 [] (omega arith) (All-nil _))) in
    All-append IsOctet header_start (items_text items ++ end_item) start
    (All-append IsOctet (items_text items) end_item (items-octets items has) end)

-- ---- the items of a short form

has-octets : (item : ItemValue) → IsItem item → HasOctets item
has-octets item is = record { octets = is.octets; most = is.most }

-- the data of an item that is there, or none
content-octets : (id : ℕ) (items : List ItemValue) → AreItems items
    → HasOctets (record { id = id; content = content_of id items })
content-octets id items are = by (find (λ item. item.id == id) items) refl
  where
    by : (o : Option ItemValue) → find (λ (item : ItemValue). item.id == id) items ≡ o
        → HasOctets (record { id = id; content = unwrap_or (option_map (λ (item : ItemValue). item.content) o) [] })
    by None none = record { octets = All-nil _; most = omega arith }
    by (Some item) there =
        let is = found-such IsItem (λ (item : ItemValue). item.id == id) items item there are in
        record { octets = is.octets; most = is.most }

rules-octets : (items : List ItemValue) → AreItems items → (rules : List MandatoryItem)
    → AllByRecursion HasOctets
    (map (λ (rule : MandatoryItem). record { id = rule.id; content = content_of rule.id items }) rules)
rules-octets items are [] = tt
rules-octets items are (rule ∷ rules) = (content-octets rule.id items are, rules-octets items are rules)

-- a header's sum in its place
renewed-octets : (sum : ℕ) (items : List ItemValue) → AllByRecursion HasOctets items
    → AllByRecursion HasOctets (with_content 0x0A (le16_octets sum) items)
renewed-octets sum [] has = tt
renewed-octets sum (item ∷ items) has = (by (item.id == 0x0A), renewed-octets sum items has.1)
  where
    by : (b : Bool) → HasOctets (cond b (record { id = item.id; content = le16_octets sum }) item)
    by true = record { octets = IsOctets-le16 sum; most = omega arith }
    by false = has.0

short-octets-of : (items : List ItemValue) → AreItems items → IsOctets (header_text (short_items items))
short-octets-of items are =
    let rules = map (λ (rule : MandatoryItem). record { id = rule.id; content = content_of rule.id items })
    mandatory_items in
    header-octets (short_items items) (renewed-octets (header_sum rules) rules (rules-octets items are mandatory_items))

-- ---- of files

-- the items of a file that keeps the rules
file-items : (file : List ℕ) → IsOctets file → fault_code file ≡ None → AreItems (header_items file)
file-items file octets none =
    let found = (no_fault file octets).1 (no_fault-code file none) in
    subst AreItems (sym (ap (λ (p : Option HeaderValue). (parts_or_none p).items)
    (file_parts-text found.0 found.1 file found.2.file_text))) found.2.file_text.are_items

whole-rules : (holding : Holding) → IsTrue (is_complete holding) → KeepsRules holding
    → fault_code (octets_of holding) ≡ None
whole-rules (partial held) is keeps = absurd (cc)
whole-rules (complete octets moment) is keeps = keeps

-- a complete file has no fault
pub whole-fault : (store : Store) (number : ℕ) → IsSoundStore store → IsCompleteIn store number
    → fault_code (octets_in store number) ≡ None
whole-fault store number sound is =
    let keeps = found-such (λ (e : Entry). KeepsRules e.holding)
    (λ (e : Entry). e.number == number) store.entries is.0 is.1 sound.keeps_rules in
    ap (λ (o : Option Entry). fault_code (octets_at o)) is.1 ∙ whole-rules is.0.holding is.2 keeps

pub short-octets : (store : Store) (number : ℕ) → IsSoundStore store → IsCompleteIn store number
    → IsOctets (short_octets (octets_in store number))
short-octets store number sound is =
    short-octets-of (header_items (octets_in store number))
    (file-items (octets_in store number) (octets-entry store number sound) (whole-fault store number sound is))

pub shorts-octets : (store : Store) (numbers : List ℕ) → IsSoundStore store → AreFiles store numbers
    → IsOctets (flat_map (λ number. short_octets (octets_in store number)) numbers)
shorts-octets store [] sound are = All-nil _
shorts-octets store (number ∷ numbers) sound are =
    All-append IsOctet (short_octets (octets_in store number))
    (flat_map (λ n. short_octets (octets_in store n)) numbers)
    (short-octets store number sound (All-head (IsCompleteIn store) number numbers are))
    (shorts-octets store numbers sound (All-tail (IsCompleteIn store) number numbers are))
