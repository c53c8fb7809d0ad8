-- A stamped file.
use Rattle.std.proofs.Common.{◌≡◌, ℕ, ◌+◌, ◌^◌, ◌<◌, ◌≤◌, ◌==◌, List, [], ◌∷◌, ◌++◌, length, map, get_or, ◌&&◌, ◌-◌, inl, inr, Bool, true, false, cond, refl, sym, ap, ◌∙◌, subst, arith, lit<, lit≤, length-append}
use Rattle.px_base.specs.CallSign.{CallSign, IsCall, is_call_char}
use Rattle.pfh_items.specs.Stamp.{StampValue, is_number_item, is_uploader_item, is_upload_time_item, stamped_item, stamped_items, stamped_parts, stamped}
use Rattle.pfh_items.proofs.Names.{replicate, nat_le, eqb-true, leb-true, and_parts, or_cases, length-replicate, All-append, All-from_recursion, All-replicate, le16_octets, le32_octets, IsOctets, with_content, header_sum, IsOneStamp, ItemValue, IsItem, AreItems, header_text, FileText}
use Rattle.pfh_items.proofs.TextLemmas.{item_at}
use Rattle.pfh_items.proofs.HeaderLemmas.{file_parts-text}

abbrev IsOctet : ℕ → Type 0
IsOctet octet = octet < 256

pub IsOctets-le16 : (n : ℕ) → IsOctets (le16_octets n)
IsOctets-le16 n = All-from_recursion IsOctet (le16_octets n) (omega arith, (omega arith, tt))

pub IsOctets-le32 : (n : ℕ) → IsOctets (le32_octets n)
IsOctets-le32 n = All-from_recursion IsOctet (le32_octets n) (omega arith, (omega arith, (omega arith, (omega arith, tt))))

-- characters of calls are octets
char-octet : (c : ℕ) → is_call_char c ≡ true → c < 256
char-octet c h =
    elim (or_cases (nat_le 65 c && nat_le c 90) (nat_le 48 c && nat_le c 57) h) [
      | inl letter ↦ let end : c ≤ 90 = leb-true c 90 (and_parts (nat_le 65 c) (nat_le c 90) letter).1 in omega arith
      | inr digit ↦ let end : c ≤ 57 = leb-true c 57 (and_parts (nat_le 48 c) (nat_le c 57) digit).1 in omega arith
    ]

-- the characters of a call are six octets
pub IsOctets-chars : (call : CallSign) → IsCall call → IsOctets call.chars
IsOctets-chars call h =
    let base : List ℕ = h.spelled.0 in
    let base_octets : IsOctets base = λ k d below. char-octet (get_or base k d) (h.spelled.1.2 k d below) in
    subst IsOctets (sym h.spelled.2)
    (All-append IsOctet base (replicate (6 - length base) 32) base_octets (All-replicate IsOctet (6 - length base) 32 (lit< tt)))

pub length-chars : (call : CallSign) → IsCall call → length call.chars ≡ 6
length-chars call h =
    let base : List ℕ = h.spelled.0 in
    let most : length base ≤ 6 = h.spelled.1.1 in
    ap length h.spelled.2 ∙ length-append base (replicate (6 - length base) 32) ∙ ap (λ (n : ℕ). length base + n) (length-replicate (6 - length base) 32) ∙ omega arith

-- an item whose id isn't 0, with other data
IsItem-at : (id : ℕ) (content : List ℕ) → id < 2 ^ 16 → (id ≡ 0 → ⊥) → IsOctets content → length content ≤ 255 → IsItem (item_at id content)
IsItem-at id content below some octets most = record { id = below; octets = octets; most = most; no_end = λ zero_id none. some zero_id }

-- an item of this id, which isn't 0, with other data
IsItem-of : (id : ℕ) (item : ItemValue) (content : List ℕ) → (id ≡ 0 → ⊥) → item.id ≡ id → IsItem item → IsOctets content → length content ≤ 255
    → IsItem (item_at item.id content)
IsItem-of id item content some same is octets most = IsItem-at item.id content is.id (λ zero_id. some (sym same ∙ zero_id)) octets most

-- a stamped item is one
IsItem-stamped_item : (stamp : StampValue) (item : ItemValue) → IsCall stamp.by → IsItem item → IsItem (stamped_item stamp item)
IsItem-stamped_item stamp item call is = by (is_number_item item) (is_uploader_item item) (is_upload_time_item item) refl refl refl
  where
    by : (n u t : Bool) → is_number_item item ≡ n → is_uploader_item item ≡ u → is_upload_time_item item ≡ t
        → IsItem (cond n (item_at item.id (le32_octets stamp.number)) (cond u (item_at item.id stamp.by.chars) (cond t (item_at item.id (le32_octets stamp.moment)) item)))
    by true u t en eu et = IsItem-of 0x01 item _ (λ e. absurd (omega (arith, e))) (eqb-true item.id 0x01 en) is (IsOctets-le32 stamp.number) (lit≤ tt)
    by false true t en eu et =
        let six = length-chars stamp.by call in
        IsItem-of 0x11 item stamp.by.chars (λ e. absurd (omega (arith, e))) (eqb-true item.id 0x11 (and_parts (item.id == 0x11) (length item.content == 6) eu).0) is
        (IsOctets-chars stamp.by call) (omega arith)
    by false false true en eu et =
        IsItem-of 0x12 item _ (λ e. absurd (omega (arith, e))) (eqb-true item.id 0x12 (and_parts (item.id == 0x12) (length item.content == 4) et).0) is
        (IsOctets-le32 stamp.moment) (lit≤ tt)
    by false false false en eu et = is

-- items with other data for an id that isn't 0 are items
pub AreItems-with_content : (id : ℕ) (content : List ℕ) (items : List ItemValue) → (id ≡ 0 → ⊥) → IsOctets content → length content ≤ 255 → AreItems items
    → AreItems (with_content id content items)
AreItems-with_content id content [] some octets most are = tt
AreItems-with_content id content (item ∷ items) some octets most are =
    (first (item.id == id) refl, AreItems-with_content id content items some octets most are.1)
  where
    first : (b : Bool) → (item.id == id) ≡ b → IsItem (cond b (item_at item.id content) item)
    first true e = IsItem-of id item content some (eqb-true item.id id e) are.0 octets most
    first false e = are.0

AreItems-map : (stamp : StampValue) (items : List ItemValue) → IsCall stamp.by → AreItems items → AreItems (map (stamped_item stamp) items)
AreItems-map stamp [] call are = tt
AreItems-map stamp (item ∷ items) call are = (IsItem-stamped_item stamp item call are.0, AreItems-map stamp items call are.1)

-- the items of a stamped file are items
pub AreItems-stamped_items : (stamp : StampValue) (items : List ItemValue) → IsCall stamp.by → AreItems items → AreItems (stamped_items stamp items)
AreItems-stamped_items stamp items call are =
    let stamped_ones : List ItemValue = map (stamped_item stamp) items in
    AreItems-with_content 0x0A (le16_octets (header_sum stamped_ones)) stamped_ones (λ e. absurd (omega (arith, e))) (IsOctets-le16 (header_sum stamped_ones)) (lit≤ tt)
    (AreItems-map stamp items call are)

-- what is computed of a file with these parts
pub stamped-text : (stamp : StampValue) (items : List ItemValue) (body old : List ℕ) → FileText items body old
    → stamped stamp old ≡ header_text (stamped_items stamp items) ++ body
unfolding stamped
stamped-text stamp items body old is = ap (stamped_parts stamp old) (file_parts-text items body old is)

pub one_stamp : IsOneStamp
one_stamp stamp old new items body is call = (
  λ h. h.3.text ∙ sym (stamped-text stamp h.0 h.1 old h.2),
  λ same. (
    items,
    body,
    is,
    record {
      are_items = AreItems-stamped_items stamp items call is.are_items;
      text = same ∙ stamped-text stamp items body old is;
    },
  ),
)
