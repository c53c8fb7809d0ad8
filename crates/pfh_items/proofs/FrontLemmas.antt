-- The fronts of a file without fault, and the octets of a file.
use Rattle.std.proofs.Common.{◌≡◌, ℕ, ◌<◌, List, [], ◌∷◌, ◌++◌, length, sym, ap, ◌∙◌, subst, arith, lit<, append_assoc, length-append}
use Rattle.pfh_items.proofs.Names.{nil_from_length, All-append, All-cons, All-from_recursion, All-nil, IsOctets, le16_octets, le32, content_of, HasNoFront, IsOctetsAsBody, ItemValue, AreItems, items_text, item_text, end_item, header_start, header_text, FileText}
use Rattle.pfh_items.proofs.HeaderLemmas.{one_header}
use Rattle.pfh_items.proofs.StampLemmas.{IsOctets-le16}

abbrev IsOctet : ℕ → Type 0
IsOctet octet = octet < 256

-- the longer file's body is the other's with what follows, and both are as long as file_size says
pub no_front : HasNoFront
no_front items others body other front more is is_front =
    let text : front ++ more ≡ header_text others ++ (other ++ more) =
    ap (λ (t : List ℕ). t ++ more) is_front.file_text.text ∙ append_assoc (header_text others) other more in
    let longer : FileText others (other ++ more) (front ++ more) = record { are_items = is_front.file_text.are_items; text = text } in
    let same : items ≡ others = (one_header (front ++ more) items others body (other ++ more) is.file_text longer).0 in
    let size : le32 (content_of 0x04 items) 0 ≡ le32 (content_of 0x04 others) 0 = ap (λ (l : List ItemValue). le32 (content_of 0x04 l) 0) same in
    let whole : length (front ++ more) ≡ length front =
    ap length is.file_text.text ∙ sym is.fits.file_size ∙ size ∙ is_front.fits.file_size ∙ ap length (sym is_front.file_text.text) in
    nil_from_length more (omega (arith, whole, length-append front more))

items-octets : (items : List ItemValue) → AreItems items → IsOctets (items_text items)
items-octets [] are = All-nil IsOctet
items-octets (item ∷ items) are =
    let most = are.0.most in
    let content = All-cons IsOctet (length item.content) item.content (omega arith) are.0.octets in
    let first = All-append IsOctet (le16_octets item.id) (length item.content ∷ item.content) (IsOctets-le16 item.id) content in
    All-append IsOctet (item_text item) (items_text items) first (items-octets items are.1)

pub octets_as_body : IsOctetsAsBody
octets_as_body items body file is octets =
    let start = All-from_recursion IsOctet header_start (lit< tt, (lit< tt, tt)) in
    let end = All-from_recursion IsOctet end_item (lit< tt, (lit< tt, (lit< tt, tt))) in
    let ended = All-append IsOctet (items_text items) end_item (items-octets items is.are_items) end in
    subst IsOctets (sym is.text)
    (All-append IsOctet (header_text items) body (All-append IsOctet header_start (items_text items ++ end_item) start ended) octets)
