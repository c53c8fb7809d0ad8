-- The header of a file that keeps all rules.
use Rattle.std.proofs.Common.{◌≡◌, ℕ, List, [], ◌++◌, drop, sym, ap, ◌∙◌}
use Rattle.pfh_writer.proofs.Names.{append-nil, append_cancel_right, IsFaultless, ItemValue, AreItems, header_text, ItemList, items_from, after_start, items_from-whole}

-- what stands before the body is the header
pub header_is : (items : List ItemValue) (body header : List ℕ) → IsFaultless items body (header ++ body) → header ≡ header_text items
header_is items body header is = append_cancel_right header (header_text items) body is.file_text.text

-- the items that are read after the first two octets of a header
pub walk_of_header : (items : List ItemValue) (octets : List ℕ) → AreItems items → octets ≡ header_text items → (items_from 0 (drop 2 octets)).items ≡ items
walk_of_header items octets are same =
    ap (λ (t : List ℕ). (items_from 0 (drop 2 t)).items) (same ∙ sym (append-nil (header_text items)) ∙ after_start items [])
    ∙ ap (λ (walk : ItemList). walk.items) (items_from-whole items 0 [] are)
