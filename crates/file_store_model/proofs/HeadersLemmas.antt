-- The header of a file that keeps all rules.
use Rattle.std.proofs.Common.{◌≡◌, ℕ, ◌==◌, ◌<◌, ◌≤◌, List, [], ◌∷◌, ◌++◌, length, get_or, Bool, true, false, cond, Option, None, Some, refl, sym, ap, ◌∙◌, subst, arith}
use Rattle.px_base.specs.Numbers.{le16}
use Rattle.pfh_reader.proofs.ClaimsLemmas.{content_of-items_with}
use Rattle.pfh_reader.proofs.FaultLemmas.{faultless}
use Rattle.file_store_model.specs.Headers.{IsHeaderOf, IsWholeHeader, body_octets, header_items, header_octets, parts_or_none}
use Rattle.file_store_model.proofs.Names.{IfNone, IsSome, All-get_or, IsOctets, FitsFile, IsFaultless, content_of, fault_code, items_with, AreItems, FileText, HeaderText, HeaderValue, IsItem, ItemValue, header_text, file_parts-text, first_fault-text, HeaderText-FileText, item_at, no_fault, HasEachOnce, no_fault-code}

-- ---- what is computed of a file with these parts

pub items-text : (items : List ItemValue) (body file : List ℕ) → FileText items body file → header_items file ≡ items
items-text items body file is = ap (λ (p : Option HeaderValue). (parts_or_none p).items) (file_parts-text items body file is)

body-text : (items : List ItemValue) (body file : List ℕ) → FileText items body file → body_octets file ≡ body
body-text items body file is = ap (λ (p : Option HeaderValue). (parts_or_none p).body) (file_parts-text items body file is)

pub items-header : (items : List ItemValue) (octets : List ℕ) → HeaderText items octets → header_items octets ≡ items
items-header items octets is = items-text items [] octets (HeaderText-FileText items octets is)

-- a file without a fault's code keeps all rules
pub faultless-code : (items : List ItemValue) (body file : List ℕ) → fault_code file ≡ None → FileText items body file → IsFaultless items body file
faultless-code items body file none is =
    faultless items body file is (sym (first_fault-text items body file is) ∙ no_fault-code file none)

-- ---- the length of a header is in two octets

AreItems-with : (id : ℕ) (items : List ItemValue) → AreItems items → AreItems (items_with id items)
AreItems-with id [] are = tt
AreItems-with id (item ∷ items) are = by (AreItems-with id items are.1) (item.id == id)
  where
    by : AreItems (items_with id items) → (b : Bool) → AreItems (cond b (item ∷ items_with id items) (items_with id items))
    by later true = (are.0, later)
    by later false = later

le16-below : (content : List ℕ) → IsOctets content → length content ≡ 2 → le16 content 0 < 65536
le16-below content octets two =
    let low : get_or content 0 0 < 256 = All-get_or (λ (octet : ℕ). octet < 256) content 0 0 (omega (arith, two)) octets in
    let high : get_or content 1 0 < 256 = All-get_or (λ (octet : ℕ). octet < 256) content 1 0 (omega (arith, two)) octets in
    omega (arith, low, high)

header-below : (items : List ItemValue) (body : List ℕ) → AreItems items → FitsFile items body → length (header_text items) < 65536
header-below items body are fits =
    let once = fits.once.1.1.1.1.1.1.1.1.1.1.0 in
    let item : IsItem (item_at 0x0B once.0) = (subst AreItems once.1 (AreItems-with 0x0B items are)).0 in
    let says : le16 (content_of 0x0B items) 0 ≡ le16 once.0 0 = ap (λ (c : List ℕ). le16 c 0) (content_of-items_with 0x0B items once.0 [] once.1) in
    let below = le16-below once.0 item.octets once.2 in
    subst (λ (n : ℕ). n < 65536) (sym says ∙ fits.body_offset) below

-- that of a file without fault
pub header_short : (octets : List ℕ) → IsOctets octets → fault_code octets ≡ None → length (header_octets octets) ≤ 65535
header_short octets are none =
    let good = (no_fault octets are).1 (no_fault-code octets none) in
    let below = header-below good.0 good.1 good.2.file_text.are_items good.2.fits in
    let same : length (header_octets octets) ≡ length (header_text good.0) =
    ap (λ (l : List ItemValue). length (header_text l)) (items-text good.0 good.1 octets good.2.file_text) in
    omega (arith, below, same)

-- ---- the header of a file that keeps all rules

module _ (items : List ItemValue) (body file octets : List ℕ) (is : IsFaultless items body file) (text : HeaderText items octets) where
  pub header-of : IsHeaderOf file octets
  header-of =
      let items_is = items-text items body file is.file_text in
      let body_is = body-text items body file is.file_text in
      let below = header-below items body is.file_text.are_items is.fits in
      record {
        faultless = subst (λ (b : List ℕ). IsFaultless (header_items file) b file) (sym body_is) (subst (λ (i : List ItemValue). IsFaultless i body file) (sym items_is) is);
        header = text.text ∙ ap header_text (sym items_is);
        front = is.file_text.text ∙ ap (λ (t : List ℕ). t ++ body) (sym text.text) ∙ ap (λ (b : List ℕ). octets ++ b) (sym body_is);
        items = items-header items octets text ∙ sym items_is;
        short = omega (arith, below, ap (λ (os : List ℕ). length os) text.text);
      }

  pub whole-of : IsWholeHeader octets
  whole-of =
      let same = sym (items-header items octets text) in
      record {
        text = subst (λ (i : List ItemValue). HeaderText i octets) same text;
        once = subst HasEachOnce same is.fits.once;
      }

-- a whole header is found
pub header-there : (found : Option HeaderValue) (octets : List ℕ) → IfNone found ((items : List ItemValue) → HeaderText items octets → ⊥)
    → IsWholeHeader octets → IsSome found
header-there None octets none whole = absurd (none (header_items octets) whole.text)
header-there (Some found) octets none whole = refl
