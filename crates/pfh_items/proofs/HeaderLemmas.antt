-- A file, its header and its body.
use Rattle.std.proofs.Common.{◌≡◌, ℕ, ◌+◌, ◌==◌, ◌<◌, List, [], ◌∷◌, ◌++◌, length, take, drop, Bool, true, false, cond, Some, None, refl, sym, ap, ◌∙◌, subst, arith, length-append, append_assoc, zero-add}
use Rattle.pfh_items.proofs.Names.{eqb-true, and_parts, false≢true, and_right, append-nil, take_at, drop_at, All-drop, IsOctets, Stop, EndItem, Ran, BeginsHeader, begins_header, header_before, file_parts, IsOneHeader, ItemValue, HeaderValue, AreItems, items_text, end_item, header_start, header_text, HeaderText, FileText, ItemList, StopsAt, items_from, whole_items}
use Rattle.pfh_items.proofs.WalkLemmas.{ItemsFrom-items_from, items_from-whole}

abbrev IsOctet : ℕ → Type 0
IsOctet octet = octet < 256

abbrev list_at : List ItemValue → Stop → ItemList
list_at items stop = record { items = items; stop = stop }

abbrev pub parts_at : List ItemValue → List ℕ → HeaderValue
parts_at items body = record { items = items; body = body }

-- what follows AA 55 in a file
pub after_start : (items : List ItemValue) (body : List ℕ) → header_text items ++ body ≡ header_start ++ (items_text items ++ (end_item ++ body))
after_start items body = ap (λ (t : List ℕ). header_start ++ t) (append_assoc (items_text items) end_item body)

-- the body of a file is found
back : (items : List ItemValue) (body : List ℕ) → drop (length (items_text items) + 3) (items_text items ++ (end_item ++ body)) ≡ body
back items body =
    ap (λ (t : List ℕ). drop (length (items_text items) + 3) t) (sym (append_assoc (items_text items) end_item body))
    ∙ drop_at (items_text items ++ end_item) body (length (items_text items) + 3) (length-append (items_text items) end_item)

-- a file has the parts that are computed
pub file_parts-text : (items : List ItemValue) (body file : List ℕ) → FileText items body file → file_parts file ≡ Some (parts_at items body)
unfolding file_parts
file_parts-text items body file is =
    ap file_parts (is.text ∙ after_start items body)
    ∙ ap (λ (walk : ItemList). header_before (items_text items ++ (end_item ++ body)) walk.items walk.stop) (items_from-whole items 0 body is.are_items)
    ∙ ap (λ (n : ℕ). header_before (items_text items ++ (end_item ++ body)) items (EndItem n)) (zero-add (length (items_text items)))
    ∙ ap (λ (t : List ℕ). Some (parts_at items t)) (back items body)

pub one_header : IsOneHeader
one_header file items others body other is is_other =
    let same : Some (parts_at items body) ≡ Some (parts_at others other) = sym (file_parts-text items body file is) ∙ file_parts-text others other file is_other in
    let parts : parts_at items body ≡ parts_at others other = cc in
    (ap (λ (p : HeaderValue). p.items) parts, ap (λ (p : HeaderValue). p.body) parts)

-- a file that begins with AA 55, and one that doesn't
pub begins_header-front : (file : List ℕ) → begins_header file ≡ true → file ≡ header_start ++ drop 2 file
begins_header-front [] b = absurd (false≢true b)
begins_header-front (x ∷ []) b = absurd (false≢true (sym (and_right _ _ refl) ∙ b))
begins_header-front (x ∷ (y ∷ rest)) b =
    let both = and_parts (x == 0xAA) (y == 0x55) b in
    let first : x ≡ 0xAA = eqb-true _ _ both.0 in
    let second : y ≡ 0x55 = eqb-true _ _ both.1 in
    ap (λ (a : ℕ). a ∷ (y ∷ rest)) first ∙ ap (λ (a : ℕ). 0xAA ∷ (a ∷ rest)) second

pub begins_header-BeginsHeader : (file : List ℕ) → BeginsHeader file → begins_header file ≡ true
begins_header-BeginsHeader file h = ap begins_header h.1

pub BeginsHeader-begins_header : (file : List ℕ) → begins_header file ≡ true → BeginsHeader file
BeginsHeader-begins_header file b = (drop 2 file, begins_header-front file b)

pub BeginsHeader-text : (items : List ItemValue) (body file : List ℕ) → FileText items body file → BeginsHeader file
BeginsHeader-text items body file is = (items_text items ++ (end_item ++ body), is.text ∙ after_start items body)

-- the parts that are computed are those of the file
parts-FileText : (file : List ℕ) (items : List ItemValue) (stop : Stop) (parts : HeaderValue) → file ≡ header_start ++ drop 2 file
    → StopsAt 0 (drop 2 file) items stop → header_before (drop 2 file) items stop ≡ Some parts → FileText parts.items parts.body file
parts-FileText file items (EndItem at) parts front walk some =
    let place : at ≡ length (items_text items) = walk.3 ∙ zero-add (length (items_text items)) in
    let body : drop (at + 3) (drop 2 file) ≡ walk.0 =
    ap (λ (n : ℕ). drop (n + 3) (drop 2 file)) place ∙ ap (λ (t : List ℕ). drop (length (items_text items) + 3) t) walk.2 ∙ back items walk.0 in
    let is : FileText items walk.0 file = record {
      are_items = walk.1;
      text = front ∙ ap (λ (t : List ℕ). header_start ++ t) walk.2 ∙ sym (after_start items walk.0);
    } in
    let same : parts_at items (drop (at + 3) (drop 2 file)) ≡ parts = cc in
    subst (λ (p : HeaderValue). FileText p.items p.body file) (ap (λ (t : List ℕ). parts_at items t) (sym body) ∙ same) is
parts-FileText file items (Ran at) parts front walk some = absurd (none_some some)
  where
    none_some : None ≡ Some parts → ⊥
    none_some same = cc

some-FileText : (file : List ℕ) (parts : HeaderValue) (begins : Bool) → IsOctets file → begins_header file ≡ begins
    → cond begins (header_before (drop 2 file) (items_from 0 (drop 2 file)).items (items_from 0 (drop 2 file)).stop) None ≡ Some parts
    → FileText parts.items parts.body file
some-FileText file parts true h b some =
    parts-FileText file (items_from 0 (drop 2 file)).items (items_from 0 (drop 2 file)).stop parts (begins_header-front file b)
    (ItemsFrom-items_from 0 (drop 2 file) (All-drop IsOctet 2 file h)) some
some-FileText file parts false h b some = absurd (none_some some)
  where
    none_some : None ≡ Some parts → ⊥
    none_some same = cc

pub FileText-file_parts : (file : List ℕ) (parts : HeaderValue) → IsOctets file → file_parts file ≡ Some parts → FileText parts.items parts.body file
unfolding file_parts
FileText-file_parts file parts h some = some-FileText file parts (begins_header file) h refl some

-- the items of a header
pub header-items : (items : List ItemValue) → AreItems items → items_from 0 (drop 2 (header_text items)) ≡ whole_items items
header-items items are =
    items_from-whole items 0 [] are ∙ ap (λ (n : ℕ). list_at items (EndItem n)) (zero-add (length (items_text items)))

pub header-is : (items : List ItemValue) (front : List ℕ) → AreItems items → front ≡ header_text items
    → (items_from 0 (drop 2 front)).items ≡ items
header-is items front are text = ap (λ (t : List ℕ). (items_from 0 (drop 2 t)).items) text ∙ ap (λ (walk : ItemList). walk.items) (header-items items are)

-- A file that is cut behind its end item: its header, its body and their octets.
pub record IsCutAt (file : List ℕ) (at : ℕ) : Type 0 where
  pub items : List ItemValue
  pub body : List ℕ
  pub is : FileText items body file
  pub front : take (at + 5) file ≡ header_text items
  pub back : drop (at + 5) file ≡ body

length-header : (items : List ItemValue) → length (header_text items) ≡ length (items_text items) + 5
length-header items = omega (arith, length-append (items_text items) end_item)

cut-by : (file : List ℕ) (at : ℕ) (items : List ItemValue) (stop : Stop) → begins_header file ≡ true → StopsAt 0 (drop 2 file) items stop
    → stop ≡ EndItem at → IsCutAt file at
cut-by file at items stop begins walk same = by (subst (StopsAt 0 (drop 2 file) items) same walk)
  where
    by : StopsAt 0 (drop 2 file) items (EndItem at) → IsCutAt file at
    by w =
        let text : file ≡ header_text items ++ w.0 =
        begins_header-front file begins ∙ ap (λ (t : List ℕ). header_start ++ t) w.2 ∙ sym (after_start items w.0) in
        let len : length (header_text items) ≡ at + 5 = length-header items ∙ ap (λ (n : ℕ). n + 5) (sym (w.3 ∙ zero-add (length (items_text items)))) in
        record {
          items = items;
          body = w.0;
          is = record { are_items = w.1; text = text };
          front = ap (take (at + 5)) text ∙ take_at (header_text items) w.0 (at + 5) len;
          back = ap (drop (at + 5)) text ∙ drop_at (header_text items) w.0 (at + 5) len;
        }

pub cut_at : (file : List ℕ) (at : ℕ) → IsOctets file → begins_header file ≡ true → (items_from 0 (drop 2 file)).stop ≡ EndItem at → IsCutAt file at
cut_at file at h begins same =
    cut-by file at (items_from 0 (drop 2 file)).items (items_from 0 (drop 2 file)).stop begins (ItemsFrom-items_from 0 (drop 2 file) (All-drop IsOctet 2 file h)) same

-- what contracts see of the two parts
pub parts-cut : (file : List ℕ) (at : ℕ) (cut : IsCutAt file at) (front back : List ℕ) → front ≡ take (at + 5) file → back ≡ drop (at + 5) file
    → parts_at (items_from 0 (drop 2 front)).items back ≡ parts_at cut.items cut.body
parts-cut file at cut front back is_front is_back =
    ap (λ (items : List ItemValue). parts_at items back) (header-is cut.items front cut.is.are_items (is_front ∙ cut.front))
    ∙ ap (parts_at cut.items) (is_back ∙ cut.back)

-- a file whose items reach no end item, or that doesn't begin with AA 55, has no parts
pub file_parts-ran : (file : List ℕ) (at : ℕ) → (items_from 0 (drop 2 file)).stop ≡ Ran at → file_parts file ≡ None
unfolding file_parts
file_parts-ran file at same = by (begins_header file)
  where
    by : (b : Bool) → cond b (header_before (drop 2 file) (items_from 0 (drop 2 file)).items (items_from 0 (drop 2 file)).stop) None ≡ None
    by true = ap (header_before (drop 2 file) (items_from 0 (drop 2 file)).items) same
    by false = refl

pub file_parts-other : (file : List ℕ) → begins_header file ≡ false → file_parts file ≡ None
unfolding file_parts
file_parts-other file b =
    ap (λ (t : Bool). cond t (header_before (drop 2 file) (items_from 0 (drop 2 file)).items (items_from 0 (drop 2 file)).stop) None) b

-- a file without parts is no header and body
pub none-FileText : (file : List ℕ) → file_parts file ≡ None → (items : List ItemValue) (body : List ℕ) → FileText items body file → ⊥
none-FileText file none items body is = some_none (sym (file_parts-text items body file is) ∙ none)
  where
    some_none : {parts : HeaderValue} → Some parts ≡ None → ⊥
    some_none e = cc

-- a header is a file without a body
pub HeaderText-FileText : (items : List ItemValue) (octets : List ℕ) → HeaderText items octets → FileText items [] octets
HeaderText-FileText items octets is = record { are_items = is.are_items; text = is.text ∙ sym (append-nil (header_text items)) }
