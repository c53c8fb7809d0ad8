-- Sums of octets, and the header's sum without the two octets of its own item.
use Rattle.std.proofs.Common.{◌≡◌, ℕ, ◌+◌, ◌-◌, ◌%◌, ◌/◌, ◌<◌, ◌≤◌, ◌==◌, List, [], ◌∷◌, ◌++◌, length, Bool, true, false, cond, sum, sum_by, refl, sym, ap, ◌∙◌, subst, arith}
use Rattle.std.proofs.lemmas.List.Sums.{sum_by-append, sum_by-cons}
use Rattle.pfh_reader.proofs.Names.{AllByRecursion, le16, sum16, IsOctets, items_with, with_content, header_sum, item_at, ItemValue, IsItem, AreItems, item_text, items_text, end_item, header_text}

-- the sum of octets and others
sum-append : (xs ys : List ℕ) → sum (xs ++ ys) ≡ sum xs + sum ys
sum-append xs ys = sum_by-append (λ (x : ℕ). x) xs ys

sum-cons : (x : ℕ) (xs : List ℕ) → sum (x ∷ xs) ≡ x + sum xs
sum-cons x xs = sum_by-cons (λ (n : ℕ). n) x xs

pub sum16-append : (xs ys : List ℕ) → sum16 (xs ++ ys) ≡ (sum16 xs + sum16 ys) % 65536
sum16-append xs ys =
    let a : ℕ = sum xs in
    let b : ℕ = sum ys in
    let both : (a + b) % 65536 ≡ (a % 65536 + b % 65536) % 65536 = omega arith in
    ap (λ (n : ℕ). n % 65536) (sum-append xs ys) ∙ both

abbrev HasTwo : ItemValue → Type 0
HasTwo item = length item.content ≡ 2

abbrev own : List ItemValue → ℕ
own items = sum_by (λ (item : ItemValue). sum item.content) items

own-cons : (item : ItemValue) (items : List ItemValue) → own (item ∷ items) ≡ sum item.content + own items
own-cons item items = sum_by-cons (λ (i : ItemValue). sum i.content) item items

-- the sum of an item's text
sum-item_text : (id : ℕ) (content : List ℕ) → sum (item_text (item_at id content)) ≡ id % 256 + (id / 256 % 256 + (length content + sum content))
sum-item_text id content =
    sum-cons (id % 256) (id / 256 % 256 ∷ (length content ∷ content))
    ∙ ap (λ (n : ℕ). id % 256 + n)
    (sum-cons (id / 256 % 256) (length content ∷ content) ∙ ap (λ (n : ℕ). id / 256 % 256 + n) (sum-cons (length content) content))

move : (low high len mine rest others all : ℕ) → len ≡ 2 → rest + others ≡ all
    → (low + (high + 2)) + rest + (mine + others) ≡ (low + (high + (len + mine))) + all
move low high len mine rest others all two same = omega arith

shift : (text rest others all : ℕ) → rest + others ≡ all → text + rest + others ≡ text + all
shift text rest others all same = omega arith

-- with two octets 0 as the data of each item of an id, a sum is less by what they were
blank : (id : ℕ) (items : List ItemValue) → AllByRecursion HasTwo (items_with id items)
    → sum (items_text (with_content id (0 ∷ (0 ∷ [])) items)) + own (items_with id items) ≡ sum (items_text items)
blank id [] two = refl
blank id (item ∷ items) two = by (blank id items) (item.id == id) two
  where
    by : (AllByRecursion HasTwo (items_with id items) → sum (items_text (with_content id (0 ∷ (0 ∷ [])) items)) + own (items_with id items) ≡ sum (items_text items))
        → (b : Bool) → AllByRecursion HasTwo (cond b (item ∷ items_with id items) (items_with id items))
        → sum (items_text (cond b (item_at item.id (0 ∷ (0 ∷ []))) item ∷ with_content id (0 ∷ (0 ∷ [])) items)) + own (cond b (item ∷ items_with id items) (items_with id items))
        ≡ sum (items_text (item ∷ items))
    by later true h =
        let rest : List ItemValue = with_content id (0 ∷ (0 ∷ [])) items in
        let low : ℕ = item.id % 256 in
        let high : ℕ = item.id / 256 % 256 in
        let new : sum (items_text (item_at item.id (0 ∷ (0 ∷ [])) ∷ rest)) ≡ (low + (high + 2)) + sum (items_text rest) =
        sum-append (item_text (item_at item.id (0 ∷ (0 ∷ [])))) (items_text rest) ∙ ap (λ (n : ℕ). n + sum (items_text rest)) (sum-item_text item.id (0 ∷ (0 ∷ []))) in
        let old : sum (items_text (item ∷ items)) ≡ (low + (high + (length item.content + sum item.content))) + sum (items_text items) =
        sum-append (item_text item) (items_text items) ∙ ap (λ (n : ℕ). n + sum (items_text items)) (sum-item_text item.id item.content) in
        ap (λ (n : ℕ). n + own (item ∷ items_with id items)) new
        ∙ ap (λ (n : ℕ). (low + (high + 2)) + sum (items_text rest) + n) (own-cons item (items_with id items))
        ∙ move low high (length item.content) (sum item.content) (sum (items_text rest)) (own (items_with id items)) (sum (items_text items)) h.0 (later h.1)
        ∙ sym old
    by later false h =
        let rest : List ItemValue = with_content id (0 ∷ (0 ∷ [])) items in
        ap (λ (n : ℕ). n + own (items_with id items)) (sum-append (item_text item) (items_text rest))
        ∙ shift (sum (item_text item)) (sum (items_text rest)) (own (items_with id items)) (sum (items_text items)) (later h)
        ∙ sym (sum-append (item_text item) (items_text items))

-- the item of an id among items is one
items_with-IsItem : (id : ℕ) (items : List ItemValue) (item : ItemValue) (others : List ItemValue) → AreItems items → items_with id items ≡ item ∷ others
    → IsItem item
items_with-IsItem id [] item others are same = absurd (none same)
  where
    none : [] ≡ item ∷ others → ⊥
    none e = cc
items_with-IsItem id (first ∷ items) item others are same = by (items_with-IsItem id items item others are.1) (first.id == id) same
  where
    by : (items_with id items ≡ item ∷ others → IsItem item) → (b : Bool) → cond b (first ∷ items_with id items) (items_with id items) ≡ item ∷ others → IsItem item
    by later true e = let here : first ≡ item = cc in subst IsItem here are.0
    by later false e = later e

-- the two octets of a number, and their sum
two_octets : (content : List ℕ) → length content ≡ 2 → IsOctets content → le16 content 0 % 256 + le16 content 0 / 256 ≡ sum content
two_octets [] two h = absurd (omega arith)
two_octets (a ∷ []) two h = absurd (omega arith)
two_octets (a ∷ (b ∷ [])) two h =
    let ha : a < 256 = h 0 0 (omega arith) in
    let hb : b < 256 = h 1 0 (omega arith) in
    omega (arith, sum-cons a (b ∷ []), sum-cons b [])
two_octets (a ∷ (b ∷ (c ∷ content))) two h = absurd (omega arith)

sum-header : (items : List ItemValue) → sum (header_text items) ≡ 255 + sum (items_text items)
sum-header items =
    omega (arith, sum-cons 0xAA (0x55 ∷ (items_text items ++ end_item)), sum-cons 0x55 (items_text items ++ end_item), sum-append (items_text items) end_item)

-- less what stands in the header's sum for itself
pub header_sum-own : (items : List ItemValue) (content : List ℕ) → AreItems items → items_with 0x0A items ≡ record { id = 0x0A; content = content } ∷ [] → length content ≡ 2
    → (sum16 (header_text items) + 65536 - (le16 content 0 % 256 + le16 content 0 / 256)) % 65536 ≡ header_sum items
header_sum-own items content are same two =
    let item : ItemValue = record { id = 0x0A; content = content } in
    let is = items_with-IsItem 0x0A items item [] are same in
    let octets = two_octets content two is.octets in
    let below : sum content ≤ 510 = sum_two content two is.octets in
    let zeros : List ItemValue = with_content 0x0A (0 ∷ (0 ∷ [])) items in
    let one : AllByRecursion HasTwo (items_with 0x0A items) = subst (AllByRecursion HasTwo) (sym same) (two, tt) in
    let less : sum (items_text zeros) + own (items_with 0x0A items) ≡ sum (items_text items) = blank 0x0A items one in
    let mine : own (items_with 0x0A items) ≡ sum content + 0 = ap own same ∙ own-cons item [] in
    let whole : sum (header_text items) ≡ 255 + sum (items_text items) = sum-header items in
    let part : sum (header_text zeros) ≡ 255 + sum (items_text zeros) = sum-header zeros in
    let both : (sum (header_text items) % 65536 + 65536 - sum content) % 65536 ≡ sum (header_text zeros) % 65536 = mod_less (sum (header_text items)) (sum content) (sum (header_text zeros)) (omega arith) below in
    ap (λ (n : ℕ). (sum16 (header_text items) + 65536 - n) % 65536) octets ∙ both
  where
    sum_two : (xs : List ℕ) → length xs ≡ 2 → IsOctets xs → sum xs ≤ 510
    sum_two [] two h = absurd (omega arith)
    sum_two (a ∷ []) two h = absurd (omega arith)
    sum_two (a ∷ (b ∷ [])) two h =
        let ha : a < 256 = h 0 0 (omega arith) in
        let hb : b < 256 = h 1 0 (omega arith) in
        omega (arith, sum-cons a (b ∷ []), sum-cons b [])
    sum_two (a ∷ (b ∷ (c ∷ xs))) two h = absurd (omega arith)

    mod_less : (whole own part : ℕ) → part + own ≡ whole → own ≤ 510 → (whole % 65536 + 65536 - own) % 65536 ≡ part % 65536
    mod_less whole own part same below = omega arith
