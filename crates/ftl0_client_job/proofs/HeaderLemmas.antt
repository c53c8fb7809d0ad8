-- Short headers are the headers of the mandatory items alone.
use Rattle.std.proofs.Common.{◌≡◌, ℕ, ◌+◌, ◌≤◌, Bool, true, false, List, [], ◌∷◌, ◌++◌, length, take, drop, refl, sym, ap, ◌∙◌, subst, arith, append_assoc, drop-drop, length-append, length-drop}
use Rattle.std.specs.Prelude.{◌&&◌}
use Rattle.px_base.specs.Numbers.{le16_octets}
use Rattle.ftl0_client_job.proofs.Names.{nat_le, bytes_eq, drop-append-add, nat_tests, length-take-le, take-append-drop, bytes_eq-Decides, ItemValue, end_item, header_start, item_text, items_text, mandatory_items, MandatoryItem, ShortLaw, AreItemsOf, IsItemOf, are_items, begins_item, is_short_header, item_len, item_start}

-- ---- tests

same-octets : (xs ys : List ℕ) → bytes_eq xs ys ≡ true → xs ≡ ys
same-octets xs ys is = (bytes_eq-Decides xs ys).0 is

octets-same : (xs ys : List ℕ) → xs ≡ ys → bytes_eq xs ys ≡ true
octets-same xs ys is = (bytes_eq-Decides xs ys).1 is

first-of : (a b : Bool) → (a && b) ≡ true → a ≡ true
first-of true b both = refl
first-of false b both = absurd (cc both)

second-of : (a b : Bool) → (a && b) ≡ true → b ≡ true
second-of true b both = both
second-of false b both = absurd (cc both)

both-true : (a b : Bool) → a ≡ true → b ≡ true → (a && b) ≡ true
both-true a b one other = rw (one, other) refl

-- ---- the items

-- what begins with an item is that item and what comes after it
module _ (rule : MandatoryItem) (octets : List ℕ) (begins : begins_item rule octets ≡ true) where
  enough : item_len rule ≤ length octets
  enough = let test : nat_le (item_len rule) (length octets) ≡ true = first-of (nat_le (item_len rule) (length octets)) _ begins in grind (arith, nat_tests)

  start : take 3 octets ≡ item_start rule
  start = same-octets (take 3 octets) (item_start rule) (second-of (nat_le (item_len rule) (length octets)) _ begins)

  abbrev content : List ℕ
  content = take rule.len (drop 3 octets)

  content-len : length content ≡ rule.len
  content-len = length-take-le rule.len (drop 3 octets) (omega (arith, enough, length-drop 3 octets))

  abbrev item : ItemValue
  item = record { id = rule.id; content = content }

  item-is : item_text item ≡ item_start rule ++ content
  item-is = ap (λ (n : ℕ). le16_octets rule.id ++ n ∷ content) content-len

  item-front : octets ≡ item_text item ++ drop (item_len rule) octets
  item-front =
      sym (take-append-drop 3 octets)
      ∙ ap (λ (os : List ℕ). take 3 octets ++ os) (sym (take-append-drop rule.len (drop 3 octets)) ∙ ap (λ (os : List ℕ). content ++ os) (drop-drop rule.len 3 octets))
      ∙ ap (λ (os : List ℕ). os ++ (content ++ drop (item_len rule) octets)) start ∙ sym (append_assoc (item_start rule) content (drop (item_len rule) octets))
      ∙ ap (λ (os : List ℕ). os ++ drop (item_len rule) octets) (sym item-is)

items-of : (rules : List MandatoryItem) (octets : List ℕ) → are_items rules octets ≡ true → (items : List ItemValue) × AreItemsOf rules items × (octets ≡ items_text items ++ end_item)
unfolding are_items
items-of [] octets is = ([], tt, same-octets octets end_item is)
items-of (rule ∷ rules) octets is =
    let begins = first-of (begins_item rule octets) _ is in
    let rest = items-of rules (drop (item_len rule) octets) (second-of (begins_item rule octets) _ is) in
    let one : ItemValue = item rule octets begins in (
      one ∷ rest.0,
      ((refl, content-len rule octets begins), rest.1),
      item-front rule octets begins ∙ ap (λ (os : List ℕ). item_text one ++ os) rest.2 ∙ sym (append_assoc (item_text one) (items_text rest.0) end_item),
    )

-- an item begins what it comes before
module _ (rule : MandatoryItem) (one : ItemValue) (behind : List ℕ) (is : IsItemOf rule one) where
  text-len : length (item_text one) ≡ item_len rule
  text-len = let same = is.1 in omega (arith, same)

  text-begins : begins_item rule (item_text one ++ behind) ≡ true
  text-begins =
      let all = length-append (item_text one) behind in
      let there : nat_le (item_len rule) (length (item_text one ++ behind)) ≡ true = let len = text-len in grind (arith, nat_tests) in
      let start : take 3 (item_text one ++ behind) ≡ item_start rule =
      ap (λ (id : ℕ). le16_octets id ++ length one.content ∷ []) is.0 ∙ ap (λ (n : ℕ). le16_octets rule.id ++ n ∷ []) is.1 in
      both-true (nat_le (item_len rule) (length (item_text one ++ behind))) _ there (octets-same (take 3 (item_text one ++ behind)) (item_start rule) start)

  text-behind : drop (item_len rule) (item_text one ++ behind) ≡ behind
  text-behind =
      let len : length (item_text one) + 0 ≡ item_len rule = let same = text-len in omega (arith, same) in
      ap (λ (n : ℕ). drop n (item_text one ++ behind)) (sym len) ∙ drop-append-add (item_text one) behind 0

of-items : (rules : List MandatoryItem) (items : List ItemValue) → AreItemsOf rules items → are_items rules (items_text items ++ end_item) ≡ true
unfolding are_items
of-items [] [] are = octets-same end_item end_item refl
of-items [] (one ∷ items) are = absurd are
of-items (rule ∷ rules) [] are = absurd are
of-items (rule ∷ rules) (one ∷ items) are =
    let behind : List ℕ = items_text items ++ end_item in
    let all : items_text (one ∷ items) ++ end_item ≡ item_text one ++ behind = append_assoc (item_text one) (items_text items) end_item in
    ap (are_items (rule ∷ rules)) all
    ∙ both-true (begins_item rule (item_text one ++ behind)) _ (text-begins rule one behind are.0)
    (ap (are_items rules) (text-behind rule one behind are.0) ∙ of-items rules items are.1)

-- ---- the header

pub short-law : ShortLaw
short-law octets = (
  λ is.
      let start : take 2 octets ≡ header_start = same-octets (take 2 octets) header_start (first-of (bytes_eq (take 2 octets) header_start) _ is) in
      let rest = items-of mandatory_items (drop 2 octets) (second-of (bytes_eq (take 2 octets) header_start) _ is) in
      (rest.0, rest.1, sym (take-append-drop 2 octets) ∙ ap (λ (os : List ℕ). os ++ drop 2 octets) start ∙ ap (λ (os : List ℕ). header_start ++ os) rest.2),
  λ short. subst (λ (os : List ℕ). is_short_header os ≡ true) (sym short.2) (of-items mandatory_items short.0 short.1),
)
