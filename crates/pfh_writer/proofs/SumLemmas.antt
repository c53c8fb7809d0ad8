-- The sum of a header whose items a server fills in.
use Rattle.std.proofs.Common.{◌≡◌, ℕ, ◌+◌, ◌%◌, ◌/◌, ◌<◌, ◌==◌, List, [], ◌∷◌, ◌++◌, length, map, Bool, true, false, cond, sum, refl, sym, ap, ◌∙◌, subst, arith, add-zero}
use Rattle.std.proofs.lemmas.List.Sums.{sum_by-append, sum_by-cons}
use Rattle.pfh_writer.proofs.Names.{AllByRecursion, unwrap_or, eqb-true, IsCall, with_content, header_sum, ItemValue, item_text, items_text, end_item, header_start, header_text, StampValue, stamped_item, item_at, stamped_sum, server_data, filled_item, data_sum}
use Rattle.pfh_writer.proofs.FilledLemmas.{HasNumberLen, filled-stamped, server_len}

pub sum-append : (xs ys : List ℕ) → sum (xs ++ ys) ≡ sum xs + sum ys
sum-append xs ys = sum_by-append (λ (x : ℕ). x) xs ys

sum-cons : (x : ℕ) (xs : List ℕ) → sum (x ∷ xs) ≡ x + sum xs
sum-cons x xs = sum_by-cons (λ (n : ℕ). n) x xs

pub data_sum-cons : (item : ItemValue) (items : List ItemValue) → data_sum (item ∷ items) ≡ sum item.content + data_sum items
data_sum-cons item items = sum_by-cons (λ (i : ItemValue). sum i.content) item items

-- one item of those that are left is filled in
pub data_sum_more : (stamp : StampValue) (before after old all all_filled : ℕ) (item : ItemValue) (left rest : List ItemValue) → left ≡ item ∷ rest
    → (after + sum item.content) % 65536 ≡ (before + sum (filled_item stamp item).content) % 65536
    → (before + all + data_sum (map (filled_item stamp) left)) % 65536 ≡ (old + all_filled + data_sum left) % 65536
    → (after + all + data_sum (map (filled_item stamp) rest)) % 65536 ≡ (old + all_filled + data_sum rest) % 65536
data_sum_more stamp before after old all all_filled item left rest first one same =
    numbers before after old all all_filled (sum item.content) (sum (filled_item stamp item).content) (data_sum rest) (data_sum (map (filled_item stamp) rest)) one
    (ap (λ (n : ℕ). (before + all + n) % 65536)
    (sym (ap (λ (l : List ItemValue). data_sum (map (filled_item stamp) l)) first ∙ data_sum-cons (filled_item stamp item) (map (filled_item stamp) rest)))
    ∙ same
    ∙ ap (λ (n : ℕ). (old + all_filled + n) % 65536) (ap data_sum first ∙ data_sum-cons item rest))
  where
    numbers : (before after old all all_filled own filled rest rest_filled : ℕ) → (after + own) % 65536 ≡ (before + filled) % 65536
        → (before + all + (filled + rest_filled)) % 65536 ≡ (old + all_filled + (own + rest)) % 65536
        → (after + all + rest_filled) % 65536 ≡ (old + all_filled + rest) % 65536
    numbers before after old all all_filled own filled rest rest_filled one two = omega arith

pub data_sum_none : (stamp : StampValue) (before old all all_filled : ℕ) (left : List ItemValue) → left ≡ []
    → (before + all + data_sum (map (filled_item stamp) left)) % 65536 ≡ (old + all_filled + data_sum left) % 65536
    → (before + all) % 65536 ≡ (old + all_filled) % 65536
data_sum_none stamp before old all all_filled left none same =
    ap (λ (n : ℕ). n % 65536) (sym (add-zero (before + all)))
    ∙ ap (λ (l : List ItemValue). (before + all + data_sum (map (filled_item stamp) l)) % 65536) (sym none)
    ∙ same
    ∙ ap (λ (l : List ItemValue). (old + all_filled + data_sum l) % 65536) none
    ∙ ap (λ (n : ℕ). n % 65536) (add-zero (old + all_filled))

-- the sum of an item's text
sum-item_text : (item : ItemValue) → sum (item_text item) ≡ item.id % 256 + (item.id / 256 % 256 + (length item.content + sum item.content))
sum-item_text item =
    sum-cons (item.id % 256) (item.id / 256 % 256 ∷ (length item.content ∷ item.content))
    ∙ ap (λ (n : ℕ). item.id % 256 + n)
    (sum-cons (item.id / 256 % 256) (length item.content ∷ item.content) ∙ ap (λ (n : ℕ). item.id / 256 % 256 + n) (sum-cons (length item.content) item.content))

-- the sum of a header is 255 more than that of its items
pub sum-header_text : (items : List ItemValue) → sum (header_text items) ≡ 255 + sum (items_text items)
sum-header_text items =
    sum-append header_start (items_text items ++ end_item)
    ∙ ap (λ (n : ℕ). 255 + n) (sum-append (items_text items) end_item ∙ add-zero (sum (items_text items)))

-- the same of an equal stamp and equal items
pub same_walk : (filled stamp : StampValue) (walked items : List ItemValue) (old result : ℕ) → filled ≡ stamp → walked ≡ items
    → (result + data_sum walked) % 65536 ≡ (old + data_sum (map (filled_item filled) walked)) % 65536
    → (result + data_sum items) % 65536 ≡ (old + data_sum (map (filled_item stamp) items)) % 65536
same_walk filled stamp walked items old result same_stamp same h =
    subst (λ (s : StampValue). (result + data_sum items) % 65536 ≡ (old + data_sum (map (filled_item s) items)) % 65536) same_stamp
    (subst (λ (l : List ItemValue). (result + data_sum l) % 65536 ≡ (old + data_sum (map (filled_item filled) l)) % 65536) same h)

-- an item with two octets 0 as its data, if it is header_checksum
abbrev blank : ItemValue → ItemValue
blank item = cond (item.id == 0x0A) (item_at item.id (0 ∷ (0 ∷ []))) item

module _ (stamp : StampValue) (call : IsCall stamp.by) where
  -- what is filled in changes the sum of an item's text as that of its data
  filled_sum : (item : ItemValue)
      → sum (item_text (blank (filled_item stamp item))) + sum item.content ≡ sum (item_text (blank item)) + sum (filled_item stamp item).content
  filled_sum item = by (item.id == 0x0A) refl
    where
      by : (b : Bool) → (item.id == 0x0A) ≡ b
          → sum (item_text (cond b (item_at item.id (0 ∷ (0 ∷ []))) (filled_item stamp item))) + sum item.content
          ≡ sum (item_text (cond b (item_at item.id (0 ∷ (0 ∷ []))) item)) + sum (filled_item stamp item).content
      by true e =
          let same : sum (filled_item stamp item).content ≡ sum item.content =
          ap (λ (id : ℕ). sum (unwrap_or (server_data stamp id (length item.content)) item.content)) (eqb-true item.id 0x0A e) in
          ap (λ (n : ℕ). sum (item_text (item_at item.id (0 ∷ (0 ∷ [])))) + n) (sym same)
      by false e =
          let len : length (filled_item stamp item).content ≡ length item.content = server_len stamp item.id (length item.content) item.content call refl in
          let new = sum-item_text (filled_item stamp item) in
          let old = sum-item_text item in
          omega arith

  stamped_one : (item : ItemValue) → HasNumberLen item
      → sum (item_text (blank (stamped_item stamp item))) + sum item.content ≡ sum (item_text (blank item)) + sum (filled_item stamp item).content
  stamped_one item has = ap (λ (i : ItemValue). sum (item_text (blank i)) + sum item.content) (sym (filled-stamped stamp item has)) ∙ filled_sum item

  regroup : (a b c d e f g h : ℕ) → a + c ≡ e + g → b + d ≡ f + h → (a + b) + (c + d) ≡ (e + f) + (g + h)
  regroup a b c d e f g h one rest = omega arith

  -- of all items
  stamped_all : (items : List ItemValue) → AllByRecursion HasNumberLen items
      → sum (items_text (with_content 0x0A (0 ∷ (0 ∷ [])) (map (stamped_item stamp) items))) + data_sum items
      ≡ sum (items_text (with_content 0x0A (0 ∷ (0 ∷ [])) items)) + data_sum (map (filled_item stamp) items)
  stamped_all [] has = refl
  stamped_all (item ∷ items) has =
      let new : List ItemValue = with_content 0x0A (0 ∷ (0 ∷ [])) (map (stamped_item stamp) items) in
      let old : List ItemValue = with_content 0x0A (0 ∷ (0 ∷ [])) items in
      ap (λ (n : ℕ). n + data_sum (item ∷ items)) (sum-append (item_text (blank (stamped_item stamp item))) (items_text new))
      ∙ ap (λ (n : ℕ). (sum (item_text (blank (stamped_item stamp item))) + sum (items_text new)) + n) (data_sum-cons item items)
      ∙ regroup _ _ _ _ _ _ _ _ (stamped_one item has.0) (stamped_all items has.1)
      ∙ sym
      (ap (λ (n : ℕ). n + data_sum (filled_item stamp item ∷ map (filled_item stamp) items)) (sum-append (item_text (blank item)) (items_text old))
      ∙ ap (λ (n : ℕ). (sum (item_text (blank item)) + sum (items_text old)) + n) (data_sum-cons (filled_item stamp item) (map (filled_item stamp) items)))

  -- a sum that differs from a header's as the data's sums do is the stamped header's
  pub renewed-stamped_sum : (items : List ItemValue) (old result : ℕ) → AllByRecursion HasNumberLen items → old ≡ header_sum items → result < 65536
      → (result + data_sum items) % 65536 ≡ (old + data_sum (map (filled_item stamp) items)) % 65536 → result ≡ stamped_sum stamp items
  renewed-stamped_sum items old result has old_is below same =
      let all = stamped_all items has in
      let new_header = sum-header_text (with_content 0x0A (0 ∷ (0 ∷ [])) (map (stamped_item stamp) items)) in
      let old_header = sum-header_text (with_content 0x0A (0 ∷ (0 ∷ [])) items) in
      numbers (sum (items_text (with_content 0x0A (0 ∷ (0 ∷ [])) (map (stamped_item stamp) items)))) (sum (items_text (with_content 0x0A (0 ∷ (0 ∷ [])) items)))
      (data_sum items) (data_sum (map (filled_item stamp) items)) old result all (old_is ∙ ap (λ (n : ℕ). n % 65536) old_header) below same
      ∙ sym (ap (λ (n : ℕ). n % 65536) new_header)
    where
      numbers : (new before data_before data_after old result : ℕ) → new + data_before ≡ before + data_after → old ≡ (255 + before) % 65536 → result < 65536
          → (result + data_before) % 65536 ≡ (old + data_after) % 65536 → result ≡ (255 + new) % 65536
      numbers new before data_before data_after old result one two three four = omega arith
