-- Items with the data that a server and a stamper give them.
use Rattle.std.proofs.Common.{◌≡◌, ℕ, ◌==◌, ◌&&◌, List, [], ◌∷◌, length, map, Bool, true, false, cond, Some, None, refl, sym, ap, ◌∙◌, arith, length-append}
use Rattle.pfh_writer.proofs.Names.{AllByRecursion, unwrap_or, eq-eqb, eqb-true, false≢true, IsCall, le16_octets, le32_octets, with_content, IsFaultless, ItemValue, items_text, StampValue, is_number_item, is_uploader_item, is_upload_time_item, stamped_item, stamped_items, Number, item_at, length-chars, stamped_sum, server_data, given_data, given_item, filled_item}
use Rattle.pfh_writer.proofs.ItemsLemmas.{len_of_once}

-- the lengths of the two items that a stamp fills in whatever length they have
abbrev pub HasNumberLen : ItemValue → Type 0
HasNumberLen item = (item.id == 0x01) ≡ true → length item.content ≡ 4

abbrev pub HasSumLen : ItemValue → Type 0
HasSumLen item = (item.id == 0x0A) ≡ true → length item.content ≡ 2

pub number_lens : (items : List ItemValue) (body file : List ℕ) → IsFaultless items body file → AllByRecursion HasNumberLen items
number_lens items body file is = len_of_once items (record { id = 0x01; len = 4; form = Number }) is.fits.once.0

pub sum_lens : (items : List ItemValue) (body file : List ℕ) → IsFaultless items body file → AllByRecursion HasSumLen items
sum_lens items body file is = len_of_once items (record { id = 0x0A; len = 2; form = Number }) is.fits.once.1.1.1.1.1.1.1.1.1.0

module _ (stamp : StampValue) where
  -- an item that a server fills in is the stamped one
  pub filled-stamped : (item : ItemValue) → HasNumberLen item → filled_item stamp item ≡ stamped_item stamp item
  filled-stamped item has = by (is_number_item item) (length item.content == 4) (is_uploader_item item) (is_upload_time_item item) refl refl
    where
      by : (n l u t : Bool) → is_number_item item ≡ n → (length item.content == 4) ≡ l
          → item_at item.id
          (unwrap_or
          (cond (n && l) (Some (le32_octets stamp.number)) (cond u (Some stamp.by.chars) (cond t (Some (le32_octets stamp.moment)) None)))
          item.content)
          ≡ cond n (item_at item.id (le32_octets stamp.number)) (cond u (item_at item.id stamp.by.chars) (cond t (item_at item.id (le32_octets stamp.moment)) item))
      by true true u t en el = refl
      by true false u t en el = absurd (false≢true (sym el ∙ eq-eqb _ _ (has en)))
      by false l true t en el = refl
      by false l false true en el = refl
      by false l false false en el = refl

  pub id-stamped : (item : ItemValue) → (stamped_item stamp item).id ≡ item.id
  id-stamped item = by (is_number_item item) (is_uploader_item item) (is_upload_time_item item)
    where
      by : (n u t : Bool)
          → (cond n (item_at item.id (le32_octets stamp.number)) (cond u (item_at item.id stamp.by.chars) (cond t (item_at item.id (le32_octets stamp.moment)) item))).id
          ≡ item.id
      by true u t = refl
      by false true t = refl
      by false false true = refl
      by false false false = refl

  -- the server's data has the item's length
  pub server_len : (id len : ℕ) (content : List ℕ) → IsCall stamp.by → length content ≡ len → length (unwrap_or (server_data stamp id len) content) ≡ len
  server_len id len content call same =
      by (id == 0x01) (len == 4) (id == 0x11) (len == 6) (id == 0x12) refl refl
    where
      by : (n four u six t : Bool) → (len == 4) ≡ four → (len == 6) ≡ six
          → length
          (unwrap_or
          (cond (n && four) (Some (le32_octets stamp.number)) (cond (u && six) (Some stamp.by.chars) (cond (t && four) (Some (le32_octets stamp.moment)) None)))
          content)
          ≡ len
      by true true u six t e4 e6 = sym (eqb-true len 4 e4)
      by true false true true t e4 e6 = length-chars stamp.by call ∙ sym (eqb-true len 6 e6)
      by true false true false true e4 e6 = same
      by true false true false false e4 e6 = same
      by true false false six true e4 e6 = same
      by true false false six false e4 e6 = same
      by false four true true t e4 e6 = length-chars stamp.by call ∙ sym (eqb-true len 6 e6)
      by false true true false true e4 e6 = sym (eqb-true len 4 e4)
      by false false true false true e4 e6 = same
      by false four true false false e4 e6 = same
      by false true false six true e4 e6 = sym (eqb-true len 4 e4)
      by false false false six true e4 e6 = same
      by false four false six false e4 e6 = same

  pub length-given_data : (sum id len : ℕ) (content : List ℕ) → IsCall stamp.by → length content ≡ len → length (given_data stamp sum id len content) ≡ len
  length-given_data sum id len content call same = by (id == 0x0A) (len == 2) refl
    where
      by : (z two : Bool) → (len == 2) ≡ two
          → length (unwrap_or (cond (z && two) (Some (le16_octets sum)) (server_data stamp id len)) content) ≡ len
      by true true e = sym (eqb-true len 2 e)
      by true false e = server_len id len content call same
      by false two e = server_len id len content call same

  -- an item that a stamper gives is the stamped one, with header_checksum renewed
  one_given : (sum : ℕ) (item : ItemValue) → HasNumberLen item → HasSumLen item
      → given_item stamp sum item
      ≡ cond ((stamped_item stamp item).id == 0x0A) (item_at (stamped_item stamp item).id (le16_octets sum)) (stamped_item stamp item)
  one_given sum item has has_sum =
      by (item.id == 0x0A) (length item.content == 2) refl refl
      ∙ ap (λ (id : ℕ). cond (id == 0x0A) (item_at id (le16_octets sum)) (stamped_item stamp item)) (sym (id-stamped item))
    where
      by : (z two : Bool) → (item.id == 0x0A) ≡ z → (length item.content == 2) ≡ two
          → item_at item.id (unwrap_or (cond (z && two) (Some (le16_octets sum)) (server_data stamp item.id (length item.content))) item.content)
          ≡ cond z (item_at item.id (le16_octets sum)) (stamped_item stamp item)
      by true true ez e2 = refl
      by true false ez e2 = absurd (false≢true (sym e2 ∙ eq-eqb _ _ (has_sum ez)))
      by false two ez e2 = filled-stamped item has

  pub all_given : (sum : ℕ) (items : List ItemValue) → AllByRecursion HasNumberLen items → AllByRecursion HasSumLen items
      → map (given_item stamp sum) items ≡ with_content 0x0A (le16_octets sum) (map (stamped_item stamp) items)
  all_given sum [] has has_sum = refl
  all_given sum (item ∷ items) has has_sum =
      let w : ItemValue → ItemValue = λ i. cond (i.id == 0x0A) (item_at i.id (le16_octets sum)) i in
      ap (λ (i : ItemValue). i ∷ map (given_item stamp sum) items) (one_given sum item has.0 has_sum.0)
      ∙ ap (λ (t : List ItemValue). w (stamped_item stamp item) ∷ t) (all_given sum items has.1 has_sum.1)

  -- a file's items as a stamper with the right sum gives them are the stamped items
  pub given_items : (sum : ℕ) (items : List ItemValue) (body file : List ℕ) → IsFaultless items body file → sum ≡ stamped_sum stamp items
      → map (given_item stamp sum) items ≡ stamped_items stamp items
  given_items sum items body file is same =
      all_given sum items (number_lens items body file is) (sum_lens items body file is)
      ∙ ap (λ (n : ℕ). with_content 0x0A (le16_octets n) (map (stamped_item stamp) items)) same

  pub length-given_items : (sum : ℕ) (items : List ItemValue) → IsCall stamp.by
      → length (items_text (map (given_item stamp sum) items)) ≡ length (items_text items)
  length-given_items sum [] call = refl
  length-given_items sum (item ∷ items) call =
      let one = length-given_data sum item.id (length item.content) item.content call refl in
      let rest = length-given_items sum items call in
      omega (arith, length-append (given_data stamp sum item.id (length item.content) item.content) (items_text (map (given_item stamp sum) items)), length-append item.content (items_text items))
