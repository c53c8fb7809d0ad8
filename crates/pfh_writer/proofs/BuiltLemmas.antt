-- A built file keeps all rules.
use Rattle.std.proofs.Common.{◌≡◌, drop, ℕ, ◌+◌, ◌%◌, ◌^◌, ◌<◌, ◌≤◌, ◌==◌, List, [], ◌∷◌, ◌++◌, length, true, cond, sum, refl, sym, ap, ◌∙◌, subst, arith, append_assoc, length-append}
use Rattle.pfh_writer.proofs.Names.{AllByRecursion, append-nil, map-append, le16, le32, le16_octets, le32_octets, sum16, items_with, content_of, with_content, header_sum, StandsOnce, IsFaultless, ItemValue, AreItems, item_text, items_text, end_item, header_start, header_text, renewed, mandatory_items, is_mandatory, BuilderValue, AreOthers, item, mandatory_saying, items_saying, built_len, built_file_len, built_items}
use Rattle.pfh_writer.proofs.ItemsLemmas.{AreItems-append, all_stand, header_sum-renewed, items_text-append, le16_of, length-items_text, sum16_below}
use Rattle.pfh_writer.proofs.OthersLemmas.{none_with, content_stays}
use Rattle.pfh_writer.proofs.SumLemmas.{sum-append}

le32_of : (n : ℕ) → n < 2 ^ 32 → le32 (le32_octets n) 0 ≡ n
le32_of n h = omega arith

-- the octets of AA 55 and the mandatory items, one after another
regroup : (s a b c d e f g h i j k : List ℕ)
    → ((((((((((s ++ a) ++ b) ++ c) ++ d) ++ e) ++ f) ++ g) ++ h) ++ i) ++ j) ++ k
    ≡ s ++ (a ++ (b ++ (c ++ (d ++ (e ++ (f ++ (g ++ (h ++ (i ++ (j ++ (k ++ [])))))))))))
regroup s a b c d e f g h i j k = simp (append_assoc, append-nil)

pub first_text : (b : BuilderValue) (file_size body_sum body_offset sum : ℕ) (s x0 x1 x2 x3 x4 x5 x6 x7 x8 x9 x10 x11 : List ℕ) → s ≡ []
    → x0 ≡ s ++ header_start → x1 ≡ x0 ++ item_text (item 0x01 (le32_octets 0)) → x2 ≡ x1 ++ item_text (item 0x02 b.name)
    → x3 ≡ x2 ++ item_text (item 0x03 b.ext) → x4 ≡ x3 ++ item_text (item 0x04 (le32_octets file_size))
    → x5 ≡ x4 ++ item_text (item 0x05 (le32_octets b.created)) → x6 ≡ x5 ++ item_text (item 0x06 (le32_octets b.modified))
    → x7 ≡ x6 ++ item_text (item 0x07 (b.seu ∷ [])) → x8 ≡ x7 ++ item_text (item 0x08 (b.file_type ∷ []))
    → x9 ≡ x8 ++ item_text (item 0x09 (le16_octets body_sum)) → x10 ≡ x9 ++ item_text (item 0x0A (le16_octets sum))
    → x11 ≡ x10 ++ item_text (item 0x0B (le16_octets body_offset))
    → x11 ≡ header_start ++ items_text (with_content 0x0A (le16_octets sum) (mandatory_saying b file_size body_sum body_offset))
unfolding mandatory_saying
first_text b file_size body_sum body_offset sum s x0 x1 x2 x3 x4 x5 x6 x7 x8 x9 x10 x11 es e0 e1 e2 e3 e4 e5 e6 e7 e8 e9 e10 e11 =
    e11
    ∙ ap (λ (t : List ℕ). t ++ item_text (item 0x0B (le16_octets body_offset)))
    (e10
    ∙ ap (λ (t : List ℕ). t ++ item_text (item 0x0A (le16_octets sum)))
    (e9
    ∙ ap (λ (t : List ℕ). t ++ item_text (item 0x09 (le16_octets body_sum)))
    (e8
    ∙ ap (λ (t : List ℕ). t ++ item_text (item 0x08 (b.file_type ∷ [])))
    (e7
    ∙ ap (λ (t : List ℕ). t ++ item_text (item 0x07 (b.seu ∷ [])))
    (e6
    ∙ ap (λ (t : List ℕ). t ++ item_text (item 0x06 (le32_octets b.modified)))
    (e5
    ∙ ap (λ (t : List ℕ). t ++ item_text (item 0x05 (le32_octets b.created)))
    (e4
    ∙ ap (λ (t : List ℕ). t ++ item_text (item 0x04 (le32_octets file_size)))
    (e3
    ∙ ap (λ (t : List ℕ). t ++ item_text (item 0x03 b.ext))
    (e2
    ∙ ap (λ (t : List ℕ). t ++ item_text (item 0x02 b.name))
    (e1 ∙ ap (λ (t : List ℕ). t ++ item_text (item 0x01 (le32_octets 0))) (e0 ∙ ap (λ (t : List ℕ). t ++ header_start) es)))))))))))
    ∙ regroup header_start (item_text (item 0x01 (le32_octets 0))) (item_text (item 0x02 b.name)) (item_text (item 0x03 b.ext))
    (item_text (item 0x04 (le32_octets file_size))) (item_text (item 0x05 (le32_octets b.created))) (item_text (item 0x06 (le32_octets b.modified)))
    (item_text (item 0x07 (b.seu ∷ []))) (item_text (item 0x08 (b.file_type ∷ []))) (item_text (item 0x09 (le16_octets body_sum)))
    (item_text (item 0x0A (le16_octets sum))) (item_text (item 0x0B (le16_octets body_offset)))

module _ (b : BuilderValue) (octets : List ℕ) (are : AreOthers octets b.others) (name_len : length b.name ≡ 8) (ext_len : length b.ext ≡ 3) where
  -- the length of the mandatory items' texts, whatever they say
  len_mandatory : (file_size body_sum body_offset : ℕ) (content : List ℕ) → length content ≡ 2
      → length (items_text (with_content 0x0A content (mandatory_saying b file_size body_sum body_offset))) ≡ 68
  unfolding mandatory_saying
  len_mandatory file_size body_sum body_offset content two =
      length-items_text (with_content 0x0A content (mandatory_saying b file_size body_sum body_offset)) ∙ omega arith

  same_zero : mandatory_saying b 0 0 0 ≡ with_content 0x0A (0 ∷ (0 ∷ [])) (mandatory_saying b 0 0 0)
  unfolding mandatory_saying
  same_zero = refl

  -- the length of a header with the mandatory items
  len_header : (file_size body_sum body_offset : ℕ) (content : List ℕ) → length content ≡ 2
      → length (header_text (with_content 0x0A content (mandatory_saying b file_size body_sum body_offset) ++ b.others)) ≡ 70 + length octets + 3
  len_header file_size body_sum body_offset content two =
      let w : List ItemValue = with_content 0x0A content (mandatory_saying b file_size body_sum body_offset) in
      let texts = ap length (items_text-append (with_content 0x0A content (mandatory_saying b file_size body_sum body_offset)) b.others) in
      let len = len_mandatory file_size body_sum body_offset content two in
      let others = ap length are.text in
      omega (
        arith,
        length-append (items_text (with_content 0x0A content (mandatory_saying b file_size body_sum body_offset))) (items_text b.others),
        length-append (items_text (with_content 0x0A content (mandatory_saying b file_size body_sum body_offset) ++ b.others)) end_item,
      )

  pub built_len-is : 70 + length octets + 3 ≡ built_len b
  built_len-is =
      sym
      (ap (λ (l : List ItemValue). length (header_text (l ++ b.others))) same_zero ∙ len_header 0 0 0 (0 ∷ (0 ∷ [])) refl)

  parts_with : (content : List ℕ) (file_size body_sum body_offset : ℕ)
      → with_content 0x0A content (items_saying b file_size body_sum body_offset)
      ≡ with_content 0x0A content (mandatory_saying b file_size body_sum body_offset) ++ b.others
  parts_with content file_size body_sum body_offset =
      map-append (λ (i : ItemValue). cond (i.id == 0x0A) (item i.id content) i) (mandatory_saying b file_size body_sum body_offset) b.others
      ∙ ap (λ (l : List ItemValue). with_content 0x0A content (mandatory_saying b file_size body_sum body_offset) ++ l)
      (content_stays 0x0A content b.others refl are.optional)

  -- the sum of the header, by the sums of its parts
  pub header_sum-parts : (file_size body_sum body_offset : ℕ) (first : List ℕ)
      → first ≡ header_start ++ items_text (with_content 0x0A (le16_octets 0) (mandatory_saying b file_size body_sum body_offset))
      → (sum16 first + sum16 octets) % 65536 ≡ header_sum (items_saying b file_size body_sum body_offset)
  header_sum-parts file_size body_sum body_offset first same =
      let m : List ItemValue = mandatory_saying b file_size body_sum body_offset in
      let zeroed : List ItemValue = with_content 0x0A (0 ∷ (0 ∷ [])) (mandatory_saying b file_size body_sum body_offset) in
      ap (λ (t : List ℕ). (sum16 t + sum16 octets) % 65536) same
      ∙ ap (λ (t : List ℕ). (sum16 (header_start ++ items_text (with_content 0x0A (0 ∷ (0 ∷ [])) (mandatory_saying b file_size body_sum body_offset))) + sum16 t) % 65536) are.text
      ∙ numbers (sum (header_start ++ items_text (with_content 0x0A (0 ∷ (0 ∷ [])) (mandatory_saying b file_size body_sum body_offset)))) (sum (items_text b.others))
      ∙ ap (λ (n : ℕ). n % 65536)
      (sym
      (sum-append (header_start ++ items_text (with_content 0x0A (0 ∷ (0 ∷ [])) (mandatory_saying b file_size body_sum body_offset))) (items_text b.others ++ end_item)
      ∙ ap (λ (n : ℕ). sum (header_start ++ items_text (with_content 0x0A (0 ∷ (0 ∷ [])) (mandatory_saying b file_size body_sum body_offset))) + n)
      (sum-append (items_text b.others) end_item)))
      ∙ ap sum16
      (append_assoc header_start (items_text (with_content 0x0A (0 ∷ (0 ∷ [])) (mandatory_saying b file_size body_sum body_offset))) (items_text b.others ++ end_item)
      ∙ ap (λ (t : List ℕ). header_start ++ t)
      (sym (append_assoc (items_text (with_content 0x0A (0 ∷ (0 ∷ [])) (mandatory_saying b file_size body_sum body_offset))) (items_text b.others) end_item)
      ∙ ap (λ (t : List ℕ). t ++ end_item)
      (sym (items_text-append (with_content 0x0A (0 ∷ (0 ∷ [])) (mandatory_saying b file_size body_sum body_offset)) b.others))))
      ∙ ap (λ (l : List ItemValue). sum16 (header_text l)) (sym (parts_with (0 ∷ (0 ∷ [])) file_size body_sum body_offset))
    where
      numbers : (x y : ℕ) → (x % 65536 + y % 65536) % 65536 ≡ (x + (y + 0)) % 65536
      numbers x y = omega arith

  once : (id : ℕ) (one : ItemValue) → is_mandatory id ≡ true → one ∷ items_with id b.others ≡ one ∷ []
  once id one is = ap (λ (l : List ItemValue). one ∷ l) (none_with id b.others is are.optional)

  module _ (file_size body_sum body_offset : ℕ) (content : List ℕ) (two : length content ≡ 2) where
    -- each mandatory item stands once
    all_once : AllByRecursion (StandsOnce (with_content 0x0A content (mandatory_saying b file_size body_sum body_offset) ++ b.others)) mandatory_items
    unfolding mandatory_saying
    all_once =
        let w = with_content 0x0A content (mandatory_saying b file_size body_sum body_offset) ++ b.others in
        let last : AllByRecursion (StandsOnce w) (drop 8 mandatory_items) =
        ((le16_octets body_sum, once 0x09 _ refl, refl), ((content, once 0x0A _ refl, two), ((le16_octets body_offset, once 0x0B _ refl, refl), tt))) in
        let mid : AllByRecursion (StandsOnce w) (drop 6 mandatory_items) = ((b.seu ∷ [], once 0x07 _ refl, refl), ((b.file_type ∷ [], once 0x08 _ refl, refl), last)) in
        let times : AllByRecursion (StandsOnce w) (drop 4 mandatory_items) =
        ((le32_octets b.created, once 0x05 _ refl, refl), ((le32_octets b.modified, once 0x06 _ refl, refl), mid)) in
        let names : AllByRecursion (StandsOnce w) (drop 1 mandatory_items) =
        ((b.name, once 0x02 _ refl, name_len), ((b.ext, once 0x03 _ refl, ext_len), ((le32_octets file_size, once 0x04 _ refl, refl), times))) in
        ((0 ∷ (0 ∷ (0 ∷ (0 ∷ []))), once 0x01 _ refl, refl), names)

    size_at : content_of 0x04 (with_content 0x0A content (mandatory_saying b file_size body_sum body_offset) ++ b.others) ≡ le32_octets file_size
    unfolding mandatory_saying
    size_at = refl

    body_sum_at : content_of 0x09 (with_content 0x0A content (mandatory_saying b file_size body_sum body_offset) ++ b.others) ≡ le16_octets body_sum
    unfolding mandatory_saying
    body_sum_at = refl

    sum_at : content_of 0x0A (with_content 0x0A content (mandatory_saying b file_size body_sum body_offset) ++ b.others) ≡ content
    unfolding mandatory_saying
    sum_at = refl

    offset_at : content_of 0x0B (with_content 0x0A content (mandatory_saying b file_size body_sum body_offset) ++ b.others) ≡ le16_octets body_offset
    unfolding mandatory_saying
    offset_at = refl

  -- a file with the mandatory items, the others and the body keeps all rules, where what it says is so
  faultless : (body file first : List ℕ) (file_size body_sum body_offset sum : ℕ)
      → AreItems (with_content 0x0A (le16_octets sum) (mandatory_saying b file_size body_sum body_offset))
      → first ≡ header_start ++ items_text (with_content 0x0A (le16_octets sum) (mandatory_saying b file_size body_sum body_offset))
      → file ≡ ((first ++ octets) ++ end_item) ++ body → file_size ≡ 70 + length octets + 3 + length body → body_sum ≡ sum16 body
      → body_offset ≡ 70 + length octets + 3 → sum ≡ header_sum (items_saying b file_size body_sum body_offset) → body_offset ≤ 65535 → file_size ≤ 4194304
      → IsFaultless (with_content 0x0A (le16_octets sum) (mandatory_saying b file_size body_sum body_offset) ++ b.others) body file
  faultless body file first file_size body_sum body_offset sum are_items first_is file_is size_is body_is offset_is sum_is header_most file_most =
      let w : List ItemValue = with_content 0x0A (le16_octets sum) (mandatory_saying b file_size body_sum body_offset) in
      let len = len_header file_size body_sum body_offset (le16_octets sum) refl in
      let sum_below : sum < 65536 = below sum_is in
      let body_below : body_sum < 65536 = body_sum_below body_is in
      record {
        file_text = record {
          are_items = AreItems-append (with_content 0x0A (le16_octets sum) (mandatory_saying b file_size body_sum body_offset)) b.others are_items are.are_items;
          text =
              file_is
              ∙ ap (λ (t : List ℕ). ((t ++ octets) ++ end_item) ++ body) first_is
              ∙ ap (λ (t : List ℕ). (((header_start ++ items_text (with_content 0x0A (le16_octets sum) (mandatory_saying b file_size body_sum body_offset))) ++ t) ++ end_item) ++ body) are.text
              ∙ texts header_start (items_text (with_content 0x0A (le16_octets sum) (mandatory_saying b file_size body_sum body_offset))) (items_text b.others) end_item body
              ∙ ap (λ (t : List ℕ). (header_start ++ (t ++ end_item)) ++ body)
              (sym (items_text-append (with_content 0x0A (le16_octets sum) (mandatory_saying b file_size body_sum body_offset)) b.others));
        };
        mandatory =
            all_stand (with_content 0x0A (le16_octets sum) (mandatory_saying b file_size body_sum body_offset) ++ b.others) mandatory_items
            (all_once file_size body_sum body_offset (le16_octets sum) refl);
        fits = record {
          once = all_once file_size body_sum body_offset (le16_octets sum) refl;
          file_size =
              ap (λ (t : List ℕ). le32 t 0) (size_at file_size body_sum body_offset (le16_octets sum) refl)
              ∙ le32_of file_size (omega arith)
              ∙ size_is
              ∙ sym
              (length-append (header_text (with_content 0x0A (le16_octets sum) (mandatory_saying b file_size body_sum body_offset) ++ b.others)) body
              ∙ ap (λ (n : ℕ). n + length body) len);
          body_offset =
              ap (λ (t : List ℕ). le16 t 0) (offset_at file_size body_sum body_offset (le16_octets sum) refl) ∙ le16_of body_offset (omega arith) ∙ offset_is ∙ sym len;
        };
        header_sum =
            ap (λ (t : List ℕ). le16 t 0) (sum_at file_size body_sum body_offset (le16_octets sum) refl)
            ∙ le16_of sum sum_below
            ∙ sum_is
            ∙ sym (header_sum-renewed (le16_octets sum) (items_saying b file_size body_sum body_offset))
            ∙ ap header_sum (parts_with (le16_octets sum) file_size body_sum body_offset);
        body_sum =
            ap (λ (t : List ℕ). le16 t 0) (body_sum_at file_size body_sum body_offset (le16_octets sum) refl) ∙ le16_of body_sum body_below ∙ body_is;
      }
    where
      texts : (a b c d e : List ℕ) → (((a ++ b) ++ c) ++ d) ++ e ≡ (a ++ ((b ++ c) ++ d)) ++ e
      texts a b c d e = simp append_assoc

      below : sum ≡ header_sum (items_saying b file_size body_sum body_offset) → sum < 65536
      below same =
          subst (λ (n : ℕ). n < 65536) (sym same)
          (sum16_below (header_text (with_content 0x0A (0 ∷ (0 ∷ [])) (items_saying b file_size body_sum body_offset))))

      body_sum_below : body_sum ≡ sum16 body → body_sum < 65536
      body_sum_below same = subst (λ (n : ℕ). n < 65536) (sym same) (sum16_below body)

  -- the same with the items of the definition
  pub built_faultless : (body file first : List ℕ) (file_size body_sum body_offset sum : ℕ)
      → AreItems (with_content 0x0A (le16_octets sum) (mandatory_saying b file_size body_sum body_offset))
      → first ≡ header_start ++ items_text (with_content 0x0A (le16_octets sum) (mandatory_saying b file_size body_sum body_offset))
      → file ≡ ((first ++ octets) ++ end_item) ++ body → file_size ≡ built_file_len b body → body_sum ≡ sum16 body → body_offset ≡ built_len b
      → sum ≡ header_sum (items_saying b file_size body_sum body_offset) → body_offset ≤ 65535 → file_size ≤ 4194304
      → IsFaultless (built_items b body) body file
  built_faultless body file first file_size body_sum body_offset sum are_items first_is file_is size_is body_is offset_is sum_is header_most file_most =
      let len : 70 + length octets + 3 ≡ built_len b = built_len-is in
      subst (λ (l : List ItemValue). IsFaultless l body file)
      (sym (parts_with (le16_octets sum) file_size body_sum body_offset)
      ∙ ap (λ (n : ℕ). with_content 0x0A (le16_octets n) (items_saying b file_size body_sum body_offset)) sum_is
      ∙ ap (λ (n : ℕ). renewed (items_saying b n body_sum body_offset)) size_is
      ∙ ap (λ (n : ℕ). renewed (items_saying b (built_file_len b body) n body_offset)) body_is
      ∙ ap (λ (n : ℕ). renewed (items_saying b (built_file_len b body) (sum16 body) n)) offset_is)
      (faultless body file first file_size body_sum body_offset sum are_items first_is file_is
      (size_is ∙ ap (λ (n : ℕ). n + length body) (sym len)) body_is (offset_is ∙ sym len) sum_is header_most file_most)
