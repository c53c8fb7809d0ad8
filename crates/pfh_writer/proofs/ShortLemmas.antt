-- The rules of the mandatory items, one after another.
use Rattle.std.proofs.Common.{◌≡◌, ℕ, ◌+◌, ◌<◌, List, [], ◌∷◌, ◌++◌, length, take, drop, get_or, map, sym, ap, ◌∙◌, subst, arith, append_assoc, length-append, lit<, lit≤}
use Rattle.std.proofs.Math.Seq.{drop-append_seam, take-append_seam}
use Rattle.pfh_items.specs.declared.table.Form.{Form}
use Rattle.pfh_writer.proofs.Names.{AllByRecursion, append-nil, take_more, drop_more, map_push, le16_octets, StandsOnce, content_of, AreItems, HeaderText, IsItem, ItemValue, end_item, header_start, header_text, item_text, items_text, mandatory_items, Number, Text, MandatoryItem, IsOctets-le16, HasEachOnce, short_item}
use Rattle.pfh_writer.proofs.ItemsLemmas.{AreItems-append, content-once, items_text-append, length-items_text}

-- the length of these items' texts
abbrev pub rules_len : List MandatoryItem → ℕ
rules_len [] = 0
rules_len (rule ∷ rules) = (3 + rule.len) + rules_len rules

module _ (f : MandatoryItem → ItemValue) (rules : List MandatoryItem) (i : ℕ) (d : MandatoryItem) (within : i < length rules) where
  pub rule_now : (P : MandatoryItem → Type 0) → AllByRecursion P (drop i rules) → P (get_or rules i d) × AllByRecursion P (drop (i + 1) rules)
  rule_now P h = let both = subst (AllByRecursion P) (drop_more rules i d within) h in (both.0, both.1)

  pub rules_len_now : rules_len (drop i rules) ≡ (3 + (get_or rules i d).len) + rules_len (drop (i + 1) rules)
  rules_len_now = ap rules_len (drop_more rules i d within)

  pub room_more : (before after : ℕ) → before + rules_len (drop i rules) ≡ 70 → after ≡ before + (3 + (get_or rules i d).len)
      → after + rules_len (drop (i + 1) rules) ≡ 70
  room_more before after was now = let one = rules_len_now in omega arith

  items_more : map f (take (i + 1) rules) ≡ map f (take i rules) ++ f (get_or rules i d) ∷ []
  items_more = ap (λ (l : List MandatoryItem). map f l) (take_more rules i d within) ∙ map_push f (take i rules) (get_or rules i d)

  pub text_more : (before after start : List ℕ) → before ≡ start ++ items_text (map f (take i rules)) → after ≡ before ++ item_text (f (get_or rules i d))
      → after ≡ start ++ items_text (map f (take (i + 1) rules))
  text_more before after start was now =
      now
      ∙ ap (λ (t : List ℕ). t ++ item_text (f (get_or rules i d))) was
      ∙ append_assoc start (items_text (map f (take i rules))) (item_text (f (get_or rules i d)))
      ∙ ap (λ (t : List ℕ). start ++ t)
      (sym
      (ap items_text items_more
      ∙ items_text-append (map f (take i rules)) (f (get_or rules i d) ∷ [])
      ∙ ap (λ (t : List ℕ). items_text (map f (take i rules)) ++ t) (append-nil (item_text (f (get_or rules i d))))))

  pub are_more : AreItems (map f (take i rules)) → IsItem (f (get_or rules i d)) → AreItems (map f (take (i + 1) rules))
  are_more are is = subst AreItems (sym items_more) (AreItems-append (map f (take i rules)) (f (get_or rules i d) ∷ []) are (is, tt))

-- ---- the sum of a short form

module _ (items : List ItemValue) where
  -- the rules before that of header_checksum, and that behind it
  abbrev firsts : List MandatoryItem
  firsts = take 9 mandatory_items

  abbrev last : ItemValue
  last = record { id = 0x0B; content = content_of 0x0B items }

  -- the short form with this sum
  abbrev pub with_sum : ℕ → List ItemValue
  with_sum sum = map (short_item items sum) mandatory_items

  -- what stands before the sum in a short form, and behind it
  abbrev before-sum : List ℕ
  before-sum = header_start ++ (items_text (map (short_item items 0) firsts) ++ 0x0A ∷ 0 ∷ 2 ∷ [])

  abbrev behind-sum : List ℕ
  behind-sum = items_text (last ∷ []) ++ end_item

  -- a short form is what stands before its sum, the sum, and what stands behind it
  text-parts : (sum : ℕ) → header_text (with_sum sum) ≡ before-sum ++ (le16_octets sum ++ behind-sum)
  text-parts sum =
      let front = items_text (map (short_item items 0) firsts) in
      let sum_item : List ℕ = 0x0A ∷ 0 ∷ 2 ∷ le16_octets sum in
      ap (λ (t : List ℕ). header_start ++ (t ++ end_item)) (items_text-append (map (short_item items 0) firsts) (record { id = 0x0A; content = le16_octets sum } ∷ last ∷ []))
      ∙ ap (λ (t : List ℕ). header_start ++ t)
      (append_assoc front (sum_item ++ items_text (last ∷ [])) end_item ∙ sym (append_assoc front (0x0A ∷ 0 ∷ 2 ∷ []) (le16_octets sum ++ behind-sum)))

  content-len : (form : Form) (id n : ℕ) → StandsOnce items (record { id = id; len = n; form = form }) → length (content_of id items) ≡ n
  content-len form id n once = ap length (content-once items (record { id = id; len = n; form = form }) once) ∙ once.2

  module _ (once : HasEachOnce items) where
    before-len : length before-sum ≡ 63
    before-len =
        let o = once in
        let front = items_text (map (short_item items 0) firsts) in
        omega (
          arith,
          length-items_text (map (short_item items 0) firsts),
          length-append header_start (front ++ 0x0A ∷ 0 ∷ 2 ∷ []),
          length-append front (0x0A ∷ 0 ∷ 2 ∷ []),
          content-len Number 1 4 o.0,
          content-len Text 2 8 o.1.0,
          content-len Text 3 3 o.1.1.0,
          content-len Number 4 4 o.1.1.1.0,
          content-len Number 5 4 o.1.1.1.1.0,
          content-len Number 6 4 o.1.1.1.1.1.0,
          content-len Number 7 1 o.1.1.1.1.1.1.0,
          content-len Number 8 1 o.1.1.1.1.1.1.1.0,
          content-len Number 9 2 o.1.1.1.1.1.1.1.1.0,
        )

    -- the short form with sum 0, in which another sum is put in its place
    pub sum-put : (form : List ℕ) (sum : ℕ) → HeaderText (with_sum 0) form → HeaderText (with_sum sum) (take 63 form ++ (le16_octets sum ++ drop 2 (drop 63 form)))
    sum-put form sum is =
        let are = is.are_items in
        let sum_item : IsItem (record { id = 0x0A; content = le16_octets sum }) =
        record { id = lit< tt; octets = IsOctets-le16 sum; most = lit≤ tt; no_end = λ e. absurd (omega (arith, e)) } in
        let parts : form ≡ before-sum ++ (0 ∷ 0 ∷ behind-sum) = is.text ∙ text-parts 0 in
        let n = before-len in
        let front : take 63 form ≡ before-sum = ap (take 63) parts ∙ subst (λ (m : ℕ). take m (before-sum ++ (0 ∷ 0 ∷ behind-sum)) ≡ before-sum) n (take-append_seam before-sum (0 ∷ 0 ∷ behind-sum)) in
        let back : drop 2 (drop 63 form) ≡ behind-sum =
        ap (λ (xs : List ℕ). drop 2 (drop 63 xs)) parts
        ∙ ap (drop 2) (subst (λ (m : ℕ). drop m (before-sum ++ (0 ∷ 0 ∷ behind-sum)) ≡ 0 ∷ 0 ∷ behind-sum) n (drop-append_seam before-sum (0 ∷ 0 ∷ behind-sum))) in
        record {
          are_items = (are.0, (are.1.0, (are.1.1.0, (are.1.1.1.0, (are.1.1.1.1.0, (are.1.1.1.1.1.0, (are.1.1.1.1.1.1.0, (are.1.1.1.1.1.1.1.0, (are.1.1.1.1.1.1.1.1.0, (sum_item, (are.1.1.1.1.1.1.1.1.1.1.0, tt)))))))))));
          text = ap (λ (xs : List ℕ). xs ++ (le16_octets sum ++ drop 2 (drop 63 form))) front ∙ ap (λ (xs : List ℕ). before-sum ++ (le16_octets sum ++ xs)) back ∙ sym (text-parts sum);
        }
