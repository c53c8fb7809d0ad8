-- A file without fault has none once it is stamped.
use Rattle.std.proofs.Common.{◌≡◌, ℕ, ◌+◌, ◌==◌, List, [], ◌∷◌, ◌++◌, length, map, Bool, true, false, cond, Option, None, refl, sym, ap, ◌∙◌, subst, arith, length-append}
use Rattle.pfh_writer.proofs.Names.{option_map, AllByRecursion, IsCall, le16, le16_octets, le32, sum16, FileFault, Number, MandatoryItem, IsFaultless, StandsOnce, code_of, content_of, fault_code, header_sum, items_with, with_content, ItemValue, AreItems, header_text, StampValue, stamped, stamped_item, stamped_items, mandatory_items, AreItems-stamped_items, first_fault-none, item_at, stamped-text, stamped_sum, given_data, given_item}
use Rattle.pfh_writer.proofs.FilledLemmas.{given_items, length-given_data, length-given_items}
use Rattle.pfh_writer.proofs.ItemsLemmas.{all_stand, content-once, header_sum-renewed, le16_of, sum16_below}
use Rattle.pfh_writer.proofs.StampedLemmas.{length-header}

-- ---- the items that a stamper gives

module _ (stamp : StampValue) (sum : ℕ) where
  items_with-given : (id : ℕ) (items : List ItemValue) → items_with id (map (given_item stamp sum) items) ≡ map (given_item stamp sum) (items_with id items)
  items_with-given id [] = refl
  items_with-given id (item ∷ items) = by (item.id == id) (items_with-given id items)
    where
      by : (b : Bool) → items_with id (map (given_item stamp sum) items) ≡ map (given_item stamp sum) (items_with id items)
          → cond b (given_item stamp sum item ∷ items_with id (map (given_item stamp sum) items)) (items_with id (map (given_item stamp sum) items))
          ≡ map (given_item stamp sum) (cond b (item ∷ items_with id items) (items_with id items))
      by true rest = ap (λ (l : List ItemValue). given_item stamp sum item ∷ l) rest
      by false rest = rest

  given_once : (items : List ItemValue) (rule : MandatoryItem) (once : StandsOnce items rule)
      → items_with rule.id (map (given_item stamp sum) items) ≡ item_at rule.id (given_data stamp sum rule.id (length once.0) once.0) ∷ []
  given_once items rule once = items_with-given rule.id items ∙ ap (map (given_item stamp sum)) once.1

  module _ (call : IsCall stamp.by) (items : List ItemValue) where
    given_len : (rule : MandatoryItem) (once : StandsOnce items rule) → length (given_data stamp sum rule.id (length once.0) once.0) ≡ rule.len
    given_len rule once = length-given_data stamp sum rule.id (length once.0) once.0 call refl ∙ once.2

    all_given_once : (rules : List MandatoryItem) → AllByRecursion (StandsOnce items) rules → AllByRecursion (StandsOnce (map (given_item stamp sum) items)) rules
    all_given_once [] once = tt
    all_given_once (rule ∷ rules) once =
        ((given_data stamp sum rule.id (length once.0.0) once.0.0, given_once items rule once.0, given_len rule once.0), all_given_once rules once.1)

    -- the data of an item that stands once, as it is given
    given_content : (rule : MandatoryItem) (once : StandsOnce items rule)
        → content_of rule.id (map (given_item stamp sum) items) ≡ given_data stamp sum rule.id (length once.0) once.0
    given_content rule once =
        content-once (map (given_item stamp sum) items) rule (given_data stamp sum rule.id (length once.0) once.0, given_once items rule once, given_len rule once)

-- ---- the stamped file

module _ (stamp : StampValue) (call : IsCall stamp.by) (items : List ItemValue) (body file : List ℕ) (is : IsFaultless items body file) where
  abbrev sum : ℕ
  sum = stamped_sum stamp items

  abbrev given : List ItemValue
  given = map (given_item stamp (stamped_sum stamp items)) items

  are_stamped : given ≡ stamped_items stamp items
  are_stamped = given_items stamp sum items body file is refl

  same_len : length (header_text given ++ body) ≡ length (header_text items ++ body)
  same_len = length-header given body ∙ ap (λ (n : ℕ). n + 5 + length body) (length-given_items stamp sum items call) ∙ sym (length-header items body)

  same_header_len : length (header_text given) ≡ length (header_text items)
  same_header_len =
      let all = same_len in
      omega (arith, length-append (header_text given) body, length-append (header_text items) body)

  -- an item that the server doesn't fill in has the same data
  same_content : (rule : MandatoryItem) (once : StandsOnce items rule) → given_data stamp sum rule.id (length once.0) once.0 ≡ once.0
      → content_of rule.id given ≡ content_of rule.id items
  same_content rule once same =
      given_content stamp sum call items rule once ∙ same ∙ sym (content-once items rule once)

  file_size : le32 (content_of 0x04 given) 0 ≡ length (header_text given ++ body)
  file_size =
      ap (λ (t : List ℕ). le32 t 0) (same_content (record { id = 0x04; len = 4; form = Number }) is.fits.once.1.1.1.0 refl)
      ∙ is.fits.file_size ∙ sym same_len

  body_offset : le16 (content_of 0x0B given) 0 ≡ length (header_text given)
  body_offset =
      ap (λ (t : List ℕ). le16 t 0) (same_content (record { id = 0x0B; len = 2; form = Number }) is.fits.once.1.1.1.1.1.1.1.1.1.1.0 refl)
      ∙ is.fits.body_offset ∙ sym same_header_len

  body_sum : le16 (content_of 0x09 given) 0 ≡ sum16 body
  body_sum =
      ap (λ (t : List ℕ). le16 t 0) (same_content (record { id = 0x09; len = 2; form = Number }) is.fits.once.1.1.1.1.1.1.1.1.0 refl)
      ∙ is.body_sum

  given_sum : le16 (content_of 0x0A given) 0 ≡ header_sum given
  given_sum =
      let rule : MandatoryItem = record { id = 0x0A; len = 2; form = Number } in
      let once = is.fits.once.1.1.1.1.1.1.1.1.1.0 in
      let data_is : given_data stamp sum 0x0A (length once.0) once.0 ≡ le16_octets sum = ap (λ (n : ℕ). given_data stamp sum 0x0A n once.0) once.2 in
      let below = sum16_below (header_text (with_content 0x0A (0 ∷ (0 ∷ [])) (map (stamped_item stamp) items))) in
      let new : header_sum given ≡ sum =
      ap header_sum are_stamped ∙ header_sum-renewed (le16_octets sum) (map (stamped_item stamp) items) in
      ap (λ (t : List ℕ). le16 t 0) (given_content stamp sum call items rule once ∙ data_is) ∙ le16_of sum below ∙ sym new

  faultless : IsFaultless given body (stamped stamp file)
  faultless =
      let once = all_given_once stamp sum call items mandatory_items is.fits.once in
      record {
        file_text = record {
          are_items = subst (λ (l : List ItemValue). AreItems l) (sym are_stamped) (AreItems-stamped_items stamp items call is.file_text.are_items);
          text = stamped-text stamp items body file is.file_text ∙ ap (λ (l : List ItemValue). header_text l ++ body) (sym are_stamped);
        };
        mandatory = all_stand given mandatory_items once;
        fits = record { once = once; file_size = file_size; body_offset = body_offset };
        header_sum = given_sum;
        body_sum = body_sum;
      }

  pub stamped-faultless : fault_code (stamped stamp file) ≡ None
  stamped-faultless = ap (λ (o : Option FileFault). option_map code_of o) (first_fault-none given body (stamped stamp file) faultless)
