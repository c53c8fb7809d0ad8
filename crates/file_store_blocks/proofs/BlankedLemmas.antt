-- The sum that a header has with its stamp, by what a stamper gives that puts zeros in place of the sum.
use Rattle.std.proofs.Common.{◌≡◌, ℕ, ◌+◌, ◌-◌, ◌%◌, ◌≤◌, ◌==◌, ◌&&◌, List, [], ◌∷◌, ◌++◌, length, map, take, drop, Bool, true, false, cond, sum, Option, Some, None, refl, sym, ap, ◌∙◌, subst, arith}
use Rattle.px_base.specs.Numbers.{le16_octets, le32_octets, sum16}
use Rattle.pfh_items.specs.declared.fault.FileFault.{FileFault}
use Rattle.pfh_items.specs.Walk.{ItemList, items_from, starts_whole}
use Rattle.pfh_items.specs.declared.items.Stop.TheVariants.{EndItem, Ran}
use Rattle.pfh_items.specs.declared.sums.Sums.{Sums}
use Rattle.pfh_reader.specs.Check.{HasSums}
use Rattle.pfh_writer.specs.Stamping.{StandsAt}
use Rattle.pfh_writer.specs.declared.stamper.Stage.{Stage}
use Rattle.pfh_writer.specs.declared.stamper.Stage.TheVariants.{Start, Begun, ItemStart, IdCut, IdRead, InData, Body}
use Rattle.file_store_blocks.proofs.Names.{AllByRecursion, unwrap_or, eq-eqb, false≢true, nat_tests, append_cancel_left, take_at, drop_at, sum_by-append, option_map, IsFaultless, code_of, fault_code, first_fault, items_with, with_content, AreItems, HeaderText, HeaderValue, ItemValue, end_item, header_start, header_text, items_text, StampValue, is_number_item, is_uploader_item, is_upload_time_item, stamped_item, after_start, file_parts-text, item_at, items_from-ran, items_from-whole, HasChecked, IsFaultCode, FileCheck, header_items, header_octets, parts_or_none, header-of, stamped_sum, IsCutData, PassesItems, given_item}

-- ---- the items that are given

-- each item of this id has data of this length
abbrev HasLen : ℕ → ℕ → ItemValue → Type 0
HasLen id len item = (item.id == id) ≡ true → length item.content ≡ len

-- what is true of the items of an id
each_of : (id : ℕ) (P : ItemValue → Type 0) (items : List ItemValue) → AllByRecursion P (items_with id items)
    → AllByRecursion (λ item. (item.id == id) ≡ true → P item) items
each_of id P [] all = tt
each_of id P (item ∷ items) all = by (each_of id P items) (item.id == id) refl all
  where
    by :
        (AllByRecursion P (items_with id items) → AllByRecursion (λ (i : ItemValue). (i.id == id) ≡ true → P i) items)
        → (b : Bool) → (item.id == id) ≡ b → AllByRecursion P (cond b (item ∷ items_with id items) (items_with id items))
        → ((item.id == id) ≡ true → P item) × AllByRecursion (λ (i : ItemValue). (i.id == id) ≡ true → P i) items
    by later true is all = (λ _. all.0, later all.1)
    by later false is all = (λ t. absurd (false≢true (sym is ∙ t)), later all)

module _ (items : List ItemValue) (body file : List ℕ) (is : IsFaultless items body file) where
  number_lens : AllByRecursion (HasLen 0x01 4) items
  number_lens =
      let once = is.fits.once.0 in
      each_of 0x01 (λ (i : ItemValue). length i.content ≡ 4) items
      (subst (AllByRecursion (λ (i : ItemValue). length i.content ≡ 4)) (sym once.1) (once.2, tt))

  sum_lens : AllByRecursion (HasLen 0x0A 2) items
  sum_lens =
      let once = is.fits.once.1.1.1.1.1.1.1.1.1.0 in
      each_of 0x0A (λ (i : ItemValue). length i.content ≡ 2) items
      (subst (AllByRecursion (λ (i : ItemValue). length i.content ≡ 2)) (sym once.1) (once.2, tt))

-- an item with two octets 0 as its data, if it is header_checksum
abbrev blank : ItemValue → ItemValue
blank item = cond (item.id == 0x0A) (item_at item.id (0 ∷ 0 ∷ [])) item

module _ (stamp : StampValue) where
  id-stamped : (item : ItemValue) → (stamped_item stamp item).id ≡ item.id
  id-stamped item = by (is_number_item item) (is_uploader_item item) (is_upload_time_item item)
    where
      by :
          (n u t : Bool)
          → (cond n (item_at item.id (le32_octets stamp.number))
          (cond u (item_at item.id stamp.by.chars) (cond t (item_at item.id (le32_octets stamp.moment)) item))).id
          ≡ item.id
      by true u t = refl
      by false true t = refl
      by false false true = refl
      by false false false = refl

  -- with zeros for the sum, what is given is the stamped item, blank if it is header_checksum
  blank_one : (item : ItemValue) → HasLen 0x01 4 item → HasLen 0x0A 2 item → given_item stamp 0 item ≡ blank (stamped_item stamp item)
  blank_one item number own =
      by (item.id == 0x0A) (length item.content == 2) (item.id == 0x01) (length item.content == 4) (is_uploader_item item)
      (is_upload_time_item item) (λ is. eq-eqb _ _ (own is)) (λ is. eq-eqb _ _ (number is))
      ∙ ap (λ (id : ℕ). cond (id == 0x0A) (item_at id (0 ∷ 0 ∷ [])) (stamped_item stamp item)) (sym (id-stamped item))
    where
      by :
          (z two n four u t : Bool) → (z ≡ true → two ≡ true) → (n ≡ true → four ≡ true)
          → item_at item.id
          (unwrap_or
          (cond (z && two) (Some (le16_octets 0))
          (cond (n && four) (Some (le32_octets stamp.number))
          (cond u (Some stamp.by.chars) (cond t (Some (le32_octets stamp.moment)) None))))
          item.content)
          ≡ cond z (item_at item.id (0 ∷ 0 ∷ []))
          (cond n (item_at item.id (le32_octets stamp.number))
          (cond u (item_at item.id stamp.by.chars) (cond t (item_at item.id (le32_octets stamp.moment)) item)))
      by true true n four u t own number = refl
      by true false n four u t own number = absurd (false≢true (own refl))
      by false two true true u t own number = refl
      by false two true false u t own number = absurd (false≢true (number refl))
      by false two false four true t own number = refl
      by false two false four false true own number = refl
      by false two false four false false own number = refl

  blank_all :
      (items : List ItemValue) → AllByRecursion (HasLen 0x01 4) items → AllByRecursion (HasLen 0x0A 2) items
      → map (given_item stamp 0) items ≡ with_content 0x0A (0 ∷ 0 ∷ []) (map (stamped_item stamp) items)
  blank_all [] numbers own = refl
  blank_all (item ∷ items) numbers own =
      ap (λ (i : ItemValue). i ∷ map (given_item stamp 0) items) (blank_one item numbers.0 own.0)
      ∙ ap (λ (l : List ItemValue). blank (stamped_item stamp item) ∷ l) (blank_all items numbers.1 own.1)

-- ---- the octets that are given

module _ (stamp : StampValue) (sum : ℕ) (items : List ItemValue) (body : List ℕ) (are : AreItems items) where
  -- if the items are read of a header with a body
  walk_whole : (fed : List ℕ) → fed ≡ header_text items ++ body
      → items_from 0 (drop 2 fed) ≡ record { items = items; stop = EndItem (0 + length (items_text items)) }
  walk_whole fed is =
      ap (λ (l : List ℕ). items_from 0 (drop 2 l)) (is ∙ after_start items body) ∙ items_from-whole items 0 body are

  -- these octets are a prefix of no whole header
  not_cut :
      (cut given_cut fed given : List ℕ) → PassesItems stamp sum cut given_cut fed given → starts_whole cut ≡ false
      → fed ≡ header_text items ++ body → ⊥
  not_cut cut given_cut fed given p short is =
      other
      (sym
      (ap (λ (l : List ℕ). (items_from 0 (drop 2 l)).stop) p.fed_text
      ∙ ap (λ (l : List ℕ). (items_from 0 l).stop) (drop_at p.start (items_text p.items ++ cut) 2 p.two)
      ∙ ap (λ (w : ItemList). w.stop) (items_from-ran p.items 0 cut p.are_items short))
      ∙ ap (λ (w : ItemList). w.stop) (walk_whole fed is))
    where
      other : {n m : ℕ} → Ran n ≡ EndItem m → ⊥
      other e = cc

  in_body :
      (rest fed given : List ℕ) → PassesItems stamp sum (end_item ++ rest) (end_item ++ rest) fed given
      → fed ≡ header_text items ++ body → given ≡ header_text (map (given_item stamp sum) items) ++ body
  in_body rest fed given p is =
      let g : ItemValue → ItemValue = given_item stamp sum in
      let whole : p.start ++ (items_text p.items ++ (end_item ++ rest)) ≡ header_start ++ (items_text items ++ (end_item ++ body)) =
      sym p.fed_text ∙ is ∙ after_start items body in
      let start_is : p.start ≡ header_start =
      sym (take_at p.start (items_text p.items ++ (end_item ++ rest)) 2 p.two) ∙ ap (λ (l : List ℕ). take 2 l) whole in
      let behind : items_text p.items ++ (end_item ++ rest) ≡ items_text items ++ (end_item ++ body) =
      sym (drop_at p.start (items_text p.items ++ (end_item ++ rest)) 2 p.two) ∙ ap (λ (l : List ℕ). drop 2 l) whole in
      let same_items : p.items ≡ items =
      sym (ap (λ (w : ItemList). w.items) (items_from-whole p.items 0 rest p.are_items))
      ∙ ap (λ (l : List ℕ). (items_from 0 l).items) behind
      ∙ ap (λ (w : ItemList). w.items) (items_from-whole items 0 body are) in
      let ends : end_item ++ rest ≡ end_item ++ body =
      append_cancel_left (items_text items) (end_item ++ rest) (end_item ++ body)
      (ap (λ (l : List ItemValue). items_text l ++ (end_item ++ rest)) (sym same_items) ∙ behind) in
      p.given_text
      ∙ ap (λ (l : List ℕ). l ++ (items_text (map (given_item stamp sum) p.items) ++ (end_item ++ rest))) start_is
      ∙ ap (λ (l : List ItemValue). header_start ++ (items_text (map (given_item stamp sum) l) ++ (end_item ++ rest))) same_items
      ∙ ap (λ (l : List ℕ). header_start ++ (items_text (map (given_item stamp sum) items) ++ l)) ends
      ∙ sym (after_start (map (given_item stamp sum) items) body)

  -- what is given in place of a header with a body
  pub given_whole :
      (stage : Stage) (fed given : List ℕ) → StandsAt stamp sum stage fed given → fed ≡ header_text items ++ body
      → given ≡ header_text (map (given_item stamp sum) items) ++ body
  given_whole Start fed given (none, given_none) is = absurd (let e : [] ≡ header_text items ++ body = sym none ∙ is in cc)
  given_whole Begun fed given (one, same) is = absurd (omega (arith, one, ap (λ (l : List ℕ). length l) is))
  given_whole ItemStart fed given p is = absurd (not_cut [] [] fed given p refl is)
  given_whole (IdCut low) fed given (below, p) is = absurd (not_cut (low ∷ []) (low ∷ []) fed given p refl is)
  given_whole (IdRead id) fed given (below, p) is = absurd (not_cut (le16_octets id) (le16_octets id) fed given p refl is)
  given_whole (InData id len at) fed given (content, cut, p) is = absurd (not_cut _ _ fed given p (data_cut id len at content cut) is)
    where
      data_cut : (id len at : ℕ) (content : List ℕ) → IsCutData id len at content → starts_whole (le16_octets id ++ len ∷ content) ≡ false
      data_cut id len at content cut =
          let below = cut.at_below in
          let there = cut.content_len in
          grind (arith, nat_tests)
  given_whole Body fed given (rest, p) is = in_body rest fed given p is

-- ---- the sum

sum-append : (xs ys : List ℕ) → sum (xs ++ ys) ≡ sum xs + sum ys
sum-append xs ys = sum_by-append (λ (x : ℕ). x) xs ys

-- The sum of what a stamper gave in place of a file without fault, without that of its body, is the stamped header's.
pub blanked_sum :
    (stamp : StampValue) (stage : Stage) (items : List ItemValue) (body fed given : List ℕ) (total own : ℕ)
    → IsFaultless items body fed → StandsAt stamp 0 stage fed given → total ≡ sum16 given → own ≡ sum16 body
    → (total + (65536 - own)) % 65536 ≡ stamped_sum stamp items
blanked_sum stamp stage items body fed given total own is stands total_is own_is =
    let blanked : List ItemValue = with_content 0x0A (0 ∷ 0 ∷ []) (map (stamped_item stamp) items) in
    let text : given ≡ header_text (with_content 0x0A (0 ∷ 0 ∷ []) (map (stamped_item stamp) items)) ++ body =
    given_whole stamp 0 items body is.file_text.are_items stage fed given stands is.file_text.text
    ∙ ap (λ (l : List ItemValue). header_text l ++ body)
    (blank_all stamp items (number_lens items body fed is) (sum_lens items body fed is)) in
    numbers (sum (header_text (with_content 0x0A (0 ∷ 0 ∷ []) (map (stamped_item stamp) items)))) (sum body) total own
    (total_is
    ∙ ap (λ (l : List ℕ). sum l % 65536) text
    ∙ ap (λ (n : ℕ). n % 65536) (sum-append (header_text (with_content 0x0A (0 ∷ 0 ∷ []) (map (stamped_item stamp) items))) body))
    own_is
  where
    numbers : (header body total own : ℕ) → total ≡ (header + body) % 65536 → own ≡ body % 65536
        → (total + (65536 - own)) % 65536 ≡ header % 65536
    numbers header body total own one two = omega arith

-- what a check answers of a file without fault
pub seal_sum :
    (stamp : StampValue) (check : FileCheck) (fed : List ℕ) (sums : Sums)
    → HasChecked stamp check fed → HasSums fed sums → (check.sum + (65536 - sums.body_sum)) % 65536 ≡ stamped_sum stamp (header_items fed)
seal_sum stamp check fed sums has (items, body, is, are) =
    let stands : StandsAt stamp 0 check.stamper.stage fed has.given =
    subst (λ (n : ℕ). StandsAt stamp n check.stamper.stage fed has.given) has.blank
    (subst (λ (s : StampValue). StandsAt s check.stamper.sum check.stamper.stage fed has.given) has.stamp_is has.stamped.stands) in
    blanked_sum stamp check.stamper.stage items body fed has.given check.sum sums.body_sum is stands has.sum_is are.body_sum
    ∙ ap (λ (p : Option HeaderValue). stamped_sum stamp (parts_or_none p).items) (sym (file_parts-text items body fed is.file_text))

pub sealed_len : (fed : List ℕ) (sums : Sums) → HasSums fed sums → sums.header_len ≡ length (header_octets fed)
sealed_len fed sums (items, body, is, are) =
    are.header_len
    ∙ ap (λ (p : Option HeaderValue). length (header_text (parts_or_none p).items)) (sym (file_parts-text items body fed is.file_text))

-- that length is in two octets
pub sealed_short : (fed : List ℕ) (sums : Sums) → HasSums fed sums → sums.header_len ≤ 65535
sealed_short fed sums (items, body, is, are) =
    let text : HeaderText items (header_text items) = record { are_items = is.file_text.are_items; text = refl } in
    omega (arith, are.header_len, (header-of items body fed (header_text items) is text).short)

-- a code that is found is one of a fault
pub code_found : (octets : List ℕ) (code : ℕ) → fault_code octets ≡ Some code → IsFaultCode code
code_found octets code found = by (first_fault octets) found
  where
    by : (o : Option FileFault) → option_map code_of o ≡ Some code → IsFaultCode code
    by None is = absurd (none is)
      where
        none : None ≡ Some code → ⊥
        none e = cc
    by (Some fault) is = (fault, let same : code_of fault ≡ code = cc in sym same)
