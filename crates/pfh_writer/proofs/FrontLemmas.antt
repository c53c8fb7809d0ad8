-- What a stamper gave is the front of the stamped file.
use Rattle.std.proofs.Common.{◌≡◌, ℕ, suc, ◌+◌, ◌/◌, ◌%◌, ◌≤◌, List, [], ◌∷◌, ◌++◌, length, map, take, drop, Option, Some, None, refl, sym, ap, ◌∙◌, subst, arith, append_assoc, length-append, zero-add}
use Rattle.pfh_writer.proofs.Names.{unwrap_or, append-nil, take_all, take_at, drop_at, take-append-le, map-append, IsCall, le16_octets, IsFaultless, ItemValue, AreItems, item_text, items_text, end_item, header_start, StampValue, stamped_items, stamped, after_start, stamped-text, Stage, Start, Begun, ItemStart, IdCut, IdRead, InData, Body, stamped_sum, fixed_data, given_data, given_item, PassesItems, IsCutData, StandsAt, StamperValue, HasStamped}
use Rattle.pfh_writer.proofs.ItemsLemmas.{items_text-append, Splits, splits, no_end_item}
use Rattle.pfh_writer.proofs.StepLemmas.{passes_more, StampsOn}
use Rattle.pfh_writer.proofs.FilledLemmas.{given_items, length-given_items, length-given_data}

-- as many octets as a list has and some more, of that list and others
take_past : (front : List ℕ) (n : ℕ) (later : List ℕ) → take (length front + n) (front ++ later) ≡ front ++ take n later
take_past [] n later = ap (λ (k : ℕ). take k later) (zero-add n)
take_past (x ∷ front) n later = ap (λ (k : ℕ). take k (x ∷ (front ++ later))) (suc-add (length front) n) ∙ ap (λ (t : List ℕ). x ∷ t) (take_past front n later)
  where
    suc-add : (a b : ℕ) → suc a + b ≡ suc (a + b)
    suc-add a b = omega arith

module _ (stamp : StampValue) (sum : ℕ) where
  -- Where what is cut is the front of the items that come and of the end item, what is given is the front of those given.
  abbrev IsFrontly : List ℕ → List ℕ → Type 0
  IsFrontly cut given_cut =
      (after : List ItemValue) (body more : List ℕ) → AreItems after → cut ++ more ≡ items_text after ++ (end_item ++ body)
      → given_cut ≡ take (length cut) (items_text (map (given_item stamp sum) after) ++ (end_item ++ body))

  id_cut : (low : ℕ) → IsFrontly (low ∷ []) (low ∷ [])
  id_cut low [] body more are same = let first : low ≡ 0 = cc in ap (λ (n : ℕ). n ∷ []) first
  id_cut low (item ∷ after) body more are same = let first : low ≡ item.id % 256 = cc in ap (λ (n : ℕ). n ∷ []) first

  id_read : (id : ℕ) → IsFrontly (le16_octets id) (le16_octets id)
  id_read id [] body more are same =
      let first : id % 256 ≡ 0 = cc in
      let second : id / 256 % 256 ≡ 0 = cc in
      ap (λ (n : ℕ). n ∷ (id / 256 % 256 ∷ [])) first ∙ ap (λ (n : ℕ). 0 ∷ (n ∷ [])) second
  id_read id (item ∷ after) body more are same =
      let first : id % 256 ≡ item.id % 256 = cc in
      let second : id / 256 % 256 ≡ item.id / 256 % 256 = cc in
      ap (λ (n : ℕ). n ∷ (id / 256 % 256 ∷ [])) first ∙ ap (λ (n : ℕ). item.id % 256 ∷ (n ∷ [])) second

  -- the front of data is given as the front of what is given
  data_front : (id len at : ℕ) (content other : List ℕ) → length content ≡ at → content ≡ take at other
      → take at (given_data stamp sum id len content) ≡ take at (given_data stamp sum id len other)
  data_front id len at content other len_is same = by (fixed_data stamp sum id len)
    where
      by : (found : Option (List ℕ)) → take at (unwrap_or found content) ≡ take at (unwrap_or found other)
      by None = take_all at content (omega arith) ∙ same
      by (Some octets) = refl

  in_data : (id len at : ℕ) (content : List ℕ) → IsCall stamp.by → IsCutData id len at content
      → IsFrontly (le16_octets id ++ len ∷ content) (le16_octets id ++ len ∷ take at (given_data stamp sum id len content))
  in_data id len at content call is [] body more are same =
      let third : len ≡ 0 = cc in
      let below = is.at_below in
      absurd (omega arith)
  in_data id len at content call is (item ∷ after) body more are same =
      let first : id % 256 ≡ item.id % 256 = cc in
      let second : id / 256 % 256 ≡ item.id / 256 % 256 = cc in
      let third : len ≡ length item.content = cc in
      let rest : content ++ more ≡ (item.content ++ items_text after) ++ (end_item ++ body) = cc in
      let id_below = is.id_below in
      let item_below = are.0.id in
      let at_below = is.at_below in
      let same_id : id ≡ item.id = omega arith in
      data_part item after body more id len at content call is same_id third rest
    where
      data_part : (item : ItemValue) (after : List ItemValue) (body more : List ℕ) (id len at : ℕ) (content : List ℕ) → IsCall stamp.by
          → IsCutData id len at content → id ≡ item.id → len ≡ length item.content
          → content ++ more ≡ (item.content ++ items_text after) ++ (end_item ++ body)
          → le16_octets id ++ len ∷ take at (given_data stamp sum id len content)
          ≡ take (length (le16_octets id ++ len ∷ content)) (items_text (map (given_item stamp sum) (item ∷ after)) ++ (end_item ++ body))
      data_part item after body more id len at content call is same_id same_len rest =
          let at_below = is.at_below in
          let within : at ≤ length item.content = omega arith in
          let within_more : at ≤ length (item.content ++ items_text after) = omega (arith, length-append item.content (items_text after)) in
          let content_is : content ≡ take at item.content =
          sym (take_at content more at is.content_len)
          ∙ ap (λ (t : List ℕ). take at t) rest
          ∙ take-append-le at (item.content ++ items_text after) (end_item ++ body) within_more
          ∙ take-append-le at item.content (items_text after) within in
          let given : List ℕ = given_data stamp sum item.id (length item.content) item.content in
          let given_len : length (given_data stamp sum item.id (length item.content) item.content) ≡ length item.content =
          length-given_data stamp sum item.id (length item.content) item.content call refl in
          let build : ℕ → ℕ → List ℕ → List ℕ = λ i l t. le16_octets i ++ l ∷ t in
          let later : List ℕ = items_text (map (given_item stamp sum) after) in
          ap (λ (t : List ℕ). build id len t) (data_front id len at content item.content is.content_len content_is)
          ∙ ap (λ (i : ℕ). build i len (take at (given_data stamp sum i len item.content))) same_id
          ∙ ap (λ (l : ℕ). build item.id len (take at (given_data stamp sum item.id l item.content))) same_len
          ∙ ap (λ (l : ℕ). build item.id l (take at (given_data stamp sum item.id (length item.content) item.content))) (same_len ∙ sym given_len)
          ∙ ap (λ (t : List ℕ). build item.id (length (given_data stamp sum item.id (length item.content) item.content)) t)
          (sym (take-append-le at (given_data stamp sum item.id (length item.content) item.content) (items_text (map (given_item stamp sum) after)) (omega arith))
          ∙ sym
          (take-append-le at (given_data stamp sum item.id (length item.content) item.content ++ items_text (map (given_item stamp sum) after)) (end_item ++ body)
          (omega (arith, length-append (given_data stamp sum item.id (length item.content) item.content) (items_text (map (given_item stamp sum) after)))))
          ∙ ap
          (λ (n : ℕ). take n ((given_data stamp sum item.id (length item.content) item.content ++ items_text (map (given_item stamp sum) after)) ++ (end_item ++ body)))
          (sym is.content_len))

  in_body : (front : List ℕ) → IsFrontly (end_item ++ front) (end_item ++ front)
  in_body front [] body more are same =
      let rest : front ++ more ≡ body = cc in
      ap (λ (t : List ℕ). end_item ++ t) (sym (take_at front more (length front) refl) ∙ ap (λ (t : List ℕ). take (length front) t) rest)
  in_body front (item ∷ after) body more are same =
      absurd
      (no_end_item item (items_text after ++ (end_item ++ body)) (front ++ more) are.0
      (sym (append_assoc (item_text item) (items_text after) (end_item ++ body)) ∙ sym same))

  -- the octets of a stamped file, by its items before and after
  pub stamped_parts_text : (items before after : List ItemValue) (body file : List ℕ) → IsFaultless items body file → sum ≡ stamped_sum stamp items
      → items ≡ before ++ after
      → stamped stamp file
      ≡ (header_start ++ items_text (map (given_item stamp sum) before)) ++ (items_text (map (given_item stamp sum) after) ++ (end_item ++ body))
  stamped_parts_text items before after body file is right parts =
      let g : ItemValue → ItemValue = given_item stamp sum in
      stamped-text stamp items body file is.file_text
      ∙ after_start (stamped_items stamp items) body
      ∙ ap (λ (l : List ItemValue). header_start ++ (items_text l ++ (end_item ++ body)))
      (sym (given_items stamp sum items body file is right)
      ∙ ap (λ (l : List ItemValue). map (given_item stamp sum) l) parts
      ∙ map-append (given_item stamp sum) before after)
      ∙ ap (λ (t : List ℕ). header_start ++ (t ++ (end_item ++ body))) (items_text-append (map (given_item stamp sum) before) (map (given_item stamp sum) after))
      ∙ ap (λ (t : List ℕ). header_start ++ t)
      (append_assoc (items_text (map (given_item stamp sum) before)) (items_text (map (given_item stamp sum) after)) (end_item ++ body))

  -- the front of the stamped file is given where items were passed
  passes_front : (cut given_cut fed given : List ℕ) → IsCall stamp.by → PassesItems stamp sum cut given_cut fed given → IsFrontly cut given_cut
      → (items : List ItemValue) (body more : List ℕ) → IsFaultless items body (fed ++ more) → sum ≡ stamped_sum stamp items
      → given ≡ take (length fed) (stamped stamp (fed ++ more))
  passes_front cut given_cut fed given call p frontly items body more is right =
      let whole : p.start ++ (items_text p.items ++ (cut ++ more)) ≡ header_start ++ (items_text items ++ (end_item ++ body)) =
      sym (ap (λ (t : List ℕ). t ++ more) p.fed_text ∙ append_assoc p.start (items_text p.items ++ cut) more ∙ ap (λ (t : List ℕ). p.start ++ t) (append_assoc (items_text p.items) cut more))
      ∙ is.file_text.text
      ∙ after_start items body in
      let start_is : p.start ≡ header_start =
      sym (take_at p.start (items_text p.items ++ (cut ++ more)) 2 p.two) ∙ ap (λ (t : List ℕ). take 2 t) whole in
      let rest : items_text p.items ++ (cut ++ more) ≡ items_text items ++ (end_item ++ body) =
      sym (drop_at p.start (items_text p.items ++ (cut ++ more)) 2 p.two) ∙ ap (λ (t : List ℕ). drop 2 t) whole in
      let parts : Splits p.items items (cut ++ more) body = splits p.items items (cut ++ more) body p.are_items is.file_text.are_items rest in
      let front : List ℕ = header_start ++ items_text (map (given_item stamp sum) p.items) in
      let len : length fed ≡ length (header_start ++ items_text (map (given_item stamp sum) p.items)) + length cut =
      ap length p.fed_text
      ∙ omega
      (arith, length-append p.start (items_text p.items ++ cut), length-append (items_text p.items) cut, length-given_items stamp sum p.items call, p.two) in
      p.given_text
      ∙ ap (λ (t : List ℕ). t ++ (items_text (map (given_item stamp sum) p.items) ++ given_cut)) start_is
      ∙ ap (λ (t : List ℕ). (header_start ++ items_text (map (given_item stamp sum) p.items)) ++ t) (frontly parts.after body more parts.are_items parts.text)
      ∙ sym
      (ap (λ (t : List ℕ). take (length fed) t) (stamped_parts_text items p.items parts.after body (fed ++ more) is right parts.items_are)
      ∙ ap
      (λ (n : ℕ). take n ((header_start ++ items_text (map (given_item stamp sum) p.items)) ++ (items_text (map (given_item stamp sum) parts.after) ++ (end_item ++ body))))
      len
      ∙ take_past (header_start ++ items_text (map (given_item stamp sum) p.items)) (length cut) (items_text (map (given_item stamp sum) parts.after) ++ (end_item ++ body)))

  -- a stamped file begins with AA
  stamped_begins : (items : List ItemValue) (body file : List ℕ) → IsFaultless items body file → sum ≡ stamped_sum stamp items
      → take 1 (stamped stamp file) ≡ 0xAA ∷ []
  stamped_begins items body file is right =
      ap (λ (t : List ℕ). take 1 t) (stamped_parts_text items [] items body file is right refl)

  -- what is given is the front of the stamped file
  pub front : (stage : Stage) (fed given : List ℕ) → IsCall stamp.by → StandsAt stamp sum stage fed given
      → (items : List ItemValue) (body more : List ℕ) → IsFaultless items body (fed ++ more) → sum ≡ stamped_sum stamp items
      → given ≡ take (length fed) (stamped stamp (fed ++ more))
  front Start fed given call (none, given_none) items body more is right =
      given_none ∙ sym (ap (λ (t : List ℕ). take (length t) (stamped stamp (fed ++ more))) none)
  front Begun fed given call (one, same) items body more is right =
      same
      ∙ sym (take_at fed more 1 one)
      ∙ ap (λ (t : List ℕ). take 1 t) (is.file_text.text ∙ after_start items body)
      ∙ sym (stamped_begins items body (fed ++ more) is right)
      ∙ ap (λ (n : ℕ). take n (stamped stamp (fed ++ more))) (sym one)
  front ItemStart fed given call p items body more is right =
      passes_front [] [] fed given call p (λ after rest later are same. refl) items body more is right
  front (IdCut low) fed given call (below, p) items body more is right =
      passes_front (low ∷ []) (low ∷ []) fed given call p (id_cut low) items body more is right
  front (IdRead id) fed given call (below, p) items body more is right =
      passes_front (le16_octets id) (le16_octets id) fed given call p (id_read id) items body more is right
  front (InData id len at) fed given call (content, cut, p) items body more is right =
      passes_front (le16_octets id ++ len ∷ content) (le16_octets id ++ len ∷ take at (given_data stamp sum id len content)) fed given call p
      (in_data id len at content call cut) items body more is right
  front Body fed given call (passed, p) items body more is right =
      passes_front (end_item ++ passed) (end_item ++ passed) fed given call p (in_body passed) items body more is right

  -- a stamped file is as long as before
  pub length-stamped : (items : List ItemValue) (body file : List ℕ) → IsCall stamp.by → IsFaultless items body file → sum ≡ stamped_sum stamp items
      → length (stamped stamp file) ≡ length file
  length-stamped items body file call is right =
      ap length (stamped_parts_text items [] items body file is right refl)
      ∙ omega (
        arith,
        length-append (items_text (map (given_item stamp sum) items)) (end_item ++ body),
        length-append (items_text items) (end_item ++ body),
        length-given_items stamp sum items call,
        ap length (is.file_text.text ∙ after_start items body),
      )

  pub whole : (stage : Stage) (fed given : List ℕ) → IsCall stamp.by → StandsAt stamp sum stage fed given
      → (items : List ItemValue) (body : List ℕ) → IsFaultless items body fed → sum ≡ stamped_sum stamp items → given ≡ stamped stamp fed
  whole stage fed given call stands items body is right =
      let all : fed ++ [] ≡ fed = append-nil fed in
      let is_all : IsFaultless items body (fed ++ []) = subst (λ (t : List ℕ). IsFaultless items body t) (sym (append-nil fed)) is in
      let len = length-stamped items body fed call is right in
      front stage fed given call stands items body [] is_all right
      ∙ ap (λ (t : List ℕ). take (length fed) (stamped stamp t)) (append-nil fed)
      ∙ take_all (length fed) (stamped stamp fed) (omega arith)

-- what a stamper stands for, by its stage
pub has_stamped : (stamper : StamperValue) (fed given : List ℕ) → IsCall stamper.stamp.by
    → StandsAt stamper.stamp stamper.sum stamper.stage fed given → HasStamped stamper fed given
has_stamped stamper fed given call stands = record {
  call = call;
  stands = stands;
  front = front stamper.stamp stamper.sum stamper.stage fed given call stands;
  whole = whole stamper.stamp stamper.sum stamper.stage fed given call stands;
}

-- the state is after a run from an old one
pub stamps_all : (old now : StamperValue) (fed given octets given_octets : List ℕ) → StampsOn old now octets given_octets → HasStamped old fed given
    → HasStamped now (fed ++ octets) (given ++ given_octets)
stamps_all old now fed given octets given_octets on h =
    has_stamped now (fed ++ octets) (given ++ given_octets) (subst (λ (s : StampValue). IsCall s.by) (sym on.stamp) h.call)
    (subst (λ (s : StampValue). StandsAt s now.sum now.stage (fed ++ octets) (given ++ given_octets)) (sym on.stamp)
    (subst (λ (n : ℕ). StandsAt old.stamp n now.stage (fed ++ octets) (given ++ given_octets)) (sym on.sum) (on.stands fed given h.call h.stands)))

-- in the body all octets stay
pub stamps_body : (old : StamperValue) (fed given piece : List ℕ) → old.stage ≡ Body → HasStamped old fed given
    → HasStamped old (fed ++ piece) (given ++ piece)
stamps_body old fed given piece same h =
    has_stamped old (fed ++ piece) (given ++ piece) h.call
    (subst (λ (s : Stage). StandsAt old.stamp old.sum s (fed ++ piece) (given ++ piece)) (sym same)
    (more (subst (λ (s : Stage). StandsAt old.stamp old.sum s fed given) same h.stands)))
  where
    more : StandsAt old.stamp old.sum Body fed given → StandsAt old.stamp old.sum Body (fed ++ piece) (given ++ piece)
    more (body, p) = (body ++ piece, passes_more old.stamp old.sum (end_item ++ body) (end_item ++ body) fed given piece piece p)
