-- A stamper that goes on by one octet.
use Rattle.std.proofs.Common.{◌≡◌, ℕ, ◌+◌, ◌*◌, ◌/◌, ◌%◌, ◌^◌, ◌<◌, ◌≤◌, ◌==◌, List, [], ◌∷◌, ◌++◌, length, map, take, drop, get_or, slice_set, Bool, true, false, cond, Option, Some, None, refl, sym, ap, ◌∙◌, subst, arith, append_assoc, nat_lt, replicate}
use Rattle.std.proofs.lemmas.List.Elements.{All-append, All-from_recursion}
use Rattle.pfh_writer.specs.Steps.{stage_after, stage_after_len, octet_in, octet_given}
use Rattle.pfh_writer.proofs.Names.{unwrap_or, eqb-true, eqb-false, ltb-true, ltb-false, append-nil, take_all, take_more, take_more_set, drop_more, drop-set-lt, map-append, length_push, length-replicate, nil_from_length, IsCall, le16_octets, IsOctets, ItemValue, IsItem, item_text, items_text, end_item, StampValue, item_at, Stage, Start, Begun, ItemStart, IdCut, IdRead, InData, Body, fixed_data, given_data, given_item, PassesItems, IsCutData, StandsAt, StamperValue}
use Rattle.pfh_writer.proofs.ItemsLemmas.{items_text-append, AreItems-append}
use Rattle.pfh_writer.proofs.FilledLemmas.{length-given_data}

abbrev IsOctet : ℕ → Type 0
IsOctet octet = octet < 256

regroup : (a b c d : List ℕ) → (a ++ (b ++ c)) ++ d ≡ a ++ (b ++ (c ++ d))
regroup a b c d = append_assoc a (b ++ c) d ∙ ap (λ (t : List ℕ). a ++ t) (append_assoc b c d)

module _ (stamp : StampValue) (sum : ℕ) where
  -- more of what is cut
  pub passes_more : (cut given_cut fed given more given_more : List ℕ) → PassesItems stamp sum cut given_cut fed given
      → PassesItems stamp sum (cut ++ more) (given_cut ++ given_more) (fed ++ more) (given ++ given_more)
  passes_more cut given_cut fed given more given_more p = record {
    start = p.start;
    items = p.items;
    two = p.two;
    are_items = p.are_items;
    fed_text = ap (λ (t : List ℕ). t ++ more) p.fed_text ∙ regroup p.start (items_text p.items) cut more;
    given_text = ap (λ (t : List ℕ). t ++ given_more) p.given_text ∙ regroup p.start (items_text (map (given_item stamp sum) p.items)) given_cut given_more;
  }

  -- the same by equal octets
  passes_same : (cut given_cut fed given other given_other : List ℕ) → PassesItems stamp sum cut given_cut fed given → cut ≡ other
      → given_cut ≡ given_other → PassesItems stamp sum other given_other fed given
  passes_same cut given_cut fed given other given_other p same given_same =
      subst (λ (t : List ℕ). PassesItems stamp sum t given_other fed given) same
      (subst (λ (t : List ℕ). PassesItems stamp sum cut t fed given) given_same p)

  -- what is cut is an item
  text_of_more : (items : List ItemValue) (item : ItemValue) → items_text (items ++ item ∷ []) ++ [] ≡ items_text items ++ item_text item
  text_of_more items item =
      append-nil (items_text (items ++ item ∷ []))
      ∙ items_text-append items (item ∷ [])
      ∙ ap (λ (t : List ℕ). items_text items ++ t) (append-nil (item_text item))

  passes_item : (item : ItemValue) (fed given : List ℕ) → IsItem item
      → PassesItems stamp sum (item_text item) (item_text (given_item stamp sum item)) fed given → PassesItems stamp sum [] [] fed given
  passes_item item fed given is p = record {
    start = p.start;
    items = p.items ++ item ∷ [];
    two = p.two;
    are_items = AreItems-append p.items (item ∷ []) p.are_items (is, tt);
    fed_text = p.fed_text ∙ ap (λ (t : List ℕ). p.start ++ t) (sym (text_of_more p.items item));
    given_text =
        p.given_text
        ∙ ap (λ (t : List ℕ). p.start ++ t)
        (sym
        (ap (λ (l : List ItemValue). items_text l ++ []) (map-append (given_item stamp sum) p.items (item ∷ []))
        ∙ text_of_more (map (given_item stamp sum) p.items) (given_item stamp sum item)));
  }

  -- one octet of data more
  data_more : (id len at octet : ℕ) (content : List ℕ) → IsCall stamp.by → at < len → length content ≡ at
      → take at (given_data stamp sum id len content) ++ octet_in (fixed_data stamp sum id len) at octet ∷ []
      ≡ take (at + 1) (given_data stamp sum id len (content ++ octet ∷ []))
  data_more id len at octet content call below same =
      by (fixed_data stamp sum id len) refl
    where
      by : (found : Option (List ℕ)) → fixed_data stamp sum id len ≡ found
          → take at (unwrap_or found content) ++ octet_in found at octet ∷ [] ≡ take (at + 1) (unwrap_or found (content ++ octet ∷ []))
      by None e =
          ap (λ (t : List ℕ). t ++ octet ∷ []) (take_all at content (omega arith))
          ∙ sym (take_all (at + 1) (content ++ octet ∷ []) (omega (arith, length_push content octet)))
      by (Some found) e =
          let all : length found ≡ len =
          sym (ap (λ (o : Option (List ℕ)). length (unwrap_or o (replicate len 0))) e)
          ∙ length-given_data stamp sum id len (replicate len 0) call (length-replicate len 0) in
          sym (take_more found at octet (omega arith))

  -- an item's id and its length
  module _ (id octet : ℕ) (fed given : List ℕ) (call : IsCall stamp.by) (id_below : id < 2 ^ 16) (below : octet < 256)
      (p : PassesItems stamp sum (le16_octets id) (le16_octets id) fed given) where
    with_len : PassesItems stamp sum (le16_octets id ++ octet ∷ []) (le16_octets id ++ octet ∷ []) (fed ++ octet ∷ []) (given ++ octet ∷ [])
    with_len = passes_more (le16_octets id) (le16_octets id) fed given (octet ∷ []) (octet ∷ []) p

    -- id 0 and length 0
    end_read : octet ≡ 0 → id ≡ 0 → PassesItems stamp sum (end_item ++ []) (end_item ++ []) (fed ++ octet ∷ []) (given ++ octet ∷ [])
    end_read none zero_id =
        let same : le16_octets id ++ octet ∷ [] ≡ end_item ++ [] =
        ap (λ (n : ℕ). le16_octets n ++ octet ∷ []) zero_id ∙ ap (λ (n : ℕ). 0 ∷ (0 ∷ (n ∷ []))) none in
        passes_same _ _ _ _ _ _ with_len same same

    -- an item without data
    empty_read : octet ≡ 0 → (id ≡ 0 → ⊥) → PassesItems stamp sum [] [] (fed ++ octet ∷ []) (given ++ octet ∷ [])
    empty_read none some =
        let is : IsItem (item_at id []) =
        record { id = id_below; octets = All-from_recursion IsOctet [] tt; most = omega arith; no_end = λ zero_id _. some zero_id } in
        let given_empty : given_data stamp sum id 0 [] ≡ [] = nil_from_length (given_data stamp sum id 0 []) (length-given_data stamp sum id 0 [] call refl) in
        let same : le16_octets id ++ octet ∷ [] ≡ item_text (item_at id []) = ap (λ (n : ℕ). le16_octets id ++ n ∷ []) none in
        passes_item (item_at id []) _ _ is
        (passes_same _ _ _ _ _ _ with_len same (same ∙ ap (λ (t : List ℕ). item_text (item_at id t)) (sym given_empty)))

    -- an item with data
    len_read : 0 < octet → StandsAt stamp sum (InData id octet 0) (fed ++ octet ∷ []) (given ++ octet ∷ [])
    len_read some = (
      [],
      record { id_below = id_below; len_below = below; at_below = some; octets = All-from_recursion IsOctet [] tt; content_len = refl },
      with_len,
    )

    step_len : StandsAt stamp sum (stage_after_len id octet) (fed ++ octet ∷ []) (given ++ octet ∷ [])
    step_len = by (octet == 0) (id == 0) refl refl
      where
        by : (none zero_id : Bool) → (octet == 0) ≡ none → (id == 0) ≡ zero_id
            → StandsAt stamp sum (cond none (cond zero_id Body ItemStart) (InData id octet 0)) (fed ++ octet ∷ []) (given ++ octet ∷ [])
        by true true en ez = ([], end_read (eqb-true octet 0 en) (eqb-true id 0 ez))
        by true false en ez = empty_read (eqb-true octet 0 en) (eqb-false id 0 ez)
        by false zero_id en ez = let some = eqb-false octet 0 en in len_read (omega arith)

  -- an octet of data
  module _ (id len at octet : ℕ) (fed given content : List ℕ) (call : IsCall stamp.by) (below : octet < 256) (is : IsCutData id len at content)
      (p : PassesItems stamp sum (le16_octets id ++ len ∷ content) (le16_octets id ++ len ∷ take at (given_data stamp sum id len content)) fed given) where
    with_octet :
        PassesItems stamp sum (le16_octets id ++ len ∷ (content ++ octet ∷ []))
        (le16_octets id ++ len ∷ take (at + 1) (given_data stamp sum id len (content ++ octet ∷ []))) (fed ++ octet ∷ [])
        (given ++ octet_in (fixed_data stamp sum id len) at octet ∷ [])
    with_octet =
        let at_below = is.at_below in
        let at_len = is.content_len in
        passes_same _ _ _ _ _ _
        (passes_more (le16_octets id ++ len ∷ content) (le16_octets id ++ len ∷ take at (given_data stamp sum id len content)) fed given (octet ∷ [])
        (octet_in (fixed_data stamp sum id len) at octet ∷ []) p)
        refl
        (ap (λ (t : List ℕ). le16_octets id ++ len ∷ t) (data_more id len at octet content call at_below at_len))

    more_octets : IsOctets (content ++ octet ∷ [])
    more_octets = All-append IsOctet content (octet ∷ []) is.octets (All-from_recursion IsOctet (octet ∷ []) (below, tt))

    more_len : length (content ++ octet ∷ []) ≡ at + 1
    more_len = length_push content octet ∙ ap (λ (n : ℕ). n + 1) is.content_len

    item_read : len ≤ at + 1 → PassesItems stamp sum [] [] (fed ++ octet ∷ []) (given ++ octet_in (fixed_data stamp sum id len) at octet ∷ [])
    item_read last =
        let at_below = is.at_below in
        let len_below = is.len_below in
        let id_below = is.id_below in
        let all : List ℕ = content ++ octet ∷ [] in
        let whole : length (content ++ octet ∷ []) ≡ len = more_len ∙ omega arith in
        let given_len : length (given_data stamp sum id len (content ++ octet ∷ [])) ≡ len = length-given_data stamp sum id len (content ++ octet ∷ []) call whole in
        let is_item : IsItem (item_at id (content ++ octet ∷ [])) =
        record {
          id = id_below;
          octets = more_octets;
          most = omega arith;
          no_end = λ _ none. none_there (ap length none);
        } in
        passes_item (item_at id (content ++ octet ∷ [])) _ _ is_item
        (passes_same _ _ _ _ _ _ with_octet (ap (λ (n : ℕ). le16_octets id ++ n ∷ (content ++ octet ∷ [])) (sym whole))
        (ap (λ (t : List ℕ). le16_octets id ++ len ∷ t) (take_all (at + 1) (given_data stamp sum id len (content ++ octet ∷ [])) (omega arith))
        ∙ text_at whole given_len))
      where
        none_there : length (content ++ octet ∷ []) ≡ 0 → ⊥
        none_there e = absurd (omega (arith, length_push content octet))

        text_at : length (content ++ octet ∷ []) ≡ len → length (given_data stamp sum id len (content ++ octet ∷ [])) ≡ len
            → le16_octets id ++ len ∷ given_data stamp sum id len (content ++ octet ∷ []) ≡ item_text (given_item stamp sum (item_at id (content ++ octet ∷ [])))
        text_at whole given_len =
            ap (λ (n : ℕ). le16_octets id ++ n ∷ given_data stamp sum id len (content ++ octet ∷ [])) (sym given_len)
            ∙ ap (λ (n : ℕ). item_text (item_at id (given_data stamp sum id n (content ++ octet ∷ [])))) (sym whole)

    step_data :
        StandsAt stamp sum (cond (nat_lt (at + 1) len) (InData id len (at + 1)) ItemStart) (fed ++ octet ∷ [])
        (given ++ octet_in (fixed_data stamp sum id len) at octet ∷ [])
    step_data = by (nat_lt (at + 1) len) refl
      where
        by : (more : Bool) → nat_lt (at + 1) len ≡ more
            → StandsAt stamp sum (cond more (InData id len (at + 1)) ItemStart) (fed ++ octet ∷ [])
            (given ++ octet_in (fixed_data stamp sum id len) at octet ∷ [])
        by true e = (
          content ++ octet ∷ [],
          record { id_below = is.id_below; len_below = is.len_below; at_below = ltb-true (at + 1) len e; octets = more_octets; content_len = more_len },
          with_octet,
        )
        by false e = item_read (ltb-false (at + 1) len e)

  -- one octet more
  pub step : (stage : Stage) (octet : ℕ) (fed given : List ℕ) → IsCall stamp.by → octet < 256 → StandsAt stamp sum stage fed given
      → StandsAt stamp sum (stage_after stage octet) (fed ++ octet ∷ []) (given ++ octet_given stamp sum stage octet ∷ [])
  step Start octet fed given call below (none, given_none) = (
    ap (λ (t : List ℕ). length (t ++ octet ∷ [])) none,
    ap (λ (t : List ℕ). t ++ octet ∷ []) (given_none ∙ sym none),
  )
  step Begun octet fed given call below (one, same) = record {
    start = fed ++ octet ∷ [];
    items = [];
    two = length_push fed octet ∙ ap (λ (n : ℕ). n + 1) one;
    are_items = tt;
    fed_text = sym (append-nil (fed ++ octet ∷ []));
    given_text = ap (λ (t : List ℕ). t ++ octet ∷ []) same ∙ sym (append-nil (fed ++ octet ∷ []));
  }
  step ItemStart octet fed given call below p = (below, passes_more [] [] fed given (octet ∷ []) (octet ∷ []) p)
  step (IdCut low) octet fed given call below (low_below, p) =
      let first : (low + 256 * octet) % 256 ≡ low = omega arith in
      let second : (low + 256 * octet) / 256 % 256 ≡ octet = omega arith in
      let same : low ∷ (octet ∷ []) ≡ le16_octets (low + 256 * octet) =
      ap (λ (n : ℕ). n ∷ (octet ∷ [])) (sym first) ∙ ap (λ (n : ℕ). ((low + 256 * octet) % 256) ∷ (n ∷ [])) (sym second) in
      (omega arith, passes_same _ _ _ _ _ _ (passes_more (low ∷ []) (low ∷ []) fed given (octet ∷ []) (octet ∷ []) p) same same)
  step (IdRead id) octet fed given call below (id_below, p) = step_len id octet fed given call id_below below p
  step (InData id len at) octet fed given call below (content, is, p) = step_data id len at octet fed given content call below is p
  step Body octet fed given call below (body, p) = (
    body ++ octet ∷ [],
    passes_more (end_item ++ body) (end_item ++ body) fed given (octet ∷ []) (octet ∷ []) p,
  )

-- These octets were given in the place of those that were fed, from an old state to the one now.
pub record StampsOn (old now : StamperValue) (octets given_octets : List ℕ) : Type 0 where
  pub stamp : now.stamp ≡ old.stamp
  pub sum : now.sum ≡ old.sum
  pub stands : (fed given : List ℕ) → IsCall old.stamp.by → StandsAt old.stamp old.sum old.stage fed given
      → StandsAt old.stamp old.sum now.stage (fed ++ octets) (given ++ given_octets)

pub stamps_none : (old : StamperValue) → StampsOn old old [] []
stamps_none old = record {
  stamp = refl;
  sum = refl;
  stands = λ fed given call h.
      subst (λ (t : List ℕ). StandsAt old.stamp old.sum old.stage t (given ++ [])) (sym (append-nil fed))
      (subst (λ (t : List ℕ). StandsAt old.stamp old.sum old.stage fed t) (sym (append-nil given)) h);
}

pub stamps_more : (old now next : StamperValue) (octets given_octets : List ℕ) (octet given_octet : ℕ) → StampsOn old now octets given_octets
    → octet < 256 → next.stamp ≡ now.stamp → next.sum ≡ now.sum → next.stage ≡ stage_after now.stage octet
    → given_octet ≡ octet_given now.stamp now.sum now.stage octet → StampsOn old next (octets ++ octet ∷ []) (given_octets ++ given_octet ∷ [])
stamps_more old now next octets given_octets octet given_octet on below same_stamp same_sum stage_is octet_is = record {
  stamp = same_stamp ∙ on.stamp;
  sum = same_sum ∙ on.sum;
  stands = λ fed given call h.
      let at : StandsAt old.stamp old.sum (stage_after now.stage octet) ((fed ++ octets) ++ octet ∷ [])
      ((given ++ given_octets) ++ octet_given old.stamp old.sum now.stage octet ∷ []) =
      step old.stamp old.sum now.stage octet (fed ++ octets) (given ++ given_octets) call below (on.stands fed given call h) in
      let octet_same : octet_given old.stamp old.sum now.stage octet ≡ given_octet =
      sym
      (octet_is
      ∙ ap (λ (s : StampValue). octet_given s now.sum now.stage octet) on.stamp
      ∙ ap (λ (n : ℕ). octet_given old.stamp n now.stage octet) on.sum) in
      subst (λ (t : Stage). StandsAt old.stamp old.sum t (fed ++ (octets ++ octet ∷ [])) (given ++ (given_octets ++ given_octet ∷ []))) (sym stage_is)
      (subst (λ (t : List ℕ). StandsAt old.stamp old.sum (stage_after now.stage octet) t (given ++ (given_octets ++ given_octet ∷ [])))
      (append_assoc fed octets (octet ∷ []))
      (subst (λ (t : List ℕ). StandsAt old.stamp old.sum (stage_after now.stage octet) ((fed ++ octets) ++ octet ∷ []) t)
      (append_assoc given given_octets (given_octet ∷ []))
      (subst (λ (n : ℕ). StandsAt old.stamp old.sum (stage_after now.stage octet) ((fed ++ octets) ++ octet ∷ []) ((given ++ given_octets) ++ n ∷ []))
      octet_same at)));
}

-- one octet of a piece more, which is written in its place
module _ (old now next : StamperValue) (whole piece : List ℕ) (i given : ℕ) (within : i < length whole) (len : length piece ≡ length whole)
    (rest : drop i piece ≡ drop i whole) where
  pub same_octet : (get_or piece i 0 ≡ get_or whole i 0) × (drop (i + 1) piece ≡ drop (i + 1) whole)
  same_octet =
      let one : drop i piece ≡ get_or piece i 0 ∷ drop (i + 1) piece = drop_more piece i 0 (omega arith) in
      let other : drop i whole ≡ get_or whole i 0 ∷ drop (i + 1) whole = drop_more whole i 0 within in
      (cc, cc)

  pub passed_more : StampsOn old now (take i whole) (take i piece) → get_or piece i 0 < 256 → next.stamp ≡ now.stamp → next.sum ≡ now.sum
      → next.stage ≡ stage_after now.stage (get_or piece i 0) → given ≡ octet_given now.stamp now.sum now.stage (get_or piece i 0)
      → StampsOn old next (take (i + 1) whole) (take (i + 1) (slice_set piece i given))
  passed_more on below same_stamp same_sum stage_is given_is =
      subst (λ (t : List ℕ). StampsOn old next t (take (i + 1) (slice_set piece i given)))
      (ap (λ (n : ℕ). take i whole ++ n ∷ []) same_octet.0 ∙ sym (take_more whole i 0 within))
      (subst (λ (t : List ℕ). StampsOn old next (take i whole ++ get_or piece i 0 ∷ []) t) (sym (take_more_set piece i given (omega arith)))
      (stamps_more old now next (take i whole) (take i piece) (get_or piece i 0) given on below same_stamp same_sum stage_is given_is))

  pub rest_more : drop (i + 1) (slice_set piece i given) ≡ drop (i + 1) whole
  rest_more = drop-set-lt (i + 1) piece i given (omega arith) ∙ same_octet.1
