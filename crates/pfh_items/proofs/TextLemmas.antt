-- An item and its text.
use Rattle.std.proofs.Common.{◌≡◌, ℕ, ◌+◌, ◌*◌, ◌/◌, ◌%◌, ◌<◌, ◌≤◌, ◌==◌, ◌&&◌, List, [], ◌∷◌, ◌++◌, length, take, drop, true, false, refl, sym, ap, ◌∙◌, arith, length-append}
use Rattle.pfh_items.proofs.Names.{le-leb, eqb-true, and_from, and_parts, eq-eqb, false_from_ne_true, both_ways, take_at, drop_at, drop-drop, take-append-drop, length-take-le, nil_from_length, All-take, All-drop, IsOctets, ItemValue, IsItem, item_text, item_len, starts_whole, starts_end, item_in}

abbrev IsOctet : ℕ → Type 0
IsOctet octet = octet < 256

abbrev pub item_at : ℕ → List ℕ → ItemValue
item_at id content = record { id = id; content = content }

pub length-item_text : (item : ItemValue) → length (item_text item) ≡ 3 + length item.content
length-item_text item = omega arith

-- the text of an item, with anything behind it
module _ (item : ItemValue) (later : List ℕ) where
  pub starts_whole-text : starts_whole (item_text item ++ later) ≡ true
  starts_whole-text = le-leb _ _ (omega (arith, length-append item.content later))

  pub starts_end-text : IsItem item → starts_end (item_text item ++ later) ≡ false
  starts_end-text is =
      false_from_ne_true _
      (λ t.
      let both = and_parts ((item.id % 256 == 0) && (item.id / 256 % 256 == 0)) (length item.content == 0) t in
      let ids = and_parts (item.id % 256 == 0) (item.id / 256 % 256 == 0) both.0 in
      let low : item.id % 256 ≡ 0 = eqb-true _ _ ids.0 in
      let high : item.id / 256 % 256 ≡ 0 = eqb-true _ _ ids.1 in
      let none : length item.content ≡ 0 = eqb-true _ _ both.1 in
      let below = is.id in
      is.no_end (omega arith) (nil_from_length item.content none))

  pub item_in-text : IsItem item → item_in (item_text item ++ later) ≡ item
  item_in-text is =
      let below = is.id in
      let id : item.id % 256 + 256 * (item.id / 256 % 256) ≡ item.id = omega arith in
      ap (λ (n : ℕ). item_at n (take (length item.content) (item.content ++ later))) id
      ∙ ap (λ (c : List ℕ). item_at item.id c) (take_at item.content later (length item.content) refl)

  pub drop-text : drop (item_len (item_text item ++ later)) (item_text item ++ later) ≡ later
  drop-text = drop_at (item_text item) later _ (length-item_text item)

-- octets that begin with a whole item are its text, with the rest behind it
pub text-front : (octets : List ℕ) → IsOctets octets → item_len octets ≤ length octets
    → octets ≡ item_text (item_in octets) ++ drop (item_len octets) octets
text-front [] h whole = absurd (omega arith)
text-front (x ∷ []) h whole = absurd (omega arith)
text-front (x ∷ (y ∷ [])) h whole = absurd (omega arith)
text-front (x ∷ (y ∷ (l ∷ rest))) h whole =
    let hx : x < 256 = h 0 0 (omega arith) in
    let hy : y < 256 = h 1 0 (omega arith) in
    let low : (x + 256 * y) % 256 ≡ x = omega arith in
    let high : (x + 256 * y) / 256 % 256 ≡ y = omega arith in
    let len : length (take l rest) ≡ l = length-take-le l rest (omega arith) in
    let back : drop (3 + l) (x ∷ (y ∷ (l ∷ rest))) ≡ drop l rest = drop_more x y l l rest in
    let build : ℕ → ℕ → ℕ → List ℕ → List ℕ = λ a b c t. a ∷ (b ∷ (c ∷ t)) in
    sym
    (ap (λ (a : ℕ). build a ((x + 256 * y) / 256 % 256) (length (take l rest)) (take l rest ++ drop (3 + l) (x ∷ (y ∷ (l ∷ rest))))) low
    ∙ ap (λ (b : ℕ). build x b (length (take l rest)) (take l rest ++ drop (3 + l) (x ∷ (y ∷ (l ∷ rest))))) high
    ∙ ap (λ (n : ℕ). build x y n (take l rest ++ drop (3 + l) (x ∷ (y ∷ (l ∷ rest))))) len
    ∙ ap (λ (t : List ℕ). build x y l (take l rest ++ t)) back
    ∙ ap (λ (t : List ℕ). build x y l t) (take-append-drop l rest))
  where
    drop_more : (a b c n : ℕ) (xs : List ℕ) → drop (3 + n) (a ∷ (b ∷ (c ∷ xs))) ≡ drop n xs
    drop_more a b c n xs = sym (drop-drop n 3 (a ∷ (b ∷ (c ∷ xs))))

-- the item at the front of octets is one, if it is whole and not the end item
pub IsItem-item_in : (octets : List ℕ) → IsOctets octets → item_len octets ≤ length octets → starts_end octets ≡ false
    → IsItem (item_in octets)
IsItem-item_in [] h whole end = absurd (omega arith)
IsItem-item_in (x ∷ []) h whole end = absurd (omega arith)
IsItem-item_in (x ∷ (y ∷ [])) h whole end = absurd (omega arith)
IsItem-item_in (x ∷ (y ∷ (l ∷ rest))) h whole end =
    let hx : x < 256 = h 0 0 (omega arith) in
    let hy : y < 256 = h 1 0 (omega arith) in
    let hl : l < 256 = h 2 0 (omega arith) in
    let len : length (take l rest) ≡ l = length-take-le l rest (omega arith) in
    record {
      id = omega arith;
      octets = All-take IsOctet l rest (All-drop IsOctet 3 (x ∷ (y ∷ (l ∷ rest))) h);
      most = omega arith;
      no_end = λ id none.
          let none_there : l ≡ 0 = sym len ∙ ap length none in
          let first : x ≡ 0 = omega arith in
          let second : y ≡ 0 = omega arith in
          both_ways _ end (and_from _ _ (and_from _ _ (eq-eqb x 0 first) (eq-eqb y 0 second)) (eq-eqb l 0 none_there));
    }
