-- A walk over a header in which a server's items are filled in, and the sum that is renewed after it.
use Rattle.std.proofs.Common.{◌≡◌, ℕ, ◌+◌, ◌-◌, ◌*◌, ◌%◌, ◌≤◌, ◌==◌, ◌&&◌, List, [], ◌∷◌, ◌++◌, length, map, take, drop, get_or, sum, Bool, true, false, cond, Option, Some, None, refl, sym, ap, ◌∙◌, subst, arith, append_assoc, length-append, length-drop}
use Rattle.pfh_writer.specs.declared.filling.PassedItem.{PassedItem}
use Rattle.pfh_writer.proofs.Names.{unwrap_or, eq-eqb, leb-true, take_at, drop_at, take_all, drop_all, append-nil, take-append-drop, get_or-append_right, get_or_append_left, IsCall, le16, le16_octets, IsFaultless, StandsOnce, header_sum, items_with, ItemValue, AreItems, item_text, items_text, end_item, header_start, StampValue, stamped, item_len, Number, MandatoryItem, after_start, item_at, starts_whole-text, FillsItem, FillsFront, StaysAtEnd, sum_place_after, with_sum_changed, stamped_sum, server_data, given_item, filled_item, data_sum}
use Rattle.pfh_writer.proofs.FilledLemmas.{number_lens, server_len}
use Rattle.pfh_writer.proofs.FrontLemmas.{stamped_parts_text}
use Rattle.pfh_writer.proofs.ItemsLemmas.{field-once}
use Rattle.pfh_writer.proofs.SumLemmas.{data_sum-cons, renewed-stamped_sum}

-- the place of header_checksum's data in the texts of items that begin at a place, or one that was known
abbrev pub sum_place_of : ℕ → ℕ → List ItemValue → ℕ
sum_place_of at known [] = known
sum_place_of at known (item ∷ items) = sum_place_of (at + 3 + length item.content) (sum_place_after known item.id (at + 3)) items

-- So far a walk over the header of a file that keeps all rules has come: the items after the place are as they were, and
-- with those filled in as well all would be.
pub record Walked (stamp : StampValue) (old now : List ℕ) (at sum_at change : ℕ) : Type 0 where
  pub items : List ItemValue
  pub body : List ℕ
  pub is : IsFaultless items body old
  pub after : List ItemValue
  pub are_after : AreItems after
  pub front : List ℕ
  pub front_len : length front ≡ at
  pub text : now ≡ front ++ (items_text after ++ (end_item ++ body))
  pub filled : front ++ (items_text (map (filled_item stamp) after) ++ (end_item ++ body))
      ≡ header_start ++ (items_text (map (filled_item stamp) items) ++ (end_item ++ body))
  pub sums : (change + data_sum items + data_sum (map (filled_item stamp) after)) % 65536
      ≡ (data_sum (map (filled_item stamp) items) + data_sum after) % 65536
  pub place : sum_place_of at sum_at after ≡ sum_place_of 2 2 items

pub walked_none : (stamp : StampValue) (items : List ItemValue) (body file : List ℕ) → IsFaultless items body file → Walked stamp file file 2 2 0
walked_none stamp items body file is = record {
  items = items;
  body = body;
  is = is;
  after = items;
  are_after = is.file_text.are_items;
  front = header_start;
  front_len = refl;
  text = is.file_text.text ∙ after_start items body;
  filled = refl;
  sums = ap (λ (n : ℕ). n % 65536) (swap (data_sum items) (data_sum (map (filled_item stamp) items)));
  place = refl;
}
  where
    swap : (a b : ℕ) → 0 + a + b ≡ b + a
    swap a b = omega arith

-- an item or the end item stands whole at the front
front_whole : (items : List ItemValue) (body : List ℕ)
    → item_len (items_text items ++ (end_item ++ body)) ≤ length (items_text items ++ (end_item ++ body))
front_whole [] body = omega arith
front_whole (item ∷ items) body =
    subst (λ (t : List ℕ). item_len t ≤ length t) (sym (append_assoc (item_text item) (items_text items) (end_item ++ body)))
    (leb-true _ _ (starts_whole-text item (items_text items ++ (end_item ++ body))))

-- the front of octets is filled in, if their id and length are those that were read
pub fills_front : (stamp : StampValue) (old : List ℕ) (id len change count : ℕ) (content given : List ℕ) → id ≡ le16 old 0 → len ≡ get_or old 2 0 → count ≡ len
    → content ≡ take count (drop 3 old) → given ≡ unwrap_or (server_data stamp id (length content)) content
    → (change + sum content) % 65536 ≡ sum given % 65536 → (id ≡ 0 → len ≡ 0 → ⊥)
    → FillsFront stamp old (take 3 old ++ (given ++ drop count (drop 3 old))) (record { id = id; len = len; change = change })
fills_front stamp old id len change count content given id_is len_is count_is content_is given_is sums no_end = record {
  no_end = λ later same. no_end (id_is ∙ ap (λ (t : List ℕ). le16 t 0) same) (len_is ∙ ap (λ (t : List ℕ). get_or t 2 0) same);
  item = λ item later is same.
      let below = is.id in
      let same_id : id ≡ item.id = id_is ∙ ap (λ (t : List ℕ). le16 t 0) same ∙ omega arith in
      let same_len : len ≡ length item.content = len_is ∙ ap (λ (t : List ℕ). get_or t 2 0) same in
      let same_content : content ≡ item.content =
      content_is ∙ ap (λ (t : List ℕ). take count (drop 3 t)) same ∙ take_at item.content later count (sym (count_is ∙ same_len)) in
      let same_given : given ≡ (filled_item stamp item).content =
      given_is
      ∙ ap (λ (t : List ℕ). unwrap_or (server_data stamp id (length t)) t) same_content
      ∙ ap (λ (n : ℕ). unwrap_or (server_data stamp n (length item.content)) item.content) same_id in
      record {
        text =
            ap (λ (t : List ℕ). take 3 t ++ (given ++ drop count (drop 3 t))) same
            ∙ ap (λ (t : List ℕ). le16_octets item.id ++ length item.content ∷ (given ++ t)) (drop_at item.content later count (sym (count_is ∙ same_len)))
            ∙ ap (λ (t : List ℕ). le16_octets item.id ++ length item.content ∷ (t ++ later)) same_given;
        id = same_id;
        len = same_len;
        change =
            ap (λ (t : List ℕ). (change + sum t) % 65536) (sym same_content)
            ∙ sums
            ∙ ap (λ (t : List ℕ). sum t % 65536) same_given;
      };
}

module _ (stamp : StampValue) (old now : List ℕ) (at sum_at change : ℕ) (w : Walked stamp old now at sum_at change) where
  -- what is left
  rest_is : drop at now ≡ items_text w.after ++ (end_item ++ w.body)
  rest_is = ap (drop at) w.text ∙ drop_at w.front (items_text w.after ++ (end_item ++ w.body)) at w.front_len

  pub rest_whole : item_len (drop at now) ≤ length (drop at now)
  rest_whole = subst (λ (t : List ℕ). item_len t ≤ length t) (sym rest_is) (front_whole w.after w.body)

  pub rest_within : at ≤ length now
  rest_within = omega (arith, ap length w.text, length-append w.front (items_text w.after ++ (end_item ++ w.body)), w.front_len)

  passed_is : take at now ≡ w.front
  passed_is = ap (take at) w.text ∙ take_at w.front (items_text w.after ++ (end_item ++ w.body)) at w.front_len

  -- the front of what is left, and what was told of it
  module _ (call : IsCall stamp.by) (rest : List ℕ) (passed : PassedItem) (next : ℕ) (fills : FillsFront stamp (drop at now) rest passed)
      (next_is : next ≡ (change + passed.change) % 65536) where
    pub walked_more : Walked stamp old (take at now ++ rest) (at + 3 + passed.len) (sum_place_after sum_at passed.id (at + 3)) next
    walked_more = by w.after refl
      where
        sums_more : (own filled own_rest filled_rest all all_filled : ℕ) → (passed.change + own) % 65536 ≡ filled % 65536
            → (change + all + (filled + filled_rest)) % 65536 ≡ (all_filled + (own + own_rest)) % 65536
            → (next + all + filled_rest) % 65536 ≡ (all_filled + own_rest) % 65536
        sums_more own filled own_rest filled_rest all all_filled one same = omega (arith, next_is)

        by : (after : List ItemValue) → w.after ≡ after → Walked stamp old (take at now ++ rest) (at + 3 + passed.len) (sum_place_after sum_at passed.id (at + 3)) next
        by [] none = absurd (fills.no_end w.body (rest_is ∙ ap (λ (l : List ItemValue). items_text l ++ (end_item ++ w.body)) none))
        by (item ∷ after) some =
            let are : AreItems (item ∷ after) = subst AreItems some w.are_after in
            let begins : drop at now ≡ item_text item ++ (items_text after ++ (end_item ++ w.body)) =
            rest_is
            ∙ ap (λ (l : List ItemValue). items_text l ++ (end_item ++ w.body)) some
            ∙ append_assoc (item_text item) (items_text after) (end_item ++ w.body) in
            let it : FillsItem stamp item (items_text after ++ (end_item ++ w.body)) rest passed = fills.item item (items_text after ++ (end_item ++ w.body)) are.0 begins in
            let len : length (filled_item stamp item).content ≡ length item.content = server_len stamp item.id (length item.content) item.content call refl in
            let new_len = it.len in
            record {
              items = w.items;
              body = w.body;
              is = w.is;
              after = after;
              are_after = are.1;
              front = w.front ++ item_text (filled_item stamp item);
              front_len = omega (arith, length-append w.front (item_text (filled_item stamp item)), w.front_len);
              text =
                  ap (λ (t : List ℕ). t ++ rest) passed_is
                  ∙ ap (λ (t : List ℕ). w.front ++ t)
                  (it.text
                  ∙ ap (λ (n : ℕ). le16_octets item.id ++ n ∷ ((filled_item stamp item).content ++ (items_text after ++ (end_item ++ w.body)))) (sym len))
                  ∙ sym (append_assoc w.front (item_text (filled_item stamp item)) (items_text after ++ (end_item ++ w.body)));
              filled =
                  append_assoc w.front (item_text (filled_item stamp item)) (items_text (map (filled_item stamp) after) ++ (end_item ++ w.body))
                  ∙ ap (λ (t : List ℕ). w.front ++ t)
                  (sym (append_assoc (item_text (filled_item stamp item)) (items_text (map (filled_item stamp) after)) (end_item ++ w.body)))
                  ∙ ap (λ (l : List ItemValue). w.front ++ (items_text (map (filled_item stamp) l) ++ (end_item ++ w.body))) (sym some)
                  ∙ w.filled;
              sums =
                  sums_more (sum item.content) (sum (filled_item stamp item).content) (data_sum after) (data_sum (map (filled_item stamp) after)) (data_sum w.items)
                  (data_sum (map (filled_item stamp) w.items)) it.change
                  (ap (λ (n : ℕ). (change + data_sum w.items + n) % 65536)
                  (sym (ap (λ (l : List ItemValue). data_sum (map (filled_item stamp) l)) some ∙ data_sum-cons (filled_item stamp item) (map (filled_item stamp) after)))
                  ∙ w.sums
                  ∙ ap (λ (n : ℕ). (data_sum (map (filled_item stamp) w.items) + n) % 65536) (ap data_sum some ∙ data_sum-cons item after));
              place =
                  ap (λ (n : ℕ). sum_place_of (at + 3 + n) (sum_place_after sum_at passed.id (at + 3)) after) it.len
                  ∙ ap (λ (n : ℕ). sum_place_of (at + 3 + length item.content) (sum_place_after sum_at n (at + 3)) after) it.id
                  ∙ ap (sum_place_of at sum_at) (sym some)
                  ∙ w.place;
            }

-- header_checksum's row of the mandatory items
abbrev sum_rule : MandatoryItem
sum_rule = record { id = 0x0A; len = 2; form = Number }

-- Where header_checksum stands among items before a tail, with some octets before them: its data is behind `before`, and
-- it alone is another once its sum is renewed.
record SumCut (stamp : StampValue) (sum : ℕ) (front content tail : List ℕ) (items : List ItemValue) (place : ℕ) : Type 0 where
  before : List ℕ
  behind : List ℕ
  before_len : length before ≡ place
  filled : front ++ (items_text (map (filled_item stamp) items) ++ tail) ≡ before ++ (content ++ behind)
  given : front ++ (items_text (map (given_item stamp sum) items) ++ tail) ≡ before ++ (le16_octets sum ++ behind)

module _ (stamp : StampValue) (sum : ℕ) where
  -- an item that isn't header_checksum is given as it is filled in
  given_other : (item : ItemValue) → (item.id == 0x0A) ≡ false → given_item stamp sum item ≡ filled_item stamp item
  given_other item other =
      ap (λ (b : Bool). item_at item.id (unwrap_or (cond (b && (length item.content == 2)) (Some (le16_octets sum)) (server_data stamp item.id (length item.content))) item.content))
      other

  -- none of these is
  given_others : (items : List ItemValue) → items_with 0x0A items ≡ [] → map (given_item stamp sum) items ≡ map (filled_item stamp) items
  given_others [] none = refl
  given_others (item ∷ items) none = by (given_others items) (item.id == 0x0A) refl none
    where
      by : (items_with 0x0A items ≡ [] → map (given_item stamp sum) items ≡ map (filled_item stamp) items) → (b : Bool) → (item.id == 0x0A) ≡ b
          → cond b (item ∷ items_with 0x0A items) (items_with 0x0A items) ≡ []
          → map (given_item stamp sum) (item ∷ items) ≡ map (filled_item stamp) (item ∷ items)
      by later true e same = cc
      by later false e same =
          ap (λ (i : ItemValue). i ∷ map (given_item stamp sum) items) (given_other item e)
          ∙ ap (λ (l : List ItemValue). filled_item stamp item ∷ l) (later same)

  place_others : (at known : ℕ) (items : List ItemValue) → items_with 0x0A items ≡ [] → sum_place_of at known items ≡ known
  place_others at known [] none = refl
  place_others at known (item ∷ items) none = by (place_others (at + 3 + length item.content) known items) (item.id == 0x0A) refl none
    where
      by : (items_with 0x0A items ≡ [] → sum_place_of (at + 3 + length item.content) known items ≡ known) → (b : Bool) → (item.id == 0x0A) ≡ b
          → cond b (item ∷ items_with 0x0A items) (items_with 0x0A items) ≡ []
          → sum_place_of (at + 3 + length item.content) (cond (item.id == 0x0A) (at + 3) known) items ≡ known
      by later true e same = cc
      by later false e same =
          ap (λ (c : Bool). sum_place_of (at + 3 + length item.content) (cond c (at + 3) known) items) e
          ∙ later same

  -- header_checksum stands first
  cut_here : (content front tail : List ℕ) (at known : ℕ) (items : List ItemValue) → length content ≡ 2 → length front ≡ at → items_with 0x0A items ≡ []
      → SumCut stamp sum front content tail (item_at 0x0A content ∷ items) (sum_place_of at known (item_at 0x0A content ∷ items))
  cut_here content front tail at known items two len none =
      record {
        before = front ++ (0x0A ∷ (0 ∷ (2 ∷ [])));
        behind = items_text (map (filled_item stamp) items) ++ tail;
        before_len =
            length-append front (0x0A ∷ (0 ∷ (2 ∷ [])))
            ∙ ap (λ (n : ℕ). n + 3) len
            ∙ sym (place_others (at + 3 + length content) (at + 3) items none);
        filled =
            ap (λ (n : ℕ). front ++ ((0x0A ∷ (0 ∷ (n ∷ (content ++ items_text (map (filled_item stamp) items))))) ++ tail)) two
            ∙ ap (λ (t : List ℕ). front ++ (0x0A ∷ (0 ∷ (2 ∷ t)))) (append_assoc content (items_text (map (filled_item stamp) items)) tail)
            ∙ sym (append_assoc front (0x0A ∷ (0 ∷ (2 ∷ []))) (content ++ (items_text (map (filled_item stamp) items) ++ tail)));
        given =
            ap (λ (b : Bool). front ++ ((item_text (item_at 0x0A (unwrap_or (cond b (Some (le16_octets sum)) None) content)) ++ items_text (map (given_item stamp sum) items)) ++ tail))
            (eq-eqb (length content) 2 two)
            ∙ ap (λ (l : List ItemValue). front ++ ((item_text (item_at 0x0A (le16_octets sum)) ++ items_text l) ++ tail)) (given_others items none)
            ∙ sym (append_assoc front (0x0A ∷ (0 ∷ (2 ∷ []))) (le16_octets sum ++ (items_text (map (filled_item stamp) items) ++ tail)));
      }

  -- a step before it
  cut_later : (content front tail : List ℕ) (at known : ℕ) (item : ItemValue) (items : List ItemValue) → (item.id == 0x0A) ≡ false
      → SumCut stamp sum (front ++ item_text (filled_item stamp item)) content tail items known → SumCut stamp sum front content tail (item ∷ items) known
  cut_later content front tail at known item items other later = record {
    before = later.before;
    behind = later.behind;
    before_len = later.before_len;
    filled = regroup (filled_item stamp item) (items_text (map (filled_item stamp) items)) ∙ later.filled;
    given =
        ap (λ (i : ItemValue). front ++ ((item_text i ++ items_text (map (given_item stamp sum) items)) ++ tail)) (given_other item other)
        ∙ regroup (filled_item stamp item) (items_text (map (given_item stamp sum) items))
        ∙ later.given;
  }
    where
      regroup : (first : ItemValue) (rest : List ℕ) → front ++ ((item_text first ++ rest) ++ tail) ≡ (front ++ item_text first) ++ (rest ++ tail)
      regroup first rest =
          ap (λ (t : List ℕ). front ++ t) (append_assoc (item_text first) rest tail) ∙ sym (append_assoc front (item_text first) (rest ++ tail))

  cut : (content front tail : List ℕ) (at known : ℕ) (items : List ItemValue) → IsCall stamp.by → length content ≡ 2 → length front ≡ at
      → items_with 0x0A items ≡ item_at 0x0A content ∷ [] → SumCut stamp sum front content tail items (sum_place_of at known items)
  cut content front tail at known [] call two len one = cc
  cut content front tail at known (item ∷ items) call two len one =
      by
      (λ more_len same. cut content (front ++ item_text (filled_item stamp item)) tail (at + 3 + length item.content) (sum_place_after known item.id (at + 3)) items call two more_len same)
      (item.id == 0x0A) refl one
    where
      by : (length (front ++ item_text (filled_item stamp item)) ≡ at + 3 + length item.content → items_with 0x0A items ≡ item_at 0x0A content ∷ []
          → SumCut stamp sum (front ++ item_text (filled_item stamp item)) content tail items (sum_place_of at known (item ∷ items))) → (b : Bool) → (item.id == 0x0A) ≡ b
          → cond b (item ∷ items_with 0x0A items) (items_with 0x0A items) ≡ item_at 0x0A content ∷ []
          → SumCut stamp sum front content tail (item ∷ items) (sum_place_of at known (item ∷ items))
      by later true e same =
          let first : item ≡ item_at 0x0A content = cc in
          let none : items_with 0x0A items ≡ [] = cc in
          subst (λ (i : ItemValue). SumCut stamp sum front content tail (i ∷ items) (sum_place_of at known (i ∷ items))) (sym first)
          (cut_here content front tail at known items two len none)
      by later false e same =
          let data_len : length (filled_item stamp item).content ≡ length item.content = server_len stamp item.id (length item.content) item.content call refl in
          cut_later content front tail at (sum_place_of at known (item ∷ items)) item items e
          (later (omega (arith, length-append front (item_text (filled_item stamp item)))) same)

-- the number that stands behind other octets
le16-behind : (before content behind : List ℕ) (place : ℕ) → length before ≡ place → length content ≡ 2
    → le16 (before ++ (content ++ behind)) place ≡ le16 content 0
le16-behind before content behind place len two =
    ap (λ (n : ℕ). n + 256 * get_or (before ++ (content ++ behind)) (place + 1) 0)
    (get_or-append_right before (content ++ behind) place place 0 len (omega arith)
    ∙ ap (λ (n : ℕ). get_or (content ++ behind) n 0) none
    ∙ get_or_append_left content behind 0 0 (omega arith))
    ∙ ap (λ (n : ℕ). get_or content 0 0 + 256 * n)
    (get_or-append_right before (content ++ behind) place (place + 1) 0 len (omega arith)
    ∙ ap (λ (n : ℕ). get_or (content ++ behind) n 0) one
    ∙ get_or_append_left content behind 0 1 (omega arith))
  where
    none : place - place ≡ 0
    none = omega arith

    one : place + 1 - place ≡ 1
    one = omega arith

-- The walk has come to the end item.
module _ (stamp : StampValue) (call : IsCall stamp.by) (old now : List ℕ) (at sum_at change : ℕ) (w : Walked stamp old now at sum_at change) (rest file : List ℕ)
    (stays : StaysAtEnd (drop at now) rest) (file_is : file ≡ take at now ++ rest) where
  none_left : w.after ≡ []
  none_left = by w.after refl
    where
      by : (after : List ItemValue) → w.after ≡ after → w.after ≡ []
      by [] none = none
      by (item ∷ after) some =
          let are : AreItems (item ∷ after) = subst AreItems some w.are_after in
          absurd
          (stays.no_item item (items_text after ++ (end_item ++ w.body)) are.0
          (rest_is stamp old now at sum_at change w
          ∙ ap (λ (l : List ItemValue). items_text l ++ (end_item ++ w.body)) some
          ∙ append_assoc (item_text item) (items_text after) (end_item ++ w.body)))

  all_filled : file ≡ header_start ++ (items_text (map (filled_item stamp) w.items) ++ (end_item ++ w.body))
  all_filled =
      file_is
      ∙ ap (λ (t : List ℕ). take at now ++ t) stays.same
      ∙ take-append-drop at now
      ∙ w.text
      ∙ ap (λ (l : List ItemValue). w.front ++ (items_text l ++ (end_item ++ w.body))) none_left
      ∙ sym (ap (λ (l : List ItemValue). w.front ++ (items_text (map (filled_item stamp) l) ++ (end_item ++ w.body))) none_left)
      ∙ w.filled

  -- header_checksum stands once
  sum_once : StandsOnce w.items sum_rule
  sum_once = w.is.fits.once.1.1.1.1.1.1.1.1.1.0

  cut_at : (sum : ℕ) → SumCut stamp sum header_start sum_once.0 (end_item ++ w.body) w.items sum_at
  cut_at sum =
      subst (SumCut stamp sum header_start sum_once.0 (end_item ++ w.body) w.items) (sym w.place ∙ ap (sum_place_of at sum_at) none_left)
      (cut stamp sum sum_once.0 header_start (end_item ++ w.body) 2 2 w.items call sum_once.2 refl sum_once.1)

  pub sum_within : sum_at + 2 ≤ length file
  sum_within =
      let c = cut_at 0 in
      let text = ap length (all_filled ∙ c.filled) in
      let two = sum_once.2 in
      let len = c.before_len in
      omega (arith, length-append c.before (sum_once.0 ++ c.behind), length-append sum_once.0 c.behind)

  -- the sum that stands there
  sum_there : le16 file sum_at ≡ header_sum w.items
  sum_there =
      let c = cut_at 0 in
      ap (λ (t : List ℕ). le16 t sum_at) (all_filled ∙ c.filled)
      ∙ le16-behind c.before sum_once.0 c.behind sum_at c.before_len sum_once.2
      ∙ ap (λ (o : Option (List ℕ)). le16 (unwrap_or o []) 0) (sym (field-once w.items sum_rule sum_once))
      ∙ w.is.header_sum

  -- it is renewed
  sum_is : (le16 file sum_at + change) % 65536 ≡ stamped_sum stamp w.items
  sum_is =
      renewed-stamped_sum stamp call w.items (header_sum w.items) ((le16 file sum_at + change) % 65536) (number_lens w.items w.body old w.is) refl
      (omega arith)
      (numbers (le16 file sum_at) (header_sum w.items) (data_sum w.items) (data_sum (map (filled_item stamp) w.items)) sum_there
      (ap (λ (l : List ItemValue). (change + data_sum w.items + data_sum (map (filled_item stamp) l)) % 65536) (sym none_left)
      ∙ w.sums
      ∙ ap (λ (l : List ItemValue). (data_sum (map (filled_item stamp) w.items) + data_sum l) % 65536) none_left))
    where
      numbers : (there sum all all_filled : ℕ) → there ≡ sum → (change + all + 0) % 65536 ≡ (all_filled + 0) % 65536
          → ((there + change) % 65536 + all) % 65536 ≡ (sum + all_filled) % 65536
      numbers there sum all all_filled same sums = omega arith

  pub stamped_is : with_sum_changed file sum_at change ≡ stamped stamp old
  stamped_is =
      let c = cut_at ((le16 file sum_at + change) % 65536) in
      let text : file ≡ c.before ++ (sum_once.0 ++ c.behind) = all_filled ∙ c.filled in
      let back : drop (sum_at + 2) file ≡ c.behind =
      ap (drop (sum_at + 2)) (text ∙ sym (append_assoc c.before sum_once.0 c.behind))
      ∙ drop_at (c.before ++ sum_once.0) c.behind (sum_at + 2) (omega (arith, length-append c.before sum_once.0, c.before_len, sum_once.2)) in
      ap (λ (t : List ℕ). t ++ (le16_octets ((le16 file sum_at + change) % 65536) ++ drop (sum_at + 2) file))
      (ap (take sum_at) text ∙ take_at c.before (sum_once.0 ++ c.behind) sum_at c.before_len)
      ∙ ap (λ (t : List ℕ). c.before ++ (le16_octets ((le16 file sum_at + change) % 65536) ++ t)) back
      ∙ sym c.given
      ∙ sym (stamped_parts_text stamp ((le16 file sum_at + change) % 65536) w.items [] w.items w.body old w.is sum_is refl)

-- the part of a slice from a place on, and the slice with another in its place
pub part_is : (at : ℕ) (now : List ℕ) → take (length now - at) (drop at now) ≡ drop at now
part_is at now = take_all (length now - at) (drop at now) (omega (arith, length-drop at now))

pub put_is : (at : ℕ) (now rest : List ℕ) → take at now ++ (rest ++ drop (length now - at) (drop at now)) ≡ take at now ++ rest
put_is at now rest =
    ap (λ (t : List ℕ). take at now ++ t)
    (ap (λ (t : List ℕ). rest ++ t) (drop_all (length now - at) (drop at now) (omega (arith, length-drop at now))) ∙ append-nil rest)
