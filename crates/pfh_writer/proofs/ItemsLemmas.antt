-- Texts of items, one after another.
use Rattle.std.proofs.Common.{◌≡◌, ℕ, ◌+◌, ◌<◌, ◌==◌, List, [], ◌∷◌, ◌++◌, length, drop, filter, Bool, true, false, cond, Option, Some, find, refl, sym, ap, ◌∙◌, subst, append_assoc, length-append, arith, unwrap_or}
use Rattle.std.specs.Option.{option_map}
use Rattle.pfh_writer.proofs.Names.{AllByRecursion, false≢true, le16, le16_octets, sum16, content_of, field_of, header_sum, items_with, Stands, StandsOnce, with_content, ItemValue, IsItem, AreItems, end_item, header_text, item_text, items_text, item_in, item_len, starts_end, MandatoryItem, drop-text, item_at, item_in-text, starts_end-text}

pub items_text-append : (items others : List ItemValue) → items_text (items ++ others) ≡ items_text items ++ items_text others
items_text-append [] others = refl
items_text-append (item ∷ items) others =
    ap (λ (t : List ℕ). item_text item ++ t) (items_text-append items others) ∙ sym (append_assoc (item_text item) (items_text items) (items_text others))

pub AreItems-append : (items others : List ItemValue) → AreItems items → AreItems others → AreItems (items ++ others)
AreItems-append [] others are are_others = are_others
AreItems-append (item ∷ items) others are are_others = (are.0, AreItems-append items others are.1 are_others)

-- of two texts of items that begin the same octets, both are the same
pub same_front : (item other : ItemValue) (later rest : List ℕ) → IsItem item → IsItem other → item_text item ++ later ≡ item_text other ++ rest
    → (item ≡ other) × (later ≡ rest)
same_front item other later rest is is_other same = (
  sym (item_in-text item later is) ∙ ap item_in same ∙ item_in-text other rest is_other,
  sym (drop-text item later) ∙ ap (λ (t : List ℕ). drop (item_len t) t) same ∙ drop-text other rest,
)

-- no item's text begins with the end item
pub no_end_item : (item : ItemValue) (later rest : List ℕ) → IsItem item → item_text item ++ later ≡ end_item ++ rest → ⊥
no_end_item item later rest is same = false≢true (sym (starts_end-text item later is) ∙ ap starts_end same)

-- The items are those from before and those after, of which the octets are the front of a header.
pub record Splits (before items : List ItemValue) (octets body : List ℕ) : Type 0 where
  pub after : List ItemValue
  pub are_items : AreItems after
  pub items_are : items ≡ before ++ after
  pub text : octets ≡ items_text after ++ (end_item ++ body)

pub splits : (before items : List ItemValue) (octets body : List ℕ) → AreItems before → AreItems items
    → items_text before ++ octets ≡ items_text items ++ (end_item ++ body) → Splits before items octets body
splits [] items octets body are_before are same = record { after = items; are_items = are; items_are = refl; text = same }
splits (first ∷ before) [] octets body are_before are same =
    absurd (no_end_item first (items_text before ++ octets) body are_before.0 (sym (append_assoc (item_text first) (items_text before) octets) ∙ same))
splits (first ∷ before) (item ∷ items) octets body are_before are same =
    let both =
    same_front first item (items_text before ++ octets) (items_text items ++ (end_item ++ body)) are_before.0 are.0
    (sym (append_assoc (item_text first) (items_text before) octets) ∙ same ∙ append_assoc (item_text item) (items_text items) (end_item ++ body)) in
    let rest = splits before items octets body are_before.1 are.1 both.1 in
    record {
      after = rest.after;
      are_items = rest.are_items;
      items_are = ap (λ (t : List ItemValue). item ∷ t) rest.items_are ∙ ap (λ (i : ItemValue). i ∷ (before ++ rest.after)) (sym both.0);
      text = rest.text;
    }

-- a fact of each item that is found by its id
pub all_of_id : (id : ℕ) (P : ItemValue → Type 0) (items : List ItemValue) → AllByRecursion P (items_with id items)
    → AllByRecursion (λ item. (item.id == id) ≡ true → P item) items
all_of_id id P [] h = tt
all_of_id id P (item ∷ items) h = by (all_of_id id P items) (item.id == id) refl h
  where
    by : (AllByRecursion P (items_with id items) → AllByRecursion (λ (i : ItemValue). (i.id == id) ≡ true → P i) items) → (b : Bool)
        → (item.id == id) ≡ b → AllByRecursion P (cond b (item ∷ items_with id items) (items_with id items))
        → ((item.id == id) ≡ true → P item) × AllByRecursion (λ (i : ItemValue). (i.id == id) ≡ true → P i) items
    by later true e h = (λ _. h.0, later h.1)
    by later false e h = (λ t. absurd (false≢true (sym e ∙ t)), later h)

-- where one item of an id stands with its length, each item of that id has it
pub len_of_once : (items : List ItemValue) (rule : MandatoryItem) → StandsOnce items rule
    → AllByRecursion (λ item. (item.id == rule.id) ≡ true → length item.content ≡ rule.len) items
len_of_once items rule once =
    all_of_id rule.id (λ (i : ItemValue). length i.content ≡ rule.len) items
    (subst (AllByRecursion (λ (i : ItemValue). length i.content ≡ rule.len)) (sym once.1) (once.2, tt))

-- the only item of an id is the first
find-filter : (p : ItemValue → Bool) (items : List ItemValue) (item : ItemValue) → filter p items ≡ item ∷ [] → find p items ≡ Some item
find-filter p [] item same = absurd (none same)
  where
    none : [] ≡ item ∷ [] → ⊥
    none e = cc
find-filter p (first ∷ items) item same = by (find-filter p items item) (p first) same
  where
    by : (filter p items ≡ item ∷ [] → find p items ≡ Some item) → (b : Bool) → cond b (first ∷ filter p items) (filter p items) ≡ item ∷ []
        → cond b (Some first) (find p items) ≡ Some item
    by later true e = let here : first ≡ item = cc in ap (λ (i : ItemValue). Some i) here
    by later false e = later e

pub field-once : (items : List ItemValue) (rule : MandatoryItem) (once : StandsOnce items rule) → field_of rule.id items ≡ Some once.0
field-once items rule once =
    ap (λ (found : Option ItemValue). option_map (λ (i : ItemValue). i.content) found) (find-filter (λ (i : ItemValue). i.id == rule.id) items _ once.1)

-- the length of items' texts, by the lengths of their data
abbrev pub text_len : List ItemValue → ℕ
text_len [] = 0
text_len (first ∷ items) = (3 + length first.content) + text_len items

pub length-items_text : (items : List ItemValue) → length (items_text items) ≡ text_len items
length-items_text [] = refl
length-items_text (first ∷ items) = let rest = length-items_text items in omega (arith, length-append first.content (items_text items))

-- new data in place of new data
with_content-twice : (id : ℕ) (content other : List ℕ) (items : List ItemValue)
    → with_content id content (with_content id other items) ≡ with_content id content items
with_content-twice id content other [] = refl
with_content-twice id content other (first ∷ items) =
    ap (λ (i : ItemValue). i ∷ with_content id content (with_content id other items)) (by (first.id == id) refl)
    ∙ ap (λ (l : List ItemValue). cond (first.id == id) (item_at first.id content) first ∷ l) (with_content-twice id content other items)
  where
    by : (b : Bool) → (first.id == id) ≡ b
        → cond ((cond b (item_at first.id other) first).id == id) (item_at (cond b (item_at first.id other) first).id content) (cond b (item_at first.id other) first)
        ≡ cond b (item_at first.id content) first
    by true e = ap (λ (b : Bool). cond b (item_at first.id content) (item_at first.id other)) e
    by false e = ap (λ (b : Bool). cond b (item_at first.id content) first) e

pub header_sum-renewed : (content : List ℕ) (items : List ItemValue) → header_sum (with_content 0x0A content items) ≡ header_sum items
header_sum-renewed content items = ap (λ (l : List ItemValue). sum16 (header_text l)) (with_content-twice 0x0A (0 ∷ (0 ∷ [])) content items)

pub le16_of : (n : ℕ) → n < 65536 → le16 (le16_octets n) 0 ≡ n
le16_of n h = omega arith

pub sum16_below : (octets : List ℕ) → sum16 octets < 65536
sum16_below octets = omega arith

-- what stands once stands
pub all_stand : (items : List ItemValue) (rules : List MandatoryItem) → AllByRecursion (StandsOnce items) rules → AllByRecursion (Stands items) rules
all_stand items [] once = tt
all_stand items (rule ∷ rules) once = (λ none. absurd (nothing (sym once.0.1 ∙ none)), all_stand items rules once.1)
  where
    nothing : {i : ItemValue} → i ∷ [] ≡ [] → ⊥
    nothing e = cc

-- the data of an item that stands once
pub content-once : (items : List ItemValue) (rule : MandatoryItem) (once : StandsOnce items rule) → content_of rule.id items ≡ once.0
content-once items rule once = ap (λ (o : Option (List ℕ)). unwrap_or o []) (field-once items rule once)
