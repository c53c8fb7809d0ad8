-- The items of octets from a place on: those that are read are the only ones.
use Rattle.std.proofs.Common.{◌≡◌, ℕ, zero, suc, ◌+◌, ◌<◌, ◌≤◌, List, [], ◌∷◌, ◌++◌, length, drop, slice_index, get_or, ◌&&◌, ◌⊎◌, Bool, true, false, cond, refl, sym, ap, ◌∙◌, subst, arith, length-append, length-drop, append_assoc, add-zero, inl, inr}
use Rattle.pfh_items.proofs.Names.{le-leb, leb-true, eqb-true, and_parts, both_ways, cases_Bool, false≢true, drop_at, length-take-le, All-drop, IsOctets, Stop, EndItem, Ran, ItemValue, IsItem, AreItems, item_text, items_text, end_item, ItemList, StartsCut, StopsAt, ItemsFrom, item_len, starts_whole, starts_end, item_in, with_item, items_within, items_from, IsOneWalk}
use Rattle.pfh_items.proofs.TextLemmas.{length-item_text, starts_whole-text, starts_end-text, item_in-text, drop-text, text-front, IsItem-item_in}

abbrev IsOctet : ℕ → Type 0
IsOctet octet = octet < 256

abbrev list_at : List ItemValue → Stop → ItemList
list_at items stop = record { items = items; stop = stop }

len : (item : ItemValue) (items : List ItemValue) (place : ℕ)
    → place + length (item_text item) + length (items_text items) ≡ place + length (items_text (item ∷ items))
len item items place = omega (arith, length-append (item_text item) (items_text items))

-- the octets behind others
IsOctets-back : (front back : List ℕ) → IsOctets (front ++ back) → IsOctets back
IsOctets-back front back h = subst IsOctets (drop_at front back (length front) refl) (All-drop IsOctet (length front) (front ++ back) h)

-- the text of the item at the front is as long as it says
length-item_in : (octets : List ℕ) → item_len octets ≤ length octets → length (item_text (item_in octets)) ≡ item_len octets
length-item_in octets le =
    let rest : slice_index octets 2 ≤ length (drop 3 octets) = omega (arith, length-drop 3 octets) in
    omega (arith, length-item_text (item_in octets), length-take-le (slice_index octets 2) (drop 3 octets) rest)

pub none_at : Stop → ItemList
none_at stop = record { items = []; stop = stop }

-- what is read, by what stands at the front
abbrev step : Bool → Bool → ℕ → List ℕ → ItemList → ItemList
step whole end place octets tail =
    cond whole (cond end (record { items = []; stop = EndItem place }) (with_item (item_in octets) tail)) (record { items = []; stop = Ran place })

-- a bound on the items that is no less than the octets makes no difference
items_within-enough : (n m place : ℕ) (octets : List ℕ) → length octets ≤ n → length octets ≤ m
    → items_within n place octets ≡ items_within m place octets
unfolding items_within
items_within-enough zero zero place octets hn hm = refl
items_within-enough zero (suc m) place [] hn hm = refl
items_within-enough zero (suc m) place (x ∷ xs) hn hm = absurd (omega arith)
items_within-enough (suc n) zero place [] hn hm = refl
items_within-enough (suc n) zero place (x ∷ xs) hn hm = absurd (omega arith)
items_within-enough (suc n) (suc m) place [] hn hm = refl
items_within-enough (suc n) (suc m) place (x ∷ xs) hn hm =
    let octets : List ℕ = x ∷ xs in
    let len = length-drop (item_len octets) octets in
    ap (λ (tail : ItemList). step (starts_whole octets) (starts_end octets) place octets tail)
    (items_within-enough n m (place + item_len octets) (drop (item_len octets) octets) (omega arith) (omega arith))

-- what is read from a place on is the first item, and what is read after it
pub items_from-step : (place : ℕ) (octets : List ℕ)
    → items_from place octets
    ≡ step (starts_whole octets) (starts_end octets) place octets (items_from (place + item_len octets) (drop (item_len octets) octets))
unfolding items_from items_within
items_from-step place octets =
    let len = length-drop (item_len octets) octets in
    items_within-enough (length octets) (suc (length octets)) place octets (omega arith) (omega arith)
    ∙ ap (λ (tail : ItemList). step (starts_whole octets) (starts_end octets) place octets tail)
    (items_within-enough (length octets) (length (drop (item_len octets) octets)) (place + item_len octets) (drop (item_len octets) octets) (omega arith) (omega arith))

step-is : (place : ℕ) (octets : List ℕ) (whole end : Bool) → starts_whole octets ≡ whole → starts_end octets ≡ end
    → items_from place octets ≡ step whole end place octets (items_from (place + item_len octets) (drop (item_len octets) octets))
step-is place octets whole end w e =
    items_from-step place octets
    ∙ ap (λ (b : Bool). step b (starts_end octets) place octets (items_from (place + item_len octets) (drop (item_len octets) octets))) w
    ∙ ap (λ (b : Bool). step whole b place octets (items_from (place + item_len octets) (drop (item_len octets) octets))) e

pub items_from-item : (place : ℕ) (octets : List ℕ) → starts_whole octets ≡ true → starts_end octets ≡ false
    → items_from place octets ≡ with_item (item_in octets) (items_from (place + item_len octets) (drop (item_len octets) octets))
items_from-item place octets w e = step-is place octets true false w e

pub items_from-end : (place : ℕ) (octets : List ℕ) → starts_whole octets ≡ true → starts_end octets ≡ true
    → items_from place octets ≡ none_at (EndItem place)
unfolding none_at
items_from-end place octets w e = step-is place octets true true w e

pub items_from-cut : (place : ℕ) (octets : List ℕ) → starts_whole octets ≡ false → items_from place octets ≡ none_at (Ran place)
unfolding none_at
items_from-cut place octets w = step-is place octets false (starts_end octets) w refl

-- octets of less than a whole item
pub StartsCut-short : (octets : List ℕ) → starts_whole octets ≡ false → StartsCut octets
StartsCut-short octets short = record {
  no_item = λ item later is same. both_ways _ short (ap starts_whole same ∙ starts_whole-text item later);
  no_end = λ later same. both_ways _ short (ap starts_whole same ∙ le-leb 3 (length (end_item ++ later)) (omega arith));
}

-- octets that begin with the end item
pub end-front : (octets : List ℕ) → starts_whole octets ≡ true → starts_end octets ≡ true → octets ≡ end_item ++ drop 3 octets
end-front [] w e = absurd (false≢true w)
end-front (x ∷ []) w e = absurd (false≢true w)
end-front (x ∷ (y ∷ [])) w e = absurd (false≢true w)
end-front (x ∷ (y ∷ (l ∷ rest))) w e =
    let both = and_parts _ _ e in
    let ids = and_parts _ _ both.0 in
    let first : x ≡ 0 = eqb-true _ _ ids.0 in
    let second : y ≡ 0 = eqb-true _ _ ids.1 in
    let third : l ≡ 0 = eqb-true _ _ both.1 in
    ap (λ (a : ℕ). a ∷ (y ∷ (l ∷ rest))) first ∙ ap (λ (b : ℕ). 0 ∷ (b ∷ (l ∷ rest))) second ∙ ap (λ (c : ℕ). 0 ∷ (0 ∷ (c ∷ rest))) third

-- and those that don't begin with less than a whole item begin with an item or the end item
pub short-StartsCut : (octets : List ℕ) → IsOctets octets → StartsCut octets → starts_whole octets ≡ false
short-StartsCut octets h cut =
    elim (cases_Bool (starts_whole octets)) [
      | inr short ↦ short
      | inl whole ↦
          elim (cases_Bool (starts_end octets)) [
            | inl end ↦ absurd (cut.no_end (drop 3 octets) (end-front octets whole end))
            | inr item ↦
                absurd
                (cut.no_item (item_in octets) (drop (item_len octets) octets) (IsItem-item_in octets h (leb-true _ _ whole) item)
                (text-front octets h (leb-true _ _ whole)))
          ]
    ]

-- one more item at the front
StopsAt-cons : (place : ℕ) (octets rest : List ℕ) (item : ItemValue) (items : List ItemValue) (stop : Stop) → IsItem item
    → octets ≡ item_text item ++ rest → StopsAt (place + length (item_text item)) rest items stop → StopsAt place octets (item ∷ items) stop
StopsAt-cons place octets rest item items (EndItem at) is front h = (
  h.0,
  (is, h.1),
  front ∙ ap (λ (t : List ℕ). item_text item ++ t) h.2 ∙ sym (append_assoc (item_text item) (items_text items) (end_item ++ h.0)),
  omega (arith, length-append (item_text item) (items_text items), h.3),
)
StopsAt-cons place octets rest item items (Ran at) is front h = (
  h.0,
  (is, h.1),
  front ∙ ap (λ (t : List ℕ). item_text item ++ t) h.2 ∙ sym (append_assoc (item_text item) (items_text items) h.0),
  h.3,
  omega (arith, length-append (item_text item) (items_text items), h.4),
)

step-ItemsFrom : (place : ℕ) (octets : List ℕ) (tail : ItemList) → IsOctets octets → (whole end : Bool) → starts_whole octets ≡ whole
    → starts_end octets ≡ end → (item_len octets ≤ length octets → ItemsFrom (place + item_len octets) (drop (item_len octets) octets) tail)
    → ItemsFrom place octets (step whole end place octets tail)
step-ItemsFrom place octets tail h false end w e later = (octets, tt, refl, StartsCut-short octets w, sym (add-zero place))
step-ItemsFrom place octets tail h true true w e later = (drop 3 octets, tt, end-front octets w e, sym (add-zero place))
step-ItemsFrom place octets tail h true false w e later =
    let le = leb-true _ _ w in
    let len : length (item_text (item_in octets)) ≡ item_len octets = length-item_in octets le in
    StopsAt-cons place octets (drop (item_len octets) octets) (item_in octets) tail.items tail.stop (IsItem-item_in octets h le e)
    (text-front octets h le)
    (subst (λ (n : ℕ). StopsAt (place + n) (drop (item_len octets) octets) tail.items tail.stop) (sym len) (later le))

within-ItemsFrom : (n place : ℕ) (octets : List ℕ) → length octets ≤ n → IsOctets octets → ItemsFrom place octets (items_from place octets)
within-ItemsFrom zero place octets le h =
    subst (λ (walk : ItemList). ItemsFrom place octets walk) (sym (items_from-step place octets))
    (step-ItemsFrom place octets (items_from (place + item_len octets) (drop (item_len octets) octets)) h (starts_whole octets) (starts_end octets) refl refl
    (λ whole. absurd (omega arith)))
within-ItemsFrom (suc n) place octets le h =
    let len = length-drop (item_len octets) octets in
    subst (λ (walk : ItemList). ItemsFrom place octets walk) (sym (items_from-step place octets))
    (step-ItemsFrom place octets (items_from (place + item_len octets) (drop (item_len octets) octets)) h (starts_whole octets) (starts_end octets) refl refl
    (λ whole. within-ItemsFrom n (place + item_len octets) (drop (item_len octets) octets) (omega arith) (All-drop IsOctet (item_len octets) octets h)))

-- octets have the items that are read
pub ItemsFrom-items_from : (place : ℕ) (octets : List ℕ) → IsOctets octets → ItemsFrom place octets (items_from place octets)
ItemsFrom-items_from place octets h = within-ItemsFrom (length octets) place octets (omega arith) h

-- what is read of octets that begin with an item
items_from-text : (place : ℕ) (item : ItemValue) (rest : List ℕ) → IsItem item
    → items_from place (item_text item ++ rest) ≡ with_item item (items_from (place + length (item_text item)) rest)
items_from-text place item rest is =
    let octets : List ℕ = item_text item ++ rest in
    items_from-item place octets (starts_whole-text item rest) (starts_end-text item rest is)
    ∙ ap (λ (i : ItemValue). with_item i (items_from (place + item_len octets) (drop (item_len octets) octets))) (item_in-text item rest is)
    ∙ ap (λ (t : List ℕ). with_item item (items_from (place + item_len octets) t)) (drop-text item rest)
    ∙ ap (λ (n : ℕ). with_item item (items_from (place + n) rest)) (sym (length-item_text item))

-- what is read of octets with these items before the end item
pub items_from-whole : (items : List ItemValue) (place : ℕ) (rest : List ℕ) → AreItems items
    → items_from place (items_text items ++ (end_item ++ rest)) ≡ record { items = items; stop = EndItem (place + length (items_text items)) }
unfolding none_at
items_from-whole [] place rest are =
    items_from-end place (end_item ++ rest) (le-leb 3 (length (end_item ++ rest)) (omega arith)) refl
    ∙ ap (λ (n : ℕ). none_at (EndItem n)) (sym (add-zero place))
items_from-whole (item ∷ items) place rest are =
    ap (λ (t : List ℕ). items_from place t) (append_assoc (item_text item) (items_text items) (end_item ++ rest))
    ∙ items_from-text place item (items_text items ++ (end_item ++ rest)) are.0
    ∙ ap (λ (walk : ItemList). with_item item walk) (items_from-whole items (place + length (item_text item)) rest are.1)
    ∙ ap (λ (n : ℕ). list_at (item ∷ items) (EndItem n)) (len item items place)

-- what is read of octets with these items before octets that begin with none
pub items_from-ran : (items : List ItemValue) (place : ℕ) (rest : List ℕ) → AreItems items → starts_whole rest ≡ false
    → items_from place (items_text items ++ rest) ≡ record { items = items; stop = Ran (place + length (items_text items)) }
unfolding none_at
items_from-ran [] place rest are short = items_from-cut place rest short ∙ ap (λ (n : ℕ). none_at (Ran n)) (sym (add-zero place))
items_from-ran (item ∷ items) place rest are short =
    ap (λ (t : List ℕ). items_from place t) (append_assoc (item_text item) (items_text items) rest)
    ∙ items_from-text place item (items_text items ++ rest) are.0
    ∙ ap (λ (walk : ItemList). with_item item walk) (items_from-ran items (place + length (item_text item)) rest are.1 short)
    ∙ ap (λ (n : ℕ). list_at (item ∷ items) (Ran n)) (len item items place)

-- and no others
stops : (place : ℕ) (octets : List ℕ) (items : List ItemValue) (stop : Stop) → IsOctets octets → StopsAt place octets items stop
    → list_at items stop ≡ items_from place octets
stops place octets items (EndItem at) h walk =
    ap (λ (n : ℕ). list_at items (EndItem n)) walk.3
    ∙ sym (items_from-whole items place walk.0 walk.1)
    ∙ ap (λ (t : List ℕ). items_from place t) (sym walk.2)
stops place octets items (Ran at) h walk =
    let rest : IsOctets walk.0 = IsOctets-back (items_text items) walk.0 (subst IsOctets walk.2 h) in
    ap (λ (n : ℕ). list_at items (Ran n)) walk.4
    ∙ sym (items_from-ran items place walk.0 walk.1 (short-StartsCut walk.0 rest walk.3))
    ∙ ap (λ (t : List ℕ). items_from place t) (sym walk.2)

pub one_walk : IsOneWalk
one_walk place octets walk h = (
  λ is. stops place octets walk.items walk.stop h is,
  λ same. subst (λ (w : ItemList). ItemsFrom place octets w) (sym same) (ItemsFrom-items_from place octets h),
)

-- where a slice's octets are known
pub IsOctets-slice : (octets : List ℕ) → ((i : ℕ) → get_or octets i 0 < 256) → IsOctets octets
IsOctets-slice [] h k d below = absurd (omega arith)
IsOctets-slice (x ∷ xs) h zero d below = h 0
IsOctets-slice (x ∷ xs) h (suc k) d below = IsOctets-slice xs (λ i. h (suc i)) k d (omega arith)

-- the walk goes on behind an item at the front
pub items_from-next : (place n : ℕ) (octets rest : List ℕ) (item : ItemValue) → starts_whole octets ≡ true → starts_end octets ≡ false
    → item ≡ item_in octets → n ≡ item_len octets → rest ≡ drop n octets → items_from place octets ≡ with_item item (items_from (place + n) rest)
items_from-next place n octets rest item whole end same len later =
    items_from-item place octets whole end
    ∙ ap (λ (i : ItemValue). with_item i (items_from (place + item_len octets) (drop (item_len octets) octets))) (sym same)
    ∙ ap (λ (m : ℕ). with_item item (items_from (place + m) (drop m octets))) (sym len)
    ∙ ap (λ (t : List ℕ). with_item item (items_from (place + n) t)) (sym later)

-- no item comes where no whole one stands at the front, or the end item
pub items_from-none : (place : ℕ) (octets : List ℕ) → ((starts_whole octets ≡ false) ⊎ (starts_end octets ≡ true)) → (items_from place octets).items ≡ []
unfolding none_at
items_from-none place octets none =
    elim (cases_Bool (starts_whole octets)) [
      | inr cut ↦ ap (λ (w : ItemList). w.items) (items_from-cut place octets cut)
      | inl whole ↦
          elim none [
            | inl cut ↦ ap (λ (w : ItemList). w.items) (items_from-cut place octets cut)
            | inr end ↦ ap (λ (w : ItemList). w.items) (items_from-end place octets whole end)
          ]
    ]

-- what ends no items
pub items_from-stop : (place : ℕ) (octets : List ℕ) → (items_from place octets).items ≡ []
    → (items_from place octets).stop ≡ cond (starts_whole octets && starts_end octets) (EndItem place) (Ran place)
unfolding none_at
items_from-stop place octets none = by (starts_whole octets) (starts_end octets) refl refl
  where
    some : {item : ItemValue} {items : List ItemValue} → item ∷ items ≡ [] → ⊥
    some e = cc

    by : (whole end : Bool) → starts_whole octets ≡ whole → starts_end octets ≡ end
        → (items_from place octets).stop ≡ cond (starts_whole octets && starts_end octets) (EndItem place) (Ran place)
    by false end w e =
        ap (λ (walk : ItemList). walk.stop) (items_from-cut place octets w)
        ∙ ap (λ (b : Bool). cond (b && starts_end octets) (EndItem place) (Ran place)) (sym w)
    by true true w e =
        ap (λ (walk : ItemList). walk.stop) (items_from-end place octets w e)
        ∙ ap (λ (b : Bool). cond (b && true) (EndItem place) (Ran place)) (sym w)
        ∙ ap (λ (b : Bool). cond (starts_whole octets && b) (EndItem place) (Ran place)) (sym e)
    by true false w e = absurd (some (sym (ap (λ (walk : ItemList). walk.items) (items_from-item place octets w e)) ∙ none))
