-- Short headers, one after another.
use Rattle.std.proofs.Common.{◌≡◌, ℕ, suc, ◌+◌, ◌-◌, ◌*◌, ◌/◌, ◌<◌, ◌≤◌, Bool, true, false, List, [], length, take, drop, get_or, refl, sym, ap, ◌∙◌, arith, drop-cons, length-drop}
use Rattle.std.specs.Prelude.{◌&&◌, ◌==◌}
use Rattle.ftl0_client_job.proofs.Names.{take_all, bytes_eq, end_item, MandatoryItem, are_headers, are_items, begins_item, is_short_header, item_len, short_len}

-- all of what is left from a place on
pub rest-is : (octets : List ℕ) (count : ℕ) → take (length octets - count) (drop count octets) ≡ drop count octets
rest-is octets count = take_all (length octets - count) (drop count octets) (omega (arith, length-drop count octets))

-- the item of one rule, and those of the others
pub items-step : (rules : List MandatoryItem) (i : ℕ) (rule d : MandatoryItem) (left : List ℕ) → i < length rules → rule ≡ get_or rules i d
    → are_items (drop i rules) left ≡ (begins_item rule left && are_items (drop (i + 1) rules) (drop (item_len rule) left))
unfolding are_items
items-step rules i rule d left within is =
    let same : suc i ≡ i + 1 = omega arith in
    let next : drop (suc i) rules ≡ drop (i + 1) rules = ap (λ (k : ℕ). drop k rules) same in
    ap (λ (rs : List MandatoryItem). are_items rs left) (drop-cons rules i d within)
    ∙ ap (λ (r : MandatoryItem). begins_item r left && are_items (drop (suc i) rules) (drop (item_len r) left)) (sym is)
    ∙ ap (λ (rs : List MandatoryItem). begins_item rule left && are_items rs (drop (item_len rule) left)) next

-- one begins
pub items-on : (rules : List MandatoryItem) (i : ℕ) (rule d : MandatoryItem) (left : List ℕ) → i < length rules → rule ≡ get_or rules i d → begins_item rule left ≡ true
    → are_items (drop (i + 1) rules) (drop (item_len rule) left) ≡ are_items (drop i rules) left
items-on rules i rule d left within is begins = sym (items-step rules i rule d left within is ∙ ap (λ (b : Bool). b && are_items (drop (i + 1) rules) (drop (item_len rule) left)) begins)

-- none does
pub items-none : (rules : List MandatoryItem) (i : ℕ) (rule d : MandatoryItem) (left : List ℕ) → i < length rules → rule ≡ get_or rules i d → begins_item rule left ≡ false → are_items (drop i rules) left ≡ false
items-none rules i rule d left within is begins = items-step rules i rule d left within is ∙ ap (λ (b : Bool). b && are_items (drop (i + 1) rules) (drop (item_len rule) left)) begins

-- this number of headers: one, and the others
pub headers-step : (n i : ℕ) (left : List ℕ) → i < n → are_headers (n - i) left ≡ (is_short_header (take short_len left) && are_headers (n - (i + 1)) (drop short_len left))
unfolding are_headers
headers-step n i left within =
    let one : n - i ≡ suc (n - (i + 1)) = omega arith in
    ap (λ (k : ℕ). are_headers k left) one

pub headers-on : (n i : ℕ) (left : List ℕ) → i < n → is_short_header (take short_len left) ≡ true → are_headers (n - (i + 1)) (drop short_len left) ≡ are_headers (n - i) left
headers-on n i left within is = sym (headers-step n i left within ∙ ap (λ (b : Bool). b && are_headers (n - (i + 1)) (drop short_len left)) is)

pub headers-none : (n i : ℕ) (left : List ℕ) → i < n → is_short_header (take short_len left) ≡ false → are_headers (n - i) left ≡ false
headers-none n i left within is = headers-step n i left within ∙ ap (λ (b : Bool). b && are_headers (n - (i + 1)) (drop short_len left)) is

-- no rule is left, and no header
pub items-end : (left : List ℕ) → are_items [] left ≡ bytes_eq left end_item
unfolding are_items
items-end left = refl

pub headers-end : (left : List ℕ) → are_headers 0 left ≡ (length left == 0)
unfolding are_headers
headers-end left = refl

-- there are octets for a header as long as one is left of those that there are octets for
pub header-there : (octets left : List ℕ) (i : ℕ) → length left + 73 * i ≡ length octets → i < length octets / 73 → 73 ≤ length left
header-there octets left i all below = omega (arith, all, below)
