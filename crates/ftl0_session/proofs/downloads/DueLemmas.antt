-- What is due, and what is left of it once octets were sent.
use Rattle.std.proofs.Common.{◌≡◌, ℕ, zero, suc, ◌+◌, ◌-◌, ◌≤◌, ◌<◌, min, List, [], ◌∷◌, ◌++◌, length, map, get_or, take, drop, refl, sym, ap, ◌∙◌, append_assoc, arith, inl, inr, true, length-append, length-drop, drop-cons, add-one}
use Rattle.std.proofs.lemmas.Grind.{common_steps}
use Rattle.ftl0_session.proofs.Names.{take-append-add, drop-append-add, take-length, drop-length, cases_lt, drop-append-le, drop-drop, drop-take, length-take, flat_map_more, map-append, take-append-le, take_min, take_more, AllByRecursion, flat_map, list_any, IsCompleteIn, KeepsComplete, Store, entry_of, octets_at, AreStored, IsDueIn, IsStored, LiesIn, after_octets, due_len, due_octets, is_stored, joined, moved, octets_due, state_after, state_at_end, DownloadState, Due, kept, listing, octets_in, ready, sending, stored, waiting}

-- ---- prefixes and rests of lists

-- all of a list, if more is asked
pub take-all : (n : ℕ) (xs : List ℕ) → length xs ≤ n → take n xs ≡ xs
take-all n xs le = sym (take_min n xs) ∙ ap (λ (k : ℕ). take k xs) (least n (length xs) le) ∙ take-length xs
  where
    least : (a b : ℕ) → b ≤ a → min a b ≡ b
    least a b h = omega arith

drop-all : (n : ℕ) (xs : List ℕ) → length xs ≤ n → drop n xs ≡ []
drop-all n xs le =
    let split : n ≡ length xs + (n - length xs) = omega arith in
    ap (λ (k : ℕ). drop k xs) split ∙ sym (drop-drop (n - length xs) (length xs) xs) ∙ ap (λ (l : List ℕ). drop (n - length xs) l) (drop-length xs) ∙ drop-none (n - length xs)
  where
    drop-none : (k : ℕ) → drop {A = ℕ} k [] ≡ []
    drop-none zero = refl
    drop-none (suc k) = refl

pub take-both : (n : ℕ) (xs ys : List ℕ) → take n (xs ++ ys) ≡ take n xs ++ take (n - length xs) ys
take-both n xs ys = elim (cases_lt (length xs) n) [
  | inl more ↦
      let split : n ≡ length xs + (n - length xs) = omega arith in
      ap (λ (k : ℕ). take k (xs ++ ys)) split ∙ take-append-add xs ys (n - length xs)
      ∙ ap (λ (l : List ℕ). l ++ take (n - length xs) ys) (sym (take-all n xs (omega arith)))
  | inr within ↦
      let none : n - length xs ≡ 0 = omega arith in
      take-append-le n xs ys within ∙ sym (ap (λ (k : ℕ). take n xs ++ take k ys) none ∙ grind (arith, common_steps))
]

pub drop-both : (n : ℕ) (xs ys : List ℕ) → drop n (xs ++ ys) ≡ drop n xs ++ drop (n - length xs) ys
drop-both n xs ys = elim (cases_lt (length xs) n) [
  | inl more ↦
      let split : n ≡ length xs + (n - length xs) = omega arith in
      ap (λ (k : ℕ). drop k (xs ++ ys)) split ∙ drop-append-add xs ys (n - length xs)
      ∙ ap (λ (l : List ℕ). l ++ drop (n - length xs) ys) (sym (drop-all n xs (omega arith)))
  | inr within ↦
      let none : n - length xs ≡ 0 = omega arith in
      drop-append-le n xs ys within ∙ ap (λ (k : ℕ). drop n xs ++ drop k ys) (sym none)
]

-- the rest of a part
pub drop-part : (n m : ℕ) (xs : List ℕ) → drop n (take m xs) ≡ take (m - min n m) (drop (min n m) xs)
drop-part n m xs = elim (cases_lt m n) [
  | inl past ↦
      let few : length (take m xs) ≤ n = omega (arith, length-take m xs) in
      let none : m - min n m ≡ 0 = omega arith in
      drop-all n (take m xs) few ∙ sym (ap (λ (k : ℕ). take k (drop (min n m) xs)) none)
  | inr within ↦
      let split : m ≡ n + (m - n) = omega arith in
      let least : min n m ≡ n = omega arith in
      ap (λ (k : ℕ). drop n (take k xs)) split ∙ drop-take n (m - n) xs
      ∙ sym (ap (λ (k : ℕ). take (m - k) (drop k xs)) least)
]

-- ---- the octets that are due

pub length-stored : (store : Store) (number place last : ℕ) → LiesIn store number place last
    → length (due_octets store (stored number place last)) ≡ last - place
length-stored store number place last lies =
    let file = octets_in store number in
    omega (arith, length-take (last - place) (drop place file), length-drop place file, lies.forward, lies.within)

pub length-due : (store : Store) (due : Due) → IsStored store due → length (due_octets store due) ≡ due_len due
length-due store (stored number place last) is = length-stored store number place last is
length-due store (kept octets) is = refl

-- this many octets of it lie within it too
pub lies-moved : (store : Store) (number place last count : ℕ) → LiesIn store number place last
    → LiesIn store number (place + min count (last - place)) last
lies-moved store number place last count lies = record {
  complete = lies.complete;
  forward = omega (arith, lies.forward);
  within = lies.within;
}

pub stored-moved : (store : Store) (due : Due) (count : ℕ) → IsStored store due → IsStored store (moved (min count (due_len due)) due)
stored-moved store (stored number place last) count is = lies-moved store number place last count is
stored-moved store (kept octets) count is = tt

pub stored-after : (store : Store) (dues : List Due) (count : ℕ) → AreStored store dues → AreStored store (after_octets count dues)
stored-after store [] count are = tt
stored-after store (due ∷ later) count are = (stored-moved store due count are.0, stored-after store later (count - due_len due) are.1)

pub due-after : (store : Store) (state : DownloadState) (count : ℕ) → IsDueIn store state → IsDueIn store (state_after count state)
due-after store ready count is = tt
due-after store (sending number place last) count is = lies-moved store number place last count is
due-after store waiting count is = tt
due-after store (listing dues) count is = stored-after store dues count is

pub due-at_end : (store : Store) (state : DownloadState) → IsDueIn store (state_at_end state)
due-at_end store ready = tt
due-at_end store (sending number place last) = tt
due-at_end store waiting = tt
due-at_end store (listing dues) = tt

-- what is left is the rest
pub octets-moved : (store : Store) (number place last count : ℕ)
    → due_octets store (stored number (place + min count (last - place)) last) ≡ drop count (due_octets store (stored number place last))
octets-moved store number place last count =
    let file = octets_in store number in
    let less : last - (place + min count (last - place)) ≡ (last - place) - min count (last - place) = omega arith in
    ap (λ (k : ℕ). take k (drop (place + min count (last - place)) file)) less
    ∙ ap (λ (l : List ℕ). take ((last - place) - min count (last - place)) l) (sym (drop-drop (min count (last - place)) place file))
    ∙ sym (drop-part count (last - place) (drop place file))

drop-least : (count : ℕ) (octets : List ℕ) → drop (min count (length octets)) octets ≡ drop count octets
drop-least count octets = elim (cases_lt (length octets) count) [
  | inl past ↦
      let least : min count (length octets) ≡ length octets = omega arith in
      ap (λ (k : ℕ). drop k octets) least ∙ drop-length octets ∙ sym (drop-all count octets (omega arith))
  | inr within ↦
      let least : min count (length octets) ≡ count = omega arith in
      ap (λ (k : ℕ). drop k octets) least
]

pub octets-after_one : (store : Store) (due : Due) (count : ℕ) → due_octets store (moved (min count (due_len due)) due) ≡ drop count (due_octets store due)
octets-after_one store (stored number place last) count = octets-moved store number place last count
octets-after_one store (kept octets) count = drop-least count octets

pub joined-after : (store : Store) (dues : List Due) (count : ℕ) → AreStored store dues → joined store (after_octets count dues) ≡ drop count (joined store dues)
joined-after store [] zero are = refl
joined-after store [] (suc count) are = refl
joined-after store (due ∷ later) count are =
    ap (λ (l : List ℕ). l ++ joined store (after_octets (count - due_len due) later)) (octets-after_one store due count)
    ∙ ap (λ (l : List ℕ). drop count (due_octets store due) ++ l) (joined-after store later (count - due_len due) are.1)
    ∙ ap (λ (k : ℕ). drop count (due_octets store due) ++ drop (count - k) (joined store later)) (sym (length-due store due are.0))
    ∙ sym (drop-both count (due_octets store due) (joined store later))

pub octets_due-after : (store : Store) (state : DownloadState) (count : ℕ) → IsDueIn store state → octets_due store (state_after count state) ≡ drop count (octets_due store state)
octets_due-after store ready zero is = refl
octets_due-after store ready (suc count) is = refl
octets_due-after store (sending number place last) count is = octets-moved store number place last count
octets_due-after store waiting zero is = refl
octets_due-after store waiting (suc count) is = refl
octets_due-after store (listing dues) count is = joined-after store dues count is

-- ---- the store keeps its complete files

entry-kept : (before now : Store) (number : ℕ) → KeepsComplete before now → IsCompleteIn before number → entry_of now number ≡ entry_of before number
entry-kept before now number keeps is = keeps number is.0 is.1 is.2 ∙ sym is.1

pub complete-kept : (before now : Store) (number : ℕ) → KeepsComplete before now → IsCompleteIn before number → IsCompleteIn now number
complete-kept before now number keeps is = (is.0, keeps number is.0 is.1 is.2, is.2)

pub lies-kept : (before now : Store) (number place last : ℕ) → KeepsComplete before now → LiesIn before number place last → LiesIn now number place last
lies-kept before now number place last keeps lies = record {
  complete = complete-kept before now number keeps lies.complete;
  forward = lies.forward;
  within = omega (arith, lies.within, ap (λ e. length (octets_at e)) (entry-kept before now number keeps lies.complete));
}

octets-kept : (before now : Store) (number place last : ℕ) → KeepsComplete before now → LiesIn before number place last
    → due_octets now (stored number place last) ≡ due_octets before (stored number place last)
octets-kept before now number place last keeps lies =
    ap (λ e. take (last - place) (drop place (octets_at e))) (entry-kept before now number keeps lies.complete)

stored-kept : (before now : Store) (due : Due) → KeepsComplete before now → IsStored before due → IsStored now due
stored-kept before now (stored number place last) keeps is = lies-kept before now number place last keeps is
stored-kept before now (kept octets) keeps is = tt

one-kept : (before now : Store) (due : Due) → KeepsComplete before now → IsStored before due → due_octets now due ≡ due_octets before due
one-kept before now (stored number place last) keeps is = octets-kept before now number place last keeps is
one-kept before now (kept octets) keeps is = refl

all-kept : (before now : Store) (dues : List Due) → KeepsComplete before now → AreStored before dues → AreStored now dues × (joined now dues ≡ joined before dues)
all-kept before now [] keeps are = (tt, refl)
all-kept before now (due ∷ later) keeps are =
    let rest = all-kept before now later keeps are.1 in (
      (stored-kept before now due keeps are.0, rest.0),
      ap (λ (l : List ℕ). l ++ joined now later) (one-kept before now due keeps are.0) ∙ ap (λ (l : List ℕ). due_octets before due ++ l) rest.1,
    )

pub due-kept : (before now : Store) (state : DownloadState) → KeepsComplete before now → IsDueIn before state
    → IsDueIn now state × (octets_due now state ≡ octets_due before state)
due-kept before now ready keeps is = (tt, refl)
due-kept before now (sending number place last) keeps is =
    (lies-kept before now number place last keeps is, octets-kept before now number place last keeps is)
due-kept before now waiting keeps is = (tt, refl)
due-kept before now (listing dues) keeps is = all-kept before now dues keeps is

-- ---- reading what is due, one after another

-- one more's octets after those that are there
pub part-more : (part octets rest : List ℕ) (most : ℕ) → length part ≤ most
    → (part ++ take (most - length part) octets) ++ take (most - length (part ++ take (most - length part) octets)) rest ≡ part ++ take (most - length part) (octets ++ rest)
part-more part octets rest most few =
    let r = most - length part in
    let left : most - length (part ++ take r octets) ≡ r - length octets = omega (arith, length-append part (take r octets), length-take r octets) in
    ap (λ (k : ℕ). (part ++ take r octets) ++ take k rest) left
    ∙ append_assoc part (take r octets) (take (r - length octets) rest)
    ∙ ap (λ (l : List ℕ). part ++ l) (sym (take-both r octets rest))

pub joined-at : (store : Store) {X : Type 0} (f : X → Due) (xs : List X) (i : ℕ) → length (joined store (map f (drop i xs))) ≤ length (joined store (map f xs))
joined-at store f [] zero = omega arith
joined-at store f [] (suc i) = omega arith
joined-at store f (x ∷ xs) zero = omega arith
joined-at store f (x ∷ xs) (suc i) =
    omega (arith, joined-at store f xs i, length-append (due_octets store (f x)) (joined store (map f xs)))

pub at-map : {X Y : Type 0} (P : Y → Type 0) (f : X → Y) (xs : List X) (i : ℕ) (d : X) → i < length xs → AllByRecursion P (map f xs) → P (f (get_or xs i d))
at-map P f [] i d lt all = absurd (omega (arith, lt))
at-map P f (x ∷ xs) zero d lt all = all.0
at-map P f (x ∷ xs) (suc i) d lt all = at-map P f xs i d (omega (arith, lt)) all.1

-- something is due of one, so of all
pub some-at : (store : Store) {X : Type 0} (f : X → Due) (xs : List X) (i : ℕ) (d : X) → i < length xs → IsStored store (f (get_or xs i d)) → 0 < due_len (f (get_or xs i d))
    → 0 < length (joined store (map f xs))
some-at store f [] i d lt is some = absurd (omega (arith, lt))
some-at store f (x ∷ xs) zero d lt is some =
    omega (arith, some, length-due store (f x) is, length-append (due_octets store (f x)) (joined store (map f xs)))
some-at store f (x ∷ xs) (suc i) d lt is some =
    omega (arith, some-at store f xs i d (omega (arith, lt)) is some, length-append (due_octets store (f x)) (joined store (map f xs)))

-- the rest from a place on
rest-at : {X : Type 0} (xs : List X) (i : ℕ) (d : X) → i < length xs → drop i xs ≡ get_or xs i d ∷ drop (i + 1) xs
rest-at xs i d lt = rw (add-one, drop-cons xs i d)

-- how many octets there are after one more
abbrev pub HasMore : List ℕ → List ℕ → Due → Type 0
HasMore part octets due = length octets ≡ length part + min (254 - length part) (due_len due)

module _ {X : Type 0} (f : X → Due) (xs : List X) (i : ℕ) (d : X) (lt : i < length xs) (part octets : List ℕ) (few : length part ≤ 254) where
  abbrev due : Due
  due = f (get_or xs i d)

  pub step-octets : (store : Store) → octets ≡ part ++ take (254 - length part) (due_octets store due) → (whole : List ℕ)
      → part ++ take (254 - length part) (joined store (map f (drop i xs))) ≡ whole → octets ++ take (254 - length octets) (joined store (map f (drop (i + 1) xs))) ≡ whole
  step-octets store is whole so_far =
      ap (λ (l : List ℕ). l ++ take (254 - length l) (joined store (map f (drop (i + 1) xs)))) is
      ∙ part-more part (due_octets store due) (joined store (map f (drop (i + 1) xs))) 254 few
      ∙ ap (λ (l : List X). part ++ take (254 - length part) (joined store (map f l))) (sym (rest-at xs i d lt))
      ∙ so_far

  pub step-few : HasMore part octets due → length octets ≤ 254
  step-few more = omega (arith, few, more)

  pub step-left : HasMore part octets due → (left : List X) (moved_on : X) (whole : List Due) → f moved_on ≡ moved (min (254 - length part) (due_len due)) due
      → map f left ++ after_octets (254 - length part) (map f (drop i xs)) ≡ whole
      → map f (left ++ moved_on ∷ []) ++ after_octets (254 - length octets) (map f (drop (i + 1) xs)) ≡ whole
  step-left more left moved_on whole here so_far =
      let later : List Due = map f (drop (i + 1) xs) in
      let room : 254 - length octets ≡ (254 - length part) - due_len due = omega (arith, few, more) in
      ap (λ (l : List Due). l ++ after_octets (254 - length octets) later) (map-append f left (moved_on ∷ []))
      ∙ append_assoc (map f left) (f moved_on ∷ []) (after_octets (254 - length octets) later)
      ∙ ap (λ (x : Due). map f left ++ x ∷ after_octets (254 - length octets) later) here
      ∙ ap (λ (k : ℕ). map f left ++ moved (min (254 - length part) (due_len due)) due ∷ after_octets k later) room
      ∙ ap (λ (l : List X). map f left ++ after_octets (254 - length part) (map f l)) (sym (rest-at xs i d lt))
      ∙ so_far

  -- how many octets there are once all were read
  pub step-count : HasMore part octets due → (store : Store) → IsStored store due → (whole : ℕ)
      → length part + min (254 - length part) (length (joined store (map f (drop i xs)))) ≡ whole
      → length octets + min (254 - length octets) (length (joined store (map f (drop (i + 1) xs)))) ≡ whole
  step-count more store lies whole so_far =
      let rest : ℕ = length (joined store (map f (drop (i + 1) xs))) in
      let split : length (joined store (map f (drop i xs))) ≡ due_len due + rest =
      ap (λ (l : List X). length (joined store (map f l))) (rest-at xs i d lt) ∙ length-append (due_octets store due) (joined store (map f (drop (i + 1) xs)))
      ∙ ap (λ (n : ℕ). n + rest) (length-due store due lies) in
      omega (arith, few, more, split, so_far)

-- octets of one more
pub flat-more : (f : ℕ → List ℕ) (xs : List ℕ) (i : ℕ) (octets more : List ℕ) → i < length xs → octets ≡ flat_map f (take i xs) → more ≡ f (get_or xs i 0)
    → octets ++ more ≡ flat_map f (take (i + 1) xs)
flat-more f xs i octets more lt is here =
    ap (λ (l : List ℕ). l ++ more) is ∙ ap (λ (l : List ℕ). flat_map f (take i xs) ++ l) here
    ∙ flat_map_more f [] (take i xs) (get_or xs i 0)
    ∙ ap (flat_map f) (sym (take_more xs i 0 lt))

-- what is due of one more
pub map-more : {A B : Type 0} (f : ℕ → A) (h : B → A) (xs : List ℕ) (i : ℕ) (done : List B) (one : B) → i < length xs → map h done ≡ map f (take i xs) → h one ≡ f (get_or xs i 0)
    → map h (done ++ one ∷ []) ≡ map f (take (i + 1) xs)
map-more {A} {B} f h xs i done one lt is here =
    map-append h done (one ∷ []) ∙ ap (λ (l : List A). l ++ h one ∷ []) is ∙ ap (λ (a : A). map f (take i xs) ++ a ∷ []) here
    ∙ sym (map-append f (take i xs) (get_or xs i 0 ∷ [])) ∙ ap (λ (l : List ℕ). map f l) (sym (take_more xs i 0 lt))

pub stored-more : {B : Type 0} (h : B → Due) (store : Store) (done : List B) (one : B) → AreStored store (map h done) → IsStored store (h one) → AreStored store (map h (done ++ one ∷ []))
stored-more h store [] one are is = (is, tt)
stored-more h store (x ∷ done) one are is = (are.0, stored-more h store done one are.1 is)

-- what is kept is not read, and headers are
pub read-some : (store : Store) {X : Type 0} (f : X → Due) (xs : List X) → ((x : X) → is_stored (f x) ≡ true) → 0 < length (joined store (map f xs)) → list_any is_stored (map f xs) ≡ true
read-some store f [] stores some = absurd (omega (arith, some))
read-some store f (x ∷ xs) stores some = rw (stores x) refl

-- the first octets of those that are left
pub first-left : (forms shown : List ℕ) (sent count : ℕ) → shown ≡ forms → count ≡ min (length (take (length shown - sent) (drop sent shown))) 254
    → take count (take (length shown - sent) (drop sent shown)) ≡ take 254 (drop sent forms)
first-left forms shown sent count same is =
    let left : List ℕ = drop sent shown in
    let all : take (length shown - sent) left ≡ left = take-all (length shown - sent) left (omega (arith, length-drop sent shown)) in
    let least : count ≡ min 254 (length left) = omega (arith, is, ap (λ (l : List ℕ). length l) all) in
    ap (λ (l : List ℕ). take count l) all ∙ ap (λ (k : ℕ). take k left) least ∙ take_min 254 left ∙ ap (λ (l : List ℕ). take 254 (drop sent l)) same
