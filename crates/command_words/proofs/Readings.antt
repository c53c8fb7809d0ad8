-- What is read of the words are the places and the values of a line.
use Rattle.std.proofs.Common.{◌≡◌, ◌≤◌, ℕ, zero, suc, Bool, true, false, not, List, [], ◌∷◌, ◌++◌, length, map, Option, None, Some, unwrap_or, refl, sym, ap, ap₂, ◌∙◌, subst, arith, inl, inr, true≢false, string_bytes}
use Rattle.std.proofs.lemmas.Str.{IsCharBoundary-after_ascii, IsUtf8-drop, IsUtf8-string_bytes, encodes-chars}
use Rattle.command_words.proofs.Names.{Contains, flat_map, slice_get, AllByRecursion, list_all, bytes_eq, chars, IsUtf8, String, and_parts, cases_Bool, not-true, or_parts, or_right, has_byte, IsPart, Line, Part, joined, line_places, line_value, place, place_in, spaced, value_in, values_of, are_apart, are_places, is_option_name}
use Rattle.command_words.proofs.Uses.{Text, Uses, add, add_all, add_all-is, add_all-single, add_all-some, has, has-none, has-values, text_eq, text_same, value_of, values}
use Rattle.command_words.proofs.Machine.{add_places, is_good, is_name, is_name-from, run, run-read, run-written, uses_after, written_by}
use Rattle.command_words.proofs.Rules.{AreApart, name_other, place_other}
use Rattle.command_words.proofs.ClapWalk.{IsFine}

-- ---- texts

-- the octets of a text after a hyphen begin with a character
pub fine_text : (text : Text) → IsUtf8 text → IsFine text
fine_text text utf8 x rest is =
    let whole : IsUtf8 (45 ∷ x ∷ rest) = subst IsUtf8 is utf8 in
    let after : IsUtf8 (x ∷ rest) = IsUtf8-drop (45 ∷ x ∷ rest) 1 whole (IsCharBoundary-after_ascii (45 ∷ x ∷ rest) 0 whole (omega arith) (omega arith)) in
    some (chars (x ∷ rest)) (encodes-chars (x ∷ rest) after)
  where
    some : (cs : List ℕ) → Rattle.std.specs.Str.encode_utf8_all cs ≡ x ∷ rest → (y : ℕ) × (slice_get cs 0 ≡ Some y)
    some [] e = absurd cc
    some (c ∷ cs) e = (c, refl)

pub fine_words : {Z : Type 0} (words : List (String Z)) → AllByRecursion IsFine (map string_bytes words)
fine_words [] = tt
fine_words (word ∷ words) = (fine_text (string_bytes word) (IsUtf8-string_bytes word), fine_words words)

-- ---- names

pub all_good : (ids names : List Text) → list_all (is_option_name ids) names ≡ true → list_all is_good names ≡ true
all_good ids [] e = refl
all_good ids ([] ∷ names) e = absurd (true≢false (sym e))
all_good ids ((x ∷ name) ∷ names) e =
    let parts = and_parts (is_option_name ids (x ∷ name)) (list_all (is_option_name ids) names) e in
    let no_equals : not (has_byte 61 (x ∷ name)) ≡ true = (and_parts _ _ parts.0).0 in
    rw no_equals (all_good ids names parts.1)

-- no option has the name of a place
pub apart_names : (names ids : List Text) → list_all (is_option_name ids) names ≡ true → AreApart names ids
apart_names [] ids e x known = absurd (true≢false (sym known))
apart_names ([] ∷ names) ids e x known = absurd (true≢false (sym e))
apart_names ((y ∷ name) ∷ names) ids e x known =
    let parts = and_parts (is_option_name ids (y ∷ name)) (list_all (is_option_name ids) names) e in
    elim (cases_Bool (bytes_eq (y ∷ name) x)) [
      | inl is ↦ subst (λ (text : Text). is_name ids text ≡ false) (text_same (y ∷ name) x is) (not-true _ (and_parts _ _ parts.0).1)
      | inr is ↦ let more : is_name names x ≡ true = rw is at known in apart_names names ids parts.1 x more
    ]

-- places are of different names
pub apart_places : (ids : List Text) → are_places ids ≡ true → are_apart ids ≡ true
apart_places ids placed = (and_parts _ (are_apart ids) placed).1

-- ---- the uses of parts

-- the places that come next, with the words that go to them
abbrev pub named : List Text → List Text → Uses
named left [] = []
named [] (word ∷ words) = []
named (id ∷ left) (word ∷ words) = (id, word) ∷ named left words

-- all uses of parts
abbrev pub uses_of : List Text → List Part → Option (List Text) → Uses
uses_of left [] end = named left (unwrap_or end [])
uses_of [] (place word ∷ parts) end = uses_of [] parts end
uses_of (id ∷ left) (place word ∷ parts) end = (id, word) ∷ uses_of left parts end
uses_of left (spaced name value ∷ parts) end = (name, value) ∷ uses_of left parts end
uses_of left (joined name value ∷ parts) end = (name, value) ∷ uses_of left parts end

abbrev pub places_with : List Part → Option (List Text) → List Text
places_with parts end = flat_map place_in parts ++ unwrap_or end []

add_places-fit : (left words : List Text) (before : Option Uses) → length words ≤ length left → add_places left words before ≡ add_all before (named left words)
add_places-fit left [] before fit = refl
add_places-fit [] (word ∷ words) before fit = absurd (omega arith)
add_places-fit (id ∷ left) (word ∷ words) before fit = add_places-fit left words (add (id, word) before) (omega arith)

-- where there is a place for each, all uses are added
uses-fit : (left : List Text) (parts : List Part) (end : Option (List Text)) (before : Option Uses) → length (places_with parts end) ≤ length left
    → uses_after left parts end before ≡ add_all before (uses_of left parts end)
uses-fit left [] end before fit = add_places-fit left (unwrap_or end []) before fit
uses-fit [] (place word ∷ parts) end before fit = absurd (omega arith)
uses-fit (id ∷ left) (place word ∷ parts) end before fit = uses-fit left parts end (add (id, word) before) (omega arith)
uses-fit left (spaced name value ∷ parts) end before fit = uses-fit left parts end (add (name, value) before) fit
uses-fit left (joined name value ∷ parts) end before fit = uses-fit left parts end (add (name, value) before) fit

add_places-few : (left words : List Text) (before : Option Uses) (all : Uses) → add_places left words before ≡ Some all → length words ≤ length left
add_places-few left [] before all e = omega arith
add_places-few [] (word ∷ words) before all e = let no : None ≡ Some all = e in absurd cc
add_places-few (id ∷ left) (word ∷ words) before all e = let more = add_places-few left words (add (id, word) before) all e in omega arith

-- and else they aren't
uses-few : (left : List Text) (parts : List Part) (end : Option (List Text)) (before : Option Uses) (all : Uses) → uses_after left parts end before ≡ Some all
    → length (places_with parts end) ≤ length left
uses-few left [] end before all e = add_places-few left (unwrap_or end []) before all e
uses-few [] (place word ∷ parts) end before all e = let no : None ≡ Some all = e in absurd cc
uses-few (id ∷ left) (place word ∷ parts) end before all e = let more = uses-few left parts end (add (id, word) before) all e in omega arith
uses-few left (spaced name value ∷ parts) end before all e = uses-few left parts end (add (name, value) before) all e
uses-few left (joined name value ∷ parts) end before all e = uses-few left parts end (add (name, value) before) all e

-- ---- their values

-- places have their own names alone
values-named_none : (left words : List Text) (x : Text) → is_name left x ≡ false → values x (named left words) ≡ []
values-named_none left [] x none = refl
values-named_none [] (word ∷ words) x none = refl
values-named_none (id ∷ left) (word ∷ words) x none =
    let parts = or_parts (bytes_eq id x) (is_name left x) none in
    rw parts.0 (values-named_none left words x parts.1)

-- what is no place's name has the options' values
values-option : (left : List Text) (parts : List Part) (end : Option (List Text)) (x : Text) → is_name left x ≡ false
    → values x (uses_of left parts end) ≡ flat_map (value_in x) parts
values-option left [] end x none = values-named_none left (unwrap_or end []) x none
values-option [] (place word ∷ parts) end x none = values-option [] parts end x none
values-option (id ∷ left) (place word ∷ parts) end x none =
    let both = or_parts (bytes_eq id x) (is_name left x) none in
    rw both.0 (values-option left parts end x both.1)
values-option left (spaced name value ∷ parts) end x none = ap (λ (more : List Text). value_of x (name, value) ++ more) (values-option left parts end x none)
values-option left (joined name value ∷ parts) end x none = ap (λ (more : List Text). value_of x (name, value) ++ more) (values-option left parts end x none)

-- and what is no option's name has the places
values-place : (names left : List Text) (parts : List Part) (end : Option (List Text)) (x : Text) → is_name names x ≡ false → AllByRecursion (IsPart names) parts
    → values x (uses_of left parts end) ≡ values x (named left (places_with parts end))
values-place names left [] end x none each = refl
values-place names [] (place word ∷ parts) end x none each =
    values-place names [] parts end x none each.1 ∙ values-named_none [] (places_with parts end) x refl
values-place names (id ∷ left) (place word ∷ parts) end x none each =
    ap (λ (more : List Text). value_of x (id, word) ++ more) (values-place names left parts end x none each.1)
values-place names left (spaced name value ∷ parts) end x none each =
    rw (name_other names x name none (is_name-from names name each.0.0)) (values-place names left parts end x none each.1)
values-place names left (joined name value ∷ parts) end x none each =
    rw (name_other names x name none (is_name-from names name each.0)) (values-place names left parts end x none each.1)

-- ---- places of different names

-- each has at most one value,
named_single : (left words : List Text) (x : Text) → are_apart left ≡ true → length (values x (named left words)) ≤ 1
named_single left [] x apart = omega arith
named_single [] (word ∷ words) x apart = omega arith
named_single (id ∷ left) (word ∷ words) x apart =
    let parts = and_parts (not (is_name left id)) (are_apart left) apart in
    let fresh = not-true (is_name left id) parts.0 in
    elim (cases_Bool (bytes_eq id x)) [
      | inl is ↦
          let none : values x (named left words) ≡ [] =
          subst (λ (y : Text). values y (named left words) ≡ []) (text_same id x is) (values-named_none left words id fresh) in
          rw (is, none) (omega arith)
      | inr other ↦ rw other (named_single left words x parts.1)
    ]

-- one, where there is a word for each,
named_given : (left words : List Text) (x : Text) → length left ≤ length words → is_name left x ≡ true → 1 ≤ length (values x (named left words))
named_given [] words x fit known = absurd (true≢false (sym known))
named_given (id ∷ left) [] x fit known = absurd (omega arith)
named_given (id ∷ left) (word ∷ words) x fit known = elim (cases_Bool (bytes_eq id x)) [
  | inl is ↦ rw is (omega arith)
  | inr other ↦
      let more : is_name left x ≡ true = rw other at known in
      rw other (named_given left words x (omega arith) more)
]

-- and only then,
named_all : (left words : List Text) → are_apart left ≡ true → ((x : Text) → is_name left x ≡ true → 1 ≤ length (values x (named left words)))
    → length left ≤ length words
named_all [] words apart given = omega arith
named_all (id ∷ left) [] apart given =
    let one : 1 ≤ 0 = given id (rw (text_eq id id refl) refl) in
    absurd (omega arith)
named_all (id ∷ left) (word ∷ words) apart given =
    let parts = and_parts (not (is_name left id)) (are_apart left) apart in
    let rest : length left ≤ length words = named_all left words parts.1 (λ x known.
    let other = place_other left id x (not-true (is_name left id) parts.0) known in
    let one : 1 ≤ length (values x ((id, word) ∷ named left words)) = given x (rw (other, known) refl) in
    rw other at one) in
    omega arith

-- and that is the word.
named_first : (f : Text → Option Text) (left words : List Text) → are_apart left ≡ true → length words ≡ length left
    → ((x : Text) → is_name left x ≡ true → f x ≡ slice_get (values x (named left words)) 0) → map f left ≡ map (λ text. Some text) words
named_first f [] [] apart same given = refl
named_first f [] (word ∷ words) apart same given = absurd (omega arith)
named_first f (id ∷ left) [] apart same given = absurd (omega arith)
named_first f (id ∷ left) (word ∷ words) apart same given =
    let parts = and_parts (not (is_name left id)) (are_apart left) apart in
    let first : f id ≡ Some word = given id (rw (text_eq id id refl) refl) ∙ rw (text_eq id id refl) refl in
    let rest = named_first f left words parts.1 (omega arith) (λ x known.
    let other = place_other left id x (not-true (is_name left id) parts.0) known in
    let one : f x ≡ slice_get (values x ((id, word) ∷ named left words)) 0 = given x (rw (other, known) refl) in
    rw other at one) in
    ap₂ (λ (o : Option Text) (os : List (Option Text)). o ∷ os) first rest

-- what is no option's name has no value
pub no_values : (names : List Text) (x : Text) (parts : List Part) → is_name names x ≡ false → AllByRecursion (IsPart names) parts
    → flat_map (value_in x) parts ≡ []
no_values names x [] none each = refl
no_values names x (place word ∷ parts) none each = no_values names x parts none each.1
no_values names x (spaced name value ∷ parts) none each =
    rw (name_other names x name none (is_name-from names name each.0.0)) (no_values names x parts none each.1)
no_values names x (joined name value ∷ parts) none each =
    rw (name_other names x name none (is_name-from names name each.0)) (no_values names x parts none each.1)

-- ---- what is found of a place

pub some_texts : (one other : List Text) → map (λ text. Some text) one ≡ map (λ text. Some text) other → one ≡ other
some_texts [] [] e = refl
some_texts [] (text ∷ texts) e = absurd cc
some_texts (text ∷ texts) [] e = absurd cc
some_texts (text ∷ texts) (other ∷ others) e =
    let first : text ≡ other = cc in
    let rest : map (λ t. Some t) texts ≡ map (λ t. Some t) others = cc in
    ap₂ (λ (t : Text) (ts : List Text). t ∷ ts) first (some_texts texts others rest)

-- these texts are found of places
abbrev pub AreFound : List (Option Text) → List Text → Type 0
AreFound [] [] = Unit
AreFound [] (text ∷ texts) = ⊥
AreFound (first ∷ firsts) [] = ⊥
AreFound (first ∷ firsts) (text ∷ texts) = (Some text ≡ first) × AreFound firsts texts

found_texts : (firsts : List (Option Text)) (texts : List Text) → AreFound firsts texts → firsts ≡ map (λ text. Some text) texts
found_texts [] [] found = refl
found_texts [] (text ∷ texts) found = absurd found
found_texts (first ∷ firsts) [] found = absurd found
found_texts (first ∷ firsts) (text ∷ texts) found =
    ap₂ (λ (o : Option Text) (os : List (Option Text)). o ∷ os) (sym found.0) (found_texts firsts texts found.1)

-- places that are found are all of them
pub all_found : (firsts : List (Option Text)) (places texts : List Text) → firsts ≡ map (λ text. Some text) places → AreFound firsts texts → places ≡ texts
all_found firsts places texts e found = some_texts places texts (sym e ∙ found_texts firsts texts found)

-- and none of them is missing
pub none_missing : (firsts : List (Option Text)) (places : List Text) → firsts ≡ map (λ text. Some text) places → Contains firsts None → ⊥
none_missing [] places e (k, inside, missing) = omega (arith, inside)
none_missing (first ∷ firsts) [] e missing = absurd cc
none_missing (first ∷ firsts) (text ∷ texts) e (zero, inside, missing) =
    let some : first ≡ Some text = cc in
    let no : Some text ≡ None = sym some ∙ missing in
    absurd cc
none_missing (first ∷ firsts) (text ∷ texts) e (suc k, inside, missing) =
    let rest : firsts ≡ map (λ t. Some t) texts = cc in
    none_missing firsts texts rest (k, omega (arith, inside), missing)

-- ---- lines

-- all places of the command are given
abbrev pub are_given : List Text → Uses → Bool
are_given ids uses = list_all (λ id. has id uses) ids

all_given : (ids : List Text) (uses : Uses) → ((x : Text) → is_name ids x ≡ true → has x uses ≡ true) → are_given ids uses ≡ true
all_given [] uses given = refl
all_given (id ∷ ids) uses given =
    rw (given id (rw (text_eq id id refl) refl)) (all_given ids uses (λ x known. given x (rw (known, or_right (bytes_eq id x) true refl) refl)))

one_given : (ids : List Text) (uses : Uses) (x : Text) → are_given ids uses ≡ true → is_name ids x ≡ true → has x uses ≡ true
one_given [] uses x given known = absurd (true≢false (sym known))
one_given (id ∷ ids) uses x given known =
    let parts = and_parts (has id uses) (are_given ids uses) given in
    elim (cases_Bool (bytes_eq id x)) [
      | inl is ↦ subst (λ (y : Text). has y uses ≡ true) (text_same id x is) parts.0
      | inr other ↦ let more : is_name ids x ≡ true = rw other at known in one_given ids uses x parts.1 more
    ]

values-has : (x : Text) (uses : Uses) → 1 ≤ length (values x uses) → has x uses ≡ true
values-has x uses some = elim (cases_Bool (has x uses)) [
  | inl is ↦ is
  | inr none ↦ let empty = has-none x uses none in absurd (omega (arith, ap (λ (texts : List Text). length texts) empty))
]

module _ (names ids : List Text) (apart : AreApart names ids) (distinct : are_apart ids ≡ true) where
  -- no place is an option
  no_option : (x : Text) → is_name ids x ≡ true → is_name names x ≡ false
  no_option x known = elim (cases_Bool (is_name names x)) [
    | inl is ↦ absurd (true≢false (sym known ∙ apart x is))
    | inr is ↦ is
  ]

  abbrev pub uses_in : {words : List Text} {count : ℕ} → Line names words count → Uses
  uses_in line = uses_of ids line.reading.parts line.reading.end

  place_values : {words : List Text} {count : ℕ} (line : Line names words count) (x : Text) → is_name ids x ≡ true
      → values x (uses_in line) ≡ values x (named ids (line_places line))
  place_values line x known = values-place names ids line.reading.parts line.reading.end x (no_option x known) line.reading.each

  option_values : {words : List Text} {count : ℕ} (line : Line names words count) (x : Text) → is_name ids x ≡ false
      → values x (uses_in line) ≡ values_of line.reading x
  option_values line x other = values-option ids line.reading.parts line.reading.end x other

  -- each name has at most one value
  line_single : {words : List Text} {count : ℕ} (line : Line names words count) (x : Text) → length (values x (uses_in line)) ≤ 1
  line_single line x = elim (cases_Bool (is_name ids x)) [
    | inl known ↦ rw (place_values line x known) (named_single ids (line_places line) x distinct)
    | inr other ↦ rw (option_values line x other) (line.single x)
  ]

  -- words that are a line are read so
  pub line-run : (words : List Text) (good : list_all is_good names ≡ true) (line : Line names words (length ids))
      → (run names ids words None (Some []) ≡ Some (uses_in line)) × (are_given ids (uses_in line) ≡ true)
  line-run words good line =
      let reading = line.reading in
      let fit : length (line_places line) ≤ length ids = let same = line.counted in omega arith in
      let written : run names ids words None (Some []) ≡ run names ids (written_by reading.parts reading.end) None (Some []) =
      ap (λ (ws : List Text). run names ids ws None (Some [])) reading.written in (
        written ∙ run-written names good ids reading.parts reading.end (Some []) reading.each
            ∙ uses-fit ids reading.parts reading.end (Some []) fit ∙ add_all-some (uses_in line) [] (line_single line),
        all_given ids (uses_in line) (λ x known. values-has x (uses_in line)
            (rw (place_values line x known) (named_given ids (line_places line) x (let same = line.counted in omega arith) known))),
      )

  -- and so what was read is a line
  pub run-line : (words : List Text) (all : Uses) → run names ids words None (Some []) ≡ Some all → are_given ids all ≡ true
      → (line : Line names words (length ids)) × (uses_in line ≡ all)
  run-line words all e given =
      let read = run-read names ids words (Some []) all e in
      let few : length (places_with read.parts read.end) ≤ length ids = uses-few ids read.parts read.end (Some []) all read.uses in
      let added : add_all (Some []) (uses_of ids read.parts read.end) ≡ Some all = sym (uses-fit ids read.parts read.end (Some []) few) ∙ read.uses in
      let same : all ≡ uses_of ids read.parts read.end = add_all-is (uses_of ids read.parts read.end) [] all added in
      let single : (x : Text) → length (values x all) ≤ 1 = λ x. add_all-single (uses_of ids read.parts read.end) [] all x (omega arith) added in
      let many : length ids ≤ length (places_with read.parts read.end) = named_all ids (places_with read.parts read.end) distinct (λ x known.
      subst (λ (texts : List Text). 1 ≤ length texts)
      (ap (values x) same ∙ values-place names ids read.parts read.end x (no_option x known) read.each)
      (has-values x all (one_given ids all x given known))) in (
        record {
          reading = record { parts = read.parts; end = read.end; each = read.each; written = read.written };
          counted = omega arith;
          single = λ x. option_single read.parts read.end read.each all same single x;
        },
        sym same,
      )
    where
      option_single : (parts : List Part) (end : Option (List Text)) → AllByRecursion (IsPart names) parts → (all : Uses) → all ≡ uses_of ids parts end
          → ((x : Text) → length (values x all) ≤ 1) → (x : Text) → length (flat_map (value_in x) parts) ≤ 1
      option_single parts end each all same single x = elim (cases_Bool (is_name names x)) [
        | inl known ↦ subst (λ (texts : List Text). length texts ≤ 1) (ap (values x) same ∙ values-option ids parts end x (apart x known)) (single x)
        | inr none ↦ rw (no_values names x parts none each) (omega arith)
      ]

  -- the places and values of a line are what was read
  pub line_places_are : {words : List Text} (line : Line names words (length ids)) (f : Text → Option Text)
      → ((x : Text) → f x ≡ slice_get (values x (uses_in line)) 0) → map f ids ≡ map (λ text. Some text) (line_places line)
  line_places_are line f first =
      named_first f ids (line_places line) distinct line.counted
      (λ x known. first x ∙ ap (λ (texts : List Text). slice_get texts 0) (place_values line x known))

  pub line_value_is : {words : List Text} (line : Line names words (length ids)) (x : Text) → is_name names x ≡ true
      → slice_get (values x (uses_in line)) 0 ≡ line_value line x
  line_value_is line x known = ap (λ (texts : List Text). slice_get texts 0) (option_values line x (apart x known))
