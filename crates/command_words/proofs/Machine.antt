-- The words read one after another, and that this reads exactly the grammar.
use Rattle.std.proofs.Common.{◌≡◌, ◌==◌, ℕ, zero, suc, Bool, true, false, cond, not, List, [], ◌∷◌, ◌++◌, Option, None, Some, unwrap_or, refl, sym, ap, ◌∙◌, subst, arith, inl, inr, true≢false, codes, append_assoc}
use Rattle.command_words.proofs.Names.{flat_map, Contains, AllByRecursion, list_all, list_any, after_first, before_first, bytes_eq, and_parts, cases_Bool, not-true, has_byte, IsDashed, IsPart, Part, joined, place, spaced, words_of, words_of_end}
use Rattle.command_words.proofs.Bytes.{split_at_byte, before_first-all}
use Rattle.command_words.proofs.WordKinds.{Kind, ended, form, is_end, is_long, is_plain, is_short, kind, kind-joined, kind-long, kind-plain, kind-short, kind-spaced, long, plain, short, value_in}
use Rattle.command_words.proofs.Uses.{Text, Uses, add, text_eq, text_same}

-- the command has an option of this name
abbrev pub is_name : List Text → Text → Bool
is_name names text = list_any (λ name. bytes_eq name text) names

-- a name that some octets write, and no `=`
abbrev pub is_good : Text → Bool
is_good [] = false
is_good (x ∷ name) = not (has_byte 61 (x ∷ name))

-- what an option's name is followed by, where the option waits for its value
abbrev pub on_waiting : Text → Option Uses → Kind → Text → (Option Text → Option Uses → Option Uses) → Option Uses
on_waiting name before plain word next = next None (add (name, word) before)
on_waiting name before ended word next = None
on_waiting name before (long other value) word next = None
on_waiting name before (short flags) word next = None

-- a word goes to the place that comes next, if there is one
abbrev pub on_place : List Text → Text → Option Uses → (List Text → Option Text → Option Uses → Option Uses) → Option Uses
on_place [] word before next = None
on_place (id ∷ left) word before next = next left None (add (id, word) before)

-- the same of all these words
abbrev pub add_places : List Text → List Text → Option Uses → Option Uses
add_places left [] before = before
add_places [] (word ∷ words) before = None
add_places (id ∷ left) (word ∷ words) before = add_places left words (add (id, word) before)

abbrev pub on_idle : List Text → List Text → Option Uses → Kind → Text → List Text → (List Text → Option Text → Option Uses → Option Uses) → Option Uses
on_idle names left before ended word words next = add_places left words before
on_idle names left before (long name None) word words next = cond (is_name names name) (next left (Some name) before) None
on_idle names left before (long name (Some value)) word words next = cond (is_name names name) (next left None (add (name, value) before)) None
on_idle names left before (short flags) word words next = None
on_idle names left before plain word words next = on_place left word before next

-- All uses that the words give after those before them, where they are parts, no two uses have one name, and no more places
-- come than are left.
abbrev pub run : List Text → List Text → List Text → Option Text → Option Uses → Option Uses
run names left [] None before = before
run names left [] (Some name) before = None
run names left (word ∷ words) None before = on_idle names left before (kind word) word words (λ rest. run names rest words)
run names left (word ∷ words) (Some name) before = on_waiting name before (kind word) word (run names left words)

-- all uses that parts give after those before them
abbrev pub uses_after : List Text → List Part → Option (List Text) → Option Uses → Option Uses
uses_after left [] end before = add_places left (unwrap_or end []) before
uses_after left (place word ∷ parts) end before = on_place left word before (λ rest waiting uses. uses_after rest parts end uses)
uses_after left (spaced name value ∷ parts) end before = uses_after left parts end (add (name, value) before)
uses_after left (joined name value ∷ parts) end before = uses_after left parts end (add (name, value) before)

-- the words are these parts and this end
abbrev pub written_by : List Part → Option (List Text) → List Text
written_by parts end = flat_map words_of parts ++ words_of_end end

good_spaced : (name : Text) → is_good name ≡ true → kind (codes "--" ++ name) ≡ long name None
good_spaced [] e = absurd (true≢false (sym e))
good_spaced (x ∷ name) e = kind-spaced x name (not-true _ e)

good_joined : (name value : Text) → is_good name ≡ true → kind (codes "--" ++ name ++ codes "=" ++ value) ≡ long name (Some value)
good_joined [] value e = absurd (true≢false (sym e))
good_joined (x ∷ name) value e = kind-joined x name value (not-true _ e)

pub is_name-from : (names : List Text) (name : Text) → Contains names name → is_name names name ≡ true
is_name-from [] name (k, inside, same) = absurd (omega arith)
is_name-from (first ∷ names) name (zero, inside, same) = rw (text_eq first name same) refl
is_name-from (first ∷ names) name (suc k, inside, same) = elim (cases_Bool (bytes_eq first name)) [
  | inl is ↦ rw is refl
  | inr is ↦ rw is (is_name-from names name (k, omega arith, same))
]

pub is_name-to : (names : List Text) (name : Text) → is_name names name ≡ true → Contains names name
is_name-to [] name e = absurd (true≢false (sym e))
is_name-to (first ∷ names) name e = elim (cases_Bool (bytes_eq first name)) [
  | inl is ↦ (0, omega arith, text_same first name is)
  | inr is ↦
      let more : is_name names name ≡ true = rw is at e in
      let rest = is_name-to names name more in
      (suc rest.0, omega (arith, rest.1), rest.2)
]

good_name : (names : List Text) (name : Text) → list_all is_good names ≡ true → is_name names name ≡ true → is_good name ≡ true
good_name [] name good e = absurd (true≢false (sym e))
good_name (first ∷ names) name good e =
    let parts = and_parts (is_good first) (list_all is_good names) good in
    elim (cases_Bool (bytes_eq first name)) [
      | inl is ↦ subst (λ (text : Text). is_good text ≡ true) (text_same first name is) parts.0
      | inr is ↦ let more : is_name names name ≡ true = rw is at e in good_name names name parts.1 more
    ]

module _ (names : List Text) (good : list_all is_good names ≡ true) where
  -- parts are read as their uses
  pub run-written : (left : List Text) (parts : List Part) (end : Option (List Text)) (before : Option Uses) → AllByRecursion (IsPart names) parts
      → run names left (written_by parts end) None before ≡ uses_after left parts end before
  run-written left [] None before each = refl
  run-written left [] (Some words) before each = refl
  run-written [] (place word ∷ parts) end before each = rw (kind-plain word each.0) refl
  run-written (id ∷ left) (place word ∷ parts) end before each =
      rw (kind-plain word each.0) (run-written left parts end (add (id, word) before) each.1)
  run-written left (spaced name value ∷ parts) end before each =
      let known = is_name-from names name each.0.0 in
      rw (good_spaced name (good_name names name good known), known, kind-plain value each.0.1)
      (run-written left parts end (add (name, value) before) each.1)
  run-written left (joined name value ∷ parts) end before each =
      let known = is_name-from names name each.0 in
      rw (good_joined name value (good_name names name good known), known)
      (run-written left parts end (add (name, value) before) each.1)

-- The words are parts, which give these uses after those before them.
pub record Read (names left words : List Text) (before : Option Uses) (all : Uses) : Type 0 where
  pub parts : List Part
  pub end : Option (List Text)
  pub each : AllByRecursion (IsPart names) parts
  pub written : words ≡ written_by parts end
  pub uses : uses_after left parts end before ≡ Some all

-- one part more at the front
read_more : {names left rest words : List Text} {before after : Option Uses} {all : Uses} (part : Part) (whole : List Text) → IsPart names part
    → whole ≡ words_of part ++ words → ((parts : List Part) (end : Option (List Text)) → uses_after left (part ∷ parts) end before ≡ uses_after rest parts end after)
    → Read names rest words after all → Read names left whole before all
read_more part whole is_part front same read = record {
  parts = part ∷ read.parts;
  end = read.end;
  each = (is_part, read.each);
  written = front ∙ ap (λ (words : List Text). words_of part ++ words) read.written
      ∙ sym (append_assoc (words_of part) (flat_map words_of read.parts) (words_of_end read.end));
  uses = same read.parts read.end ∙ read.uses;
}

-- `--name=value`, or `--name`
joined_word : (word : Text) (x : ℕ) (rest : Text) → word ≡ 45 ∷ 45 ∷ x ∷ rest → has_byte 61 (x ∷ rest) ≡ true
    → word ≡ codes "--" ++ before_first (λ y. y == 61) (x ∷ rest) ++ codes "=" ++ after_first (λ y. y == 61) (x ∷ rest)
joined_word word x rest is has =
    is ∙ ap (λ (text : Text). 45 ∷ 45 ∷ text) (split_at_byte 61 (x ∷ rest) has
    ∙ sym (append_assoc (before_first (λ y. y == 61) (x ∷ rest)) (61 ∷ []) (after_first (λ y. y == 61) (x ∷ rest))))

spaced_word : (word : Text) (x : ℕ) (rest : Text) → word ≡ 45 ∷ 45 ∷ x ∷ rest → has_byte 61 (x ∷ rest) ≡ false
    → word ≡ codes "--" ++ before_first (λ y. y == 61) (x ∷ rest)
spaced_word word x rest is none = is ∙ ap (λ (text : Text). 45 ∷ 45 ∷ text) (sym (before_first-all 61 (x ∷ rest) none))

module _ (names : List Text) where
  -- what a long option comes to
  read_long : (left : List Text) (word : Text) (words : List Text) (before : Option Uses) (all : Uses) (x : ℕ) (rest : Text) → word ≡ 45 ∷ 45 ∷ x ∷ rest
      → run names left (word ∷ words) None before ≡ Some all
      → ((value : Text) → word ≡ codes "--" ++ before_first (λ y. y == 61) (x ∷ rest) ++ codes "=" ++ value
      → Contains names (before_first (λ y. y == 61) (x ∷ rest))
      → run names left words None (add (before_first (λ y. y == 61) (x ∷ rest), value) before) ≡ Some all → Read names left (word ∷ words) before all)
      → (word ≡ codes "--" ++ before_first (λ y. y == 61) (x ∷ rest) → Contains names (before_first (λ y. y == 61) (x ∷ rest))
      → run names left words (Some (before_first (λ y. y == 61) (x ∷ rest))) before ≡ Some all → Read names left (word ∷ words) before all)
      → Read names left (word ∷ words) before all
  read_long left word words before all x rest is e with_value without =
      let name = before_first (λ y. y == 61) (x ∷ rest) in
      let kind_is : kind word ≡ long name (value_in (x ∷ rest)) = ap kind is ∙ kind-long x rest in
      elim (cases_Bool (has_byte 61 (x ∷ rest))) [
        | inl has ↦ elim (cases_Bool (is_name names name)) [
          | inl known ↦ with_value (after_first (λ y. y == 61) (x ∷ rest)) (joined_word word x rest is has) (is_name-to names name known) (rw (kind_is, has, known) at e)
          | inr unknown ↦ let no : None ≡ Some all = rw (kind_is, has, unknown) at e in absurd cc
        ]
        | inr none ↦ elim (cases_Bool (is_name names name)) [
          | inl known ↦ without (spaced_word word x rest is none) (is_name-to names name known) (rw (kind_is, none, known) at e)
          | inr unknown ↦ let no : None ≡ Some all = rw (kind_is, none, unknown) at e in absurd cc
        ]
      ]

  -- what a word comes to that is a place
  read_place : (left : List Text) (word : Text) (words : List Text) (before : Option Uses) (all : Uses) → (IsDashed word → ⊥)
      → on_place left word before (λ rest. run names rest words) ≡ Some all
      → ((rest : List Text) (after : Option Uses) → run names rest words None after ≡ Some all → Read names rest words after all)
      → Read names left (word ∷ words) before all
  read_place [] word words before all none e more = let no : None ≡ Some all = e in absurd cc
  read_place (id ∷ left) word words before all none e more =
      read_more (place word) (word ∷ words) none refl (λ parts end. refl) (more left (add (id, word) before) e)

  -- what is read is parts
  pub run-read : (left words : List Text) (before : Option Uses) (all : Uses) → run names left words None before ≡ Some all → Read names left words before all
  run-read left [] before all e = record { parts = []; end = None; each = tt; written = refl; uses = e }
  run-read left (word ∷ []) before all e = elim (form word) [
    | is_end is ↦ record { parts = []; end = Some []; each = tt; written = ap (λ (w : Text). w ∷ []) is; uses = rw (ap kind is) at e }
    | is_long x rest is ↦ read_long left word [] before all x rest is e
        (λ value written known more. read_more (joined (before_first (λ y. y == 61) (x ∷ rest)) value) (word ∷ []) known (ap (λ (w : Text). w ∷ []) written) (λ parts end. refl)
        (run-read left [] (add (before_first (λ y. y == 61) (x ∷ rest), value) before) all more))
        (λ written known more. let no : None ≡ Some all = more in absurd cc)
    | is_short x rest other is ↦ let no : None ≡ Some all = rw (is, kind-short x rest other) at e in absurd cc
    | is_plain none ↦ read_place left word [] before all none (rw (kind-plain word none) at e) (λ rest after more. run-read rest [] after all more)
  ]
  run-read left (word ∷ next ∷ words) before all e = elim (form word) [
    | is_end is ↦ record { parts = []; end = Some (next ∷ words); each = tt; written = ap (λ (w : Text). w ∷ next ∷ words) is; uses = rw (ap kind is) at e }
    | is_long x rest is ↦ read_long left word (next ∷ words) before all x rest is e
        (λ value written known more. read_more (joined (before_first (λ y. y == 61) (x ∷ rest)) value) (word ∷ next ∷ words) known (ap (λ (w : Text). w ∷ next ∷ words) written) (λ parts end. refl)
        (run-read left (next ∷ words) (add (before_first (λ y. y == 61) (x ∷ rest), value) before) all more))
        (λ written known more. elim (form next) [
          | is_end at ↦ let no : None ≡ Some all = rw (ap kind at) at more in absurd cc
          | is_long y tail at ↦ let no : None ≡ Some all = rw (ap kind at ∙ kind-long y tail) at more in absurd cc
          | is_short y tail other at ↦ let no : None ≡ Some all = rw (ap kind at ∙ kind-short y tail other) at more in absurd cc
          | is_plain none ↦
              read_more (spaced (before_first (λ y. y == 61) (x ∷ rest)) next) (word ∷ next ∷ words) (known, none) (ap (λ (w : Text). w ∷ next ∷ words) written) (λ parts end. refl)
              (run-read left words (add (before_first (λ y. y == 61) (x ∷ rest), next) before) all (rw (kind-plain next none) at more))
        ])
    | is_short x rest other is ↦ let no : None ≡ Some all = rw (is, kind-short x rest other) at e in absurd cc
    | is_plain none ↦ read_place left word (next ∷ words) before all none (rw (kind-plain word none) at e) (λ rest after more. run-read rest (next ∷ words) after all more)
  ]
