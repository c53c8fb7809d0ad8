-- What a word is: the end of the options, a long option, short ones, or a plain word.
use Rattle.std.proofs.Common.{◌≡◌, ◌≢◌, ◌==◌, ◌≤◌, ℕ, false, cond, List, [], ◌∷◌, ◌++◌, Option, None, Some, refl, ap, ◌∙◌, arith, inl, inr, ne_eqb, codes, append_assoc}
use Rattle.command_words.proofs.Names.{after_first, before_first, bytes_eq, cases_eq, cases_Bool, has_byte, long_of, short_of, IsDashed}
use Rattle.command_words.proofs.Bytes.{after_first-append, before_first-all, before_first-append, has_byte-append}

pub data Kind : Type 0 where
  ended : Kind
  long : List ℕ → Option (List ℕ) → Kind
  short : List ℕ → Kind
  plain : Kind

abbrev pub kind_of_short : Option (List ℕ) → Kind
kind_of_short None = plain
kind_of_short (Some flags) = short flags

abbrev pub kind_of_long : Option (List ℕ × Option (List ℕ)) → Option (List ℕ) → Kind
kind_of_long None flags = kind_of_short flags
kind_of_long (Some p) flags = long p.0 p.1

abbrev pub kind : List ℕ → Kind
kind word = cond (bytes_eq word (45 ∷ 45 ∷ [])) ended (kind_of_long (long_of word) (short_of word))

-- how a word begins
pub data Form (word : List ℕ) : Type 0 where
  is_end : word ≡ 45 ∷ 45 ∷ [] → Form word
  is_long : (x : ℕ) (rest : List ℕ) → word ≡ 45 ∷ 45 ∷ x ∷ rest → Form word
  is_short : (x : ℕ) (rest : List ℕ) → x ≢ 45 → word ≡ 45 ∷ x ∷ rest → Form word
  is_plain : (IsDashed word → ⊥) → Form word

pub form : (word : List ℕ) → Form word
form [] = is_plain (λ dashed. let none : 2 ≤ 0 = dashed.0 in omega arith)
form (x ∷ []) = is_plain (λ dashed. let one : 2 ≤ 1 = dashed.0 in omega arith)
form (x ∷ y ∷ []) = elim (cases_eq x 45) [
  | inr other ↦ is_plain (λ dashed. other dashed.1)
  | inl hyphen ↦ elim (cases_eq y 45) [
    | inl second ↦ is_end (rw (hyphen, second) refl)
    | inr other ↦ is_short y [] other (rw hyphen refl)
  ]
]
form (x ∷ y ∷ z ∷ rest) = elim (cases_eq x 45) [
  | inr other ↦ is_plain (λ dashed. other dashed.1)
  | inl hyphen ↦ elim (cases_eq y 45) [
    | inl second ↦ is_long z rest (rw (hyphen, second) refl)
    | inr other ↦ is_short y (z ∷ rest) other (rw hyphen refl)
  ]
]

-- the value behind the `=`, where there is one
abbrev pub value_in : List ℕ → Option (List ℕ)
value_in text = cond (has_byte 61 text) (Some (after_first (λ x. x == 61) text)) None

pub kind-end : kind (45 ∷ 45 ∷ []) ≡ ended
kind-end = refl

pub kind-long : (x : ℕ) (rest : List ℕ) → kind (45 ∷ 45 ∷ x ∷ rest) ≡ long (before_first (λ y. y == 61) (x ∷ rest)) (value_in (x ∷ rest))
kind-long x rest = refl

pub kind-short : (x : ℕ) (rest : List ℕ) → x ≢ 45 → kind (45 ∷ x ∷ rest) ≡ short (x ∷ rest)
kind-short x rest other = rw (ne_eqb x 45 other) refl

pub kind-plain : (word : List ℕ) → (IsDashed word → ⊥) → kind word ≡ plain
kind-plain [] none = refl
kind-plain (x ∷ []) none = elim (cases_Bool (x == 45)) [ inl is ↦ rw is refl | inr is ↦ rw is refl ]
kind-plain (x ∷ y ∷ rest) none =
    let other : x ≢ 45 = λ same. none (omega arith, same) in
    rw (ne_eqb x 45 other) refl

-- `--name`
pub kind-spaced : (x : ℕ) (name : List ℕ) → has_byte 61 (x ∷ name) ≡ false → kind (codes "--" ++ x ∷ name) ≡ long (x ∷ name) None
kind-spaced x name none =
    kind-long x name ∙ rw (before_first-all 61 (x ∷ name) none, none) refl

-- `--name=value`
pub kind-joined : (x : ℕ) (name value : List ℕ) → has_byte 61 (x ∷ name) ≡ false
    → kind (codes "--" ++ x ∷ name ++ codes "=" ++ value) ≡ long (x ∷ name) (Some value)
kind-joined x name value none =
    ap (λ (rest : List ℕ). kind (45 ∷ 45 ∷ x ∷ rest)) (append_assoc name (61 ∷ []) value)
    ∙ kind-long x (name ++ 61 ∷ value)
    ∙ rw (before_first-append 61 (x ∷ name) value none, has_byte-append 61 (x ∷ name) value, after_first-append 61 (x ∷ name) value none) refl
