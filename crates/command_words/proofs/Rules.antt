-- The rules of a command with options and places, as `clap` keeps them when it has built the command, and one use of them.
use Rattle.std.proofs.Common.{◌≡◌, ◌+◌, ◌<◌, ◌≤◌, ◌&&◌, ◌||◌, ℕ, min, nat_lt, Bool, true, false, cond, not, List, [], ◌∷◌, ◌++◌, length, map, None, Some, refl, sym, ap, ◌∙◌, subst, arith, eq-eqb, inl, inr, ne_eqb, true≢false, append-nil}
use Rattle.clap.specs.declared.builder.action.ArgAction.TheVariants.{Set}
use Rattle.clap.specs.declared.builder.value_parser.ValueParser.TheVariants as vp
use Rattle.clap.specs.declared.builder.value_parser.Reading.TheVariants as reading
use Rattle.clap.specs.declared.parser.matches.ValueSource.TheVariants.{CommandLine}
use Rattle.clap.specs.declared.error.kind.ErrorKind.TheVariants as kind
use Rattle.command_words.proofs.Names.{bytes_eq, and_parts, cases_Bool, ltb-true, not-true, or_parts, or_right, Row, Rule, arg_by_id, arg_by_index, arg_by_long, arg_by_short, at_row, has_row, more_values, used, with_values, without, new_rule, use_passes, use_fault, or_else, usize_max, are_apart, are_places}
use Rattle.command_words.proofs.Uses.{Text, Use, Uses, has, text_eq, text_same}
use Rattle.command_words.proofs.Machine.{is_name}

-- an option of this name
abbrev pub option_rule : Text → Rule
option_rule name = record (new_rule name) {
  long = Some name;
  action = Some Set;
  range = Some (record { start_inclusive = 1; end_inclusive = 1 });
  parser = Some vp.String;
}

-- a place, which has to be there
abbrev pub place_rule : ℕ → Text → Rule
place_rule position id = record (new_rule id) {
  index = Some position;
  action = Some Set;
  range = Some (record { start_inclusive = 1; end_inclusive = 1 });
  parser = Some vp.String;
  required = true;
}

-- the position after this one
abbrev pub next_at : ℕ → ℕ
next_at position = min (position + 1) usize_max

-- places from this position on
abbrev pub places_from : ℕ → List Text → List Rule
places_from position [] = []
places_from position (id ∷ ids) = place_rule position id ∷ places_from (next_at position) ids

abbrev pub line_rules : List Text → List Text → List Rule
line_rules names ids = places_from 1 ids ++ map option_rule names

-- ---- which rule a name, a place or an id finds

long_found : (names : List Text) (x : Text) → arg_by_long (map option_rule names) x ≡ cond (is_name names x) (Some (option_rule x)) None
long_found [] x = refl
long_found (name ∷ names) x = elim (cases_Bool (bytes_eq name x)) [
  | inl is ↦ rw is (ap (λ (y : Text). Some (option_rule y)) (text_same name x is))
  | inr is ↦ rw is (long_found names x)
]

id_found : (names : List Text) (x : Text) → is_name names x ≡ true → arg_by_id (map option_rule names) x ≡ Some (option_rule x)
id_found [] x e = absurd (true≢false (sym e))
id_found (name ∷ names) x e = elim (cases_Bool (bytes_eq name x)) [
  | inl is ↦ rw is (ap (λ (y : Text). Some (option_rule y)) (text_same name x is))
  | inr is ↦ let more : is_name names x ≡ true = rw is at e in rw is (id_found names x more)
]

no_index : (names : List Text) (k : ℕ) → arg_by_index (map option_rule names) k ≡ None
no_index [] k = refl
no_index (name ∷ names) k = no_index names k

short_none : (names : List Text) (x : ℕ) → arg_by_short (map option_rule names) x ≡ None
short_none [] x = refl
short_none (name ∷ names) x = short_none names x

-- places have no long and no short name, and only their ids
long_places : (position : ℕ) (ids : List Text) (rules : List Rule) (x : Text) → arg_by_long (places_from position ids ++ rules) x ≡ arg_by_long rules x
long_places position [] rules x = refl
long_places position (id ∷ ids) rules x = long_places (next_at position) ids rules x

short_places : (position : ℕ) (ids : List Text) (rules : List Rule) (x : ℕ) → arg_by_short (places_from position ids ++ rules) x ≡ arg_by_short rules x
short_places position [] rules x = refl
short_places position (id ∷ ids) rules x = short_places (next_at position) ids rules x

id_places : (position : ℕ) (ids : List Text) (rules : List Rule) (x : Text) → is_name ids x ≡ false → arg_by_id (places_from position ids ++ rules) x ≡ arg_by_id rules x
id_places position [] rules x e = refl
id_places position (id ∷ ids) rules x e =
    let parts = or_parts (bytes_eq id x) (is_name ids x) e in
    rw parts.0 (id_places (next_at position) ids rules x parts.1)

-- what the walk over the words asks of the rules: which of them an option's name finds,
pub record Finds (rules : List Rule) (names : List Text) : Type 0 where
  pub long : (x : Text) → arg_by_long rules x ≡ cond (is_name names x) (Some (option_rule x)) None
  pub option : (x : Text) → is_name names x ≡ true → arg_by_id rules x ≡ Some (option_rule x)
  pub short : (x : ℕ) → arg_by_short rules x ≡ None

-- and that these are the places from this position on, and no more
abbrev pub AreNext : List Rule → ℕ → List Text → Type 0
AreNext rules position [] = arg_by_index rules position ≡ None
AreNext rules position (id ∷ left) =
    (arg_by_index rules position ≡ Some (place_rule position id)) × (arg_by_id rules id ≡ Some (place_rule position id)) × AreNext rules (next_at position) left

-- no option has the name of a place
abbrev pub AreApart : List Text → List Text → Type 0
AreApart names ids = (x : Text) → is_name names x ≡ true → is_name ids x ≡ false

-- a name that is one of these isn't one that is none of them
pub name_other : (names : List Text) (id x : Text) → is_name names id ≡ false → is_name names x ≡ true → bytes_eq x id ≡ false
name_other names id x fresh e = elim (cases_Bool (bytes_eq x id)) [
  | inl is ↦
      let both : is_name names id ≡ true = subst (λ (y : Text). is_name names y ≡ true) (text_same x id is) e in
      absurd (true≢false (sym both ∙ fresh))
  | inr is ↦ is
]

pub line_finds : (names ids : List Text) → AreApart names ids → Finds (line_rules names ids) names
line_finds names ids apart = record {
  long = λ x. long_places 1 ids (map option_rule names) x ∙ long_found names x;
  option = λ x e. id_places 1 ids (map option_rule names) x (apart x e) ∙ id_found names x e;
  short = λ x. short_places 1 ids (map option_rule names) x ∙ short_none names x;
}

-- a place that is none of the others is another one than each of them
pub place_other : (left : List Text) (id x : Text) → is_name left id ≡ false → is_name left x ≡ true → bytes_eq id x ≡ false
place_other left id x none known = elim (cases_Bool (bytes_eq id x)) [
  | inl is ↦ absurd (true≢false (sym (subst (λ (y : Text). is_name left y ≡ true) (sym (text_same id x is)) known) ∙ none))
  | inr is ↦ is
]

-- Where rules find these places, from this position on, as the places alone do, these come next.
next_from : (rules : List Rule) (names ids : List Text) (position : ℕ) → position + length ids ≤ usize_max → are_apart ids ≡ true
    → ((k : ℕ) → position ≤ k → arg_by_index rules k ≡ arg_by_index (places_from position ids ++ map option_rule names) k)
    → ((x : Text) → is_name ids x ≡ true → arg_by_id rules x ≡ arg_by_id (places_from position ids ++ map option_rule names) x)
    → AreNext rules position ids
next_from rules names [] position fits apart by_index by_id = by_index position (omega arith) ∙ no_index names position
next_from rules names (id ∷ ids) position fits apart by_index by_id =
    let parts = and_parts (not (is_name ids id)) (are_apart ids) apart in
    let next : next_at position ≡ position + 1 = omega arith in (
      by_index position (omega arith) ∙ rw (eq-eqb position position refl) refl,
      by_id id (rw (text_eq id id refl) refl) ∙ rw (text_eq id id refl) refl,
      next_from rules names ids (next_at position) (omega (arith, next)) parts.1
          (λ k past. by_index k (omega (arith, next, past)) ∙ rw (ne_eqb position k (λ same. omega (arith, next, past, same))) refl)
          (λ x known. by_id x (rw (known, or_right (bytes_eq id x) true refl) refl) ∙ rw (place_other ids id x (not-true (is_name ids id) parts.0) known) refl),
    )

-- places of different names come one after another
pub line_next : (names ids : List Text) → are_places ids ≡ true → AreNext (line_rules names ids) 1 ids
line_next names ids placed =
    let parts = and_parts (nat_lt (length ids) usize_max) (are_apart ids) placed in
    let few : length ids < usize_max = ltb-true (length ids) usize_max parts.0 in
    next_from (line_rules names ids) names ids 1 (omega (arith, few)) parts.1 (λ k past. refl) (λ x known. refl)

-- ---- rows

-- what is kept of a use
abbrev pub row : Use → Row
row u = record { id = u.0; values = u.1 ∷ []; count = None; source = Some CommandLine; reading = reading.AsWritten }

abbrev pub rows : Uses → List Row
rows uses = map row uses

pub has_row-rows : (id : Text) (uses : Uses) → has_row id (rows uses) ≡ has id uses
has_row-rows id [] = refl
has_row-rows id (u ∷ uses) = ap (λ (b : Bool). bytes_eq u.0 id || b) (has_row-rows id uses)

at_row-none : (id : Text) (change : Row → List Row) (missing : List Row) (uses : Uses) → has id uses ≡ false
    → at_row id change missing (rows uses) ≡ rows uses ++ missing
at_row-none id change missing [] e = refl
at_row-none id change missing (u ∷ uses) e =
    let parts = or_parts (bytes_eq u.0 id) (has id uses) e in
    rw parts.0 (ap (λ (more : List Row). row u ∷ more) (at_row-none id change missing uses parts.1))

rows-more : (uses : Uses) (u : Use) → rows uses ++ row u ∷ [] ≡ rows (uses ++ u ∷ [])
rows-more [] u = refl
rows-more (v ∷ uses) u = ap (λ (more : List Row). row v ∷ more) (rows-more uses u)

-- a name that has no use yet gets a row
pub row_added : (id value : Text) (uses : Uses) → has id uses ≡ false
    → with_values id reading.AsWritten CommandLine (value ∷ []) (without id (rows uses)) ≡ rows (uses ++ (id, value) ∷ [])
row_added id value uses e =
    ap (λ (kept : List Row). with_values id reading.AsWritten CommandLine (value ∷ []) kept) (at_row-none id (λ _. []) [] uses e ∙ append-nil (rows uses))
    ∙ at_row-none id (more_values CommandLine (value ∷ [])) (row (id, value) ∷ []) uses e ∙ rows-more uses (id, value)

-- a rule that takes one value, which may be any text, and is used once
pub record TakesOne (a : Rule) (id : Text) : Type 0 where
  pub passes : (value : Text) (kept : List Row) → use_passes false a (value ∷ []) kept ≡ not (has_row id kept)
  pub faults : (value : Text) (kept : List Row) → use_fault false a (value ∷ []) kept ≡ [] → has_row id kept ≡ false
  pub none_passes : (kept : List Row) → use_passes false a [] kept ≡ false
  pub none_faults : (kept : List Row) → use_fault false a [] kept ≡ [] → ⊥
  pub used_is : (value : Text) (kept : List Row) → used a (value ∷ []) kept ≡ with_values id reading.AsWritten CommandLine (value ∷ []) (without id kept)

not_again : (b : Bool) → ((not b || false) && true) ≡ not b
not_again true = refl
not_again false = refl

again_faults : (b : Bool) → or_else (cond (b && true) (kind.ArgumentConflict ∷ []) []) [] ≡ [] → b ≡ false
again_faults true e = absurd cc
again_faults false e = refl

pub option_takes : (name : Text) → TakesOne (option_rule name) name
option_takes name = record {
  passes = λ value kept. not_again (has_row name kept);
  faults = λ value kept e. again_faults (has_row name kept) e;
  none_passes = λ kept. refl;
  none_faults = λ kept e. absurd cc;
  used_is = λ value kept. refl;
}

pub place_takes : (position : ℕ) (id : Text) → TakesOne (place_rule position id) id
place_takes position id = record {
  passes = λ value kept. not_again (has_row id kept);
  faults = λ value kept e. again_faults (has_row id kept) e;
  none_passes = λ kept. refl;
  none_faults = λ kept e. absurd cc;
  used_is = λ value kept. refl;
}

-- ---- what waits to be kept

-- the rule of a name, and that it takes one value
pub record Takes (rules : List Rule) (x : Text) : Type 0 where
  pub rule : Rule
  pub found : arg_by_id rules x ≡ Some rule
  pub one : TakesOne rule x

pub option_rules : {rules : List Rule} {names : List Text} → Finds rules names → (x : Text) → is_name names x ≡ true → Takes rules x
option_rules finds x e = record { rule = option_rule x; found = finds.option x e; one = option_takes x }

pub place_rules : {rules : List Rule} (position : ℕ) (id : Text) → arg_by_id rules id ≡ Some (place_rule position id) → Takes rules id
place_rules position id e = record { rule = place_rule position id; found = e; one = place_takes position id }
