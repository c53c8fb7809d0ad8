-- When `clap` takes the words of a command with options and places, and what it finds.
use Rattle.std.proofs.Common.{◌≡◌, ◌&&◌, ◌||◌, ℕ, Bool, true, false, cond, not, List, [], ◌∷◌, ◌++◌, map, drop, Option, None, Some, is_some, refl, sym, ap, ap₂, ◌∙◌, inl, inr, true≢false}
use Rattle.clap.proofs.TakesLemmas.{leaf_takes}
use Rattle.clap.proofs.FaultLemmas.{leaf_fault}
use Rattle.command_words.proofs.Names.{count_by, fold, slice_get, AllByRecursion, list_all, list_any, bytes_eq, and_from, and_parts, cases_Bool, not-false, or_parts, Held, Row, Rule, finished, first_of, has_row, is_early_multiple, nothing_held, rows_after, settled_rows, with_default, App, Shape, built, filled_from, is_buildable, is_ready, is_ready_leaf, is_simple, matches_of, names_of, new_shape, built_takes, default_passes, is_given, is_valid, level_passes, takes, built_fault, check_fault, level_fault, fault_of, is_free_app, is_simple_and_free, are_places, command_of, option_of, place_of}
use Rattle.command_words.proofs.Uses.{Text, Uses, has, values}
use Rattle.command_words.proofs.Machine.{run}
use Rattle.command_words.proofs.Rules.{AreApart, line_finds, line_next, line_rules, next_at, option_rule, place_rule, places_from, rows}
use Rattle.command_words.proofs.ClapSteps.{at, no_fault}
use Rattle.command_words.proofs.ClapWalk.{Agrees, IsFine, end_of, walk_agrees}
use Rattle.command_words.proofs.Readings.{are_given}

-- ---- the built command

options_filled : (i : ℕ) (names : List Text) → filled_from i (map option_of names) ≡ map option_rule names
options_filled i [] = refl
options_filled i (name ∷ names) = ap (λ (more : List Rule). option_rule name ∷ more) (options_filled i names)

all_filled : (i : ℕ) (ids names : List Text) → filled_from i (map place_of ids ++ map option_of names) ≡ places_from i ids ++ map option_rule names
all_filled i [] names = options_filled i names
all_filled i (id ∷ ids) names = ap (λ (more : List Rule). place_rule i id ∷ more) (all_filled (next_at i) ids names)

-- the command that is built
abbrev pub line_shape : Text → List Text → List Text → Shape
line_shape command ids names =
    record (new_shape command) { rules = line_rules names ids; disable_help_flag = true; disable_help_subcommand = true; is_built = true }

built_is : (command : Text) (ids names : List Text) → ◌≡◌ {A = App} (built (command_of command ids names)) (record { top = line_shape command ids names; subs = [] })
built_is command ids names = rw (all_filled 1 ids names) refl

-- every option is as this test says
options_all : (p : Rule → Bool) (names : List Text) → ((name : Text) → p (option_rule name) ≡ true) → list_all p (map option_rule names) ≡ true
options_all p [] h = refl
options_all p (name ∷ names) h = rw (h name) (options_all p names h)

-- and every place
rules_all : (p : Rule → Bool) (i : ℕ) (ids names : List Text) → ((position : ℕ) (id : Text) → p (place_rule position id) ≡ true) → ((name : Text) → p (option_rule name) ≡ true)
    → list_all p (places_from i ids ++ map option_rule names) ≡ true
rules_all p i [] names placed h = options_all p names h
rules_all p i (id ∷ ids) names placed h = rw (placed i id) (rules_all p (next_at i) ids names placed h)

rules_none : (p : Rule → Bool) (i : ℕ) (ids names : List Text) → ((position : ℕ) (id : Text) → p (place_rule position id) ≡ false) → ((name : Text) → p (option_rule name) ≡ false)
    → list_any p (places_from i ids ++ map option_rule names) ≡ false
rules_none p i [] [] placed h = refl
rules_none p i [] (name ∷ names) placed h = rw (h name) (rules_none p i [] names placed h)
rules_none p i (id ∷ ids) names placed h = rw (placed i id) (rules_none p (next_at i) ids names placed h)

asked_all : (p : Rule → Bool) (ids names : List Text) → ((id : Text) → p (place_of id) ≡ true) → ((name : Text) → p (option_of name) ≡ true)
    → list_all p (map place_of ids ++ map option_of names) ≡ true
asked_all p [] [] placed h = refl
asked_all p [] (name ∷ names) placed h = rw (h name) (asked_all p [] names placed h)
asked_all p (id ∷ ids) names placed h = rw (placed id) (asked_all p ids names placed h)

no_early : (n : ℕ) (ids names : List Text) → list_any (is_early_multiple n) (line_rules names ids) ≡ false
no_early n ids names = rules_none (is_early_multiple n) 1 ids names (λ position id. refl) (λ name. refl)

pub line_simple : (command : Text) (ids names : List Text) → is_simple (command_of command ids names) ≡ true
line_simple command ids names =
    ap (λ (b : App). is_buildable (command_of command ids names) && (is_ready b.top && list_all is_ready_leaf b.subs)) (built_is command ids names)
    ∙ rw (asked_all (λ (a : Rule). a.is_simple) ids names (λ id. refl) (λ name. refl), rules_all (λ (a : Rule). a.is_simple) 1 ids names (λ position id. refl) (λ name. refl))
    (ap (λ (b : Bool). b && true) (ap not (no_early (count_by (λ (a : Rule). is_some a.index) (line_rules names ids)) ids names)))

pub line_free : (command : Text) (ids names : List Text) → is_simple_and_free (command_of command ids names) ≡ true
line_free command ids names =
    rw line_simple
    (ap is_free_app (built_is command ids names) ∙ rw (rules_all (λ (a : Rule). a.is_free) 1 ids names (λ position id. refl) (λ name. refl)) refl)

same_cond : {A : Type 0} (b : Bool) (x : A) → cond b x x ≡ x
same_cond true x = refl
same_cond false x = refl

-- no option has a default, and no place
no_defaults : (names : List Text) (kept : List Row) → fold with_default kept (map option_rule names) ≡ kept
no_defaults [] kept = refl
no_defaults (name ∷ names) kept =
    ap (λ (more : List Row). fold with_default more (map option_rule names)) (same_cond (has_row name kept) kept) ∙ no_defaults names kept

places_defaults : (i : ℕ) (ids names : List Text) (kept : List Row) → fold with_default kept (places_from i ids ++ map option_rule names) ≡ kept
places_defaults i [] names kept = no_defaults names kept
places_defaults i (id ∷ ids) names kept =
    ap (λ (more : List Row). fold with_default more (places_from (next_at i) ids ++ map option_rule names)) (same_cond (has_row id kept) kept)
    ∙ places_defaults (next_at i) ids names kept

line_defaults : (names ids : List Text) (kept : List Row) → fold with_default kept (line_rules names ids) ≡ kept
line_defaults names ids kept = places_defaults 1 ids names kept

-- ---- the places have to be there

abbrev are_there : List Text → List Row → Bool
are_there ids kept = list_all (λ id. is_given id kept) ids

required_there : (i : ℕ) (ids names : List Text) (kept : List Row) → are_there ids kept ≡ true
    → list_all (λ (a : Rule). not a.required || is_given a.id kept) (places_from i ids ++ map option_rule names) ≡ true
required_there i [] names kept e = options_all (λ a. not a.required || is_given a.id kept) names (λ name. refl)
required_there i (id ∷ ids) names kept e =
    let parts = and_parts (is_given id kept) (are_there ids kept) e in
    rw parts.0 (required_there (next_at i) ids names kept parts.1)

line_valid : (command : Text) (ids names : List Text) (kept : List Row) → are_there ids kept ≡ true → is_valid (line_shape command ids names) kept false ≡ true
line_valid command ids names kept given =
    rw (rules_all (λ (a : Rule). a.is_free) 1 ids names (λ position id. refl) (λ name. refl), required_there 1 ids names kept given) refl

missing_faults : (i : ℕ) (ids names : List Text) (kept : List Row)
    → list_any (λ (a : Rule). a.required && not (is_given a.id kept)) (places_from i ids ++ map option_rule names) ≡ false → are_there ids kept ≡ true
missing_faults i [] names kept e = refl
missing_faults i (id ∷ ids) names kept e =
    let parts = or_parts (true && not (is_given id kept)) (list_any (λ (a : Rule). a.required && not (is_given a.id kept)) (places_from (next_at i) ids ++ map option_rule names)) e in
    let given : is_given id kept ≡ true = not-false (is_given id kept) parts.0 in
    rw given (missing_faults (next_at i) ids names kept parts.1)

line_checks : (command : Text) (ids names : List Text) (kept : List Row) → check_fault (line_shape command ids names) kept false ≡ [] → are_there ids kept ≡ true
line_checks command ids names kept e =
    elim (cases_Bool (list_any (λ (a : Rule). a.required && not (is_given a.id kept)) (line_rules names ids))) [
      | inl missing ↦ let fault = rw missing at e in absurd cc
      | inr none ↦ missing_faults 1 ids names kept none
    ]

is_given-rows : (id : Text) (uses : Uses) → is_given id (rows uses) ≡ has id uses
is_given-rows id [] = refl
is_given-rows id (u ∷ uses) = elim (cases_Bool (bytes_eq u.0 id)) [ inl is ↦ rw is refl | inr is ↦ rw is (is_given-rows id uses) ]

are_there-rows : (ids : List Text) (uses : Uses) → are_there ids (rows uses) ≡ are_given ids uses
are_there-rows [] uses = refl
are_there-rows (id ∷ ids) uses = ap₂ (λ (a b : Bool). a && b) (is_given-rows id uses) (are_there-rows ids uses)

pub first_of-rows : (x : Text) (uses : Uses) → first_of x (rows uses) ≡ slice_get (values x uses) 0
first_of-rows x [] = refl
first_of-rows x (u ∷ uses) = elim (cases_Bool (bytes_eq u.0 x)) [ inl is ↦ rw is refl | inr is ↦ rw is (first_of-rows x uses) ]

some_of : (o : Option Uses) → is_some o ≡ true → (all : Uses) × (o ≡ Some all)
some_of None e = absurd (true≢false (sym e))
some_of (Some all) e = (all, refl)

-- ---- the whole

module _ (command : Text) (ids names : List Text) (apart : AreApart names ids) (placed : are_places ids ≡ true) where
  abbrev shape : Shape
  shape = line_shape command ids names

  agrees : (words : List Text) → AllByRecursion IsFine words → Agrees shape (at [] None 1 false) words (run names ids words None (Some []))
  agrees words fine = walk_agrees shape names (line_finds names ids apart) refl ids words (line_next names ids placed) fine

  abbrev end_held : List Text → Held
  end_held words = (end_of shape (at [] None 1 false) (drop 1 words)).held

  -- words that are read, with the places among them, are taken
  pub line_takes : (words : List Text) (all : Uses) → AllByRecursion IsFine (drop 1 words) → run names ids (drop 1 words) None (Some []) ≡ Some all → are_given ids all ≡ true
      → takes (command_of command ids names) words ≡ true
  line_takes words all fine e given =
      let (passes, settles, kept, stop) = (agrees (drop 1 words) fine).taken all e in
      let done : finished (line_rules names ids) (end_held words) ≡ rows all =
      line_defaults names ids (settled_rows (line_rules names ids) (end_held words).pending (end_held words).rows) ∙ kept in
      let there : are_there ids (finished (line_rules names ids) (end_held words)) ≡ true =
      ap (are_there ids) done ∙ are_there-rows ids all ∙ given in
      let level : level_passes shape [] nothing_held (drop 1 words) false ≡ true =
      and_from _ _ passes (and_from _ _ settles (and_from _ _ (rules_all default_passes 1 ids names (λ position id. refl) (λ name. refl)) (line_valid command ids names _ there))) in
      ap₂ (λ (x y : Bool). x && y) (line_simple command ids names)
      (ap (λ (b : App). built_takes b nothing_held (drop 1 words)) (built_is command ids names) ∙ leaf_takes (record { top = shape; subs = [] }) nothing_held (drop 1 words) refl level)

  -- and where `clap` has no fault, they are read, with the places among them
  pub line_reads : (words : List Text) → AllByRecursion IsFine (drop 1 words) → fault_of (command_of command ids names) words ≡ []
      → (all : Uses) × (run names ids (drop 1 words) None (Some []) ≡ Some all) × (are_given ids all ≡ true)
  line_reads words fine none =
      let level : level_fault shape [] nothing_held (drop 1 words) false [] ≡ [] =
      sym (leaf_fault (record { top = shape; subs = [] }) nothing_held (drop 1 words) refl) ∙ sym (ap (λ (b : App). built_fault b nothing_held (drop 1 words)) (built_is command ids names)) ∙ none in
      let (walk, after) = no_fault _ _ level in
      let (settles, later) = no_fault _ _ after in
      let (defaults, checks) = no_fault _ _ later in
      let (all, e) = some_of (run names ids (drop 1 words) None (Some [])) ((agrees (drop 1 words) fine).refused walk settles) in
      let (passes, settled, kept, stop) = (agrees (drop 1 words) fine).taken all e in
      let done : finished (line_rules names ids) (end_held words) ≡ rows all =
      line_defaults names ids (settled_rows (line_rules names ids) (end_held words).pending (end_held words).rows) ∙ kept in
      (all, e, sym (are_there-rows ids all) ∙ ap (are_there ids) (sym done) ∙ line_checks command ids names _ checks)

  -- what is found is what is read
  pub line_finds_rows : (words : List Text) (all : Uses) → AllByRecursion IsFine (drop 1 words) → run names ids (drop 1 words) None (Some []) ≡ Some all
      → matches_of (command_of command ids names) words ≡ rows all
  line_finds_rows words all fine e =
      let (passes, settles, kept, stop) = (agrees (drop 1 words) fine).taken all e in
      ap (λ (b : App). rows_after b.top.rules (names_of b) (drop 1 words)) (built_is command ids names)
      ∙ line_defaults names ids (settled_rows (line_rules names ids) (end_held words).pending (end_held words).rows) ∙ kept
