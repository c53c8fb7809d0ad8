-- What `clap` makes of all the words is what `run` reads.
use Rattle.std.proofs.Common.{◌≡◌, ◌≢◌, ◌==◌, arith, ne_eqb, ℕ, Bool, true, false, cond, List, [], ◌∷◌, ◌++◌, Option, None, Some, is_some, refl, sym, ap, ◌∙◌, subst, inl, inr}
use Rattle.command_words.proofs.Names.{fold, slice_get, AllByRecursion, before_first, chars, cases_Bool, Walk, Waiting, idle, option, settled_rows, walked, Shape, settle_passes, turn_passes, walk_passes, settle_fault, turn_fault, walk_fault, IsDashed}
use Rattle.command_words.proofs.Uses.{Text, Use, Uses, add, has}
use Rattle.command_words.proofs.WordKinds.{Kind, ended, form, is_end, is_long, is_plain, is_short, kind, long, plain, short, kind-long, kind-plain, kind-short, value_in}
use Rattle.command_words.proofs.Machine.{add_places, is_name, on_idle, on_place, on_waiting, run}
use Rattle.command_words.proofs.Rules.{AreNext, Finds, Takes, next_at, option_rules, place_rules, rows}
use Rattle.command_words.proofs.ClapSteps as step
use Rattle.command_words.proofs.ClapSteps.{IsLongWord, IsPlainWord, IsShortWord, Settles, at, at_option, at_trailing, held, no_fault}

-- the walk over the words
abbrev pub end_of : Shape → Walk → List Text → Walk
end_of s w words = fold (walked s.rules []) w words

-- From here on the words are taken just where all uses are known, and these are then what is kept.
pub record Agrees (s : Shape) (w : Walk) (words : List Text) (uses : Option Uses) : Type 0 where
  pub taken : (all : Uses) → uses ≡ Some all
      → (walk_passes s [] w words ≡ true) × (settle_passes s.rules false (end_of s w words).held ≡ true)
      × (settled_rows s.rules (end_of s w words).held.pending (end_of s w words).held.rows ≡ rows all) × ((end_of s w words).stopped ≡ None)
  pub refused : walk_fault s [] w words ≡ [] → settle_fault s.rules false (end_of s w words).held ≡ [] → is_some uses ≡ true

-- a word that passes
goes_on : (s : Shape) (w after : Walk) (word : Text) (words : List Text) (uses : Option Uses) → turn_passes s [] w word ≡ true → walked s.rules [] w word ≡ after
    → Agrees s after words uses → Agrees s w (word ∷ words) uses
unfolding walk_passes walk_fault
goes_on s w after word words uses passes is rest =
    let here : Agrees s (walked s.rules [] w word) words uses = subst (λ (v : Walk). Agrees s v words uses) (sym is) rest in
    record {
      taken = λ all e. let (walk, settles, kept, stops) = here.taken all e in (rw passes walk, settles, kept, stops);
      refused = λ walk settles. here.refused (no_fault _ _ walk).1 settles;
    }

-- a word that is refused
refuses : (s : Shape) (w : Walk) (word : Text) (words : List Text) → (turn_fault s [] w word ≡ [] → ⊥) → Agrees s w (word ∷ words) None
unfolding walk_fault
refuses s w word words fault = record {
  taken = λ all e. absurd cc;
  refused = λ walk settles. absurd (fault (no_fault _ _ walk).0);
}

-- no more words
stops : (s : Shape) (uses kept : Uses) (pending : Option (Text × List Text)) (waiting : Waiting) (position : ℕ) (is_trailing : Bool) → Settles s uses pending kept
    → Agrees s (record { held = held uses pending; waiting = waiting; position = position; is_trailing = is_trailing; stopped = None }) [] (Some kept)
unfolding walk_passes
stops s uses kept pending waiting position is_trailing settles = record {
  taken = λ all e. let same : kept ≡ all = cc in (refl, settles.passes, settles.rows_are ∙ ap rows same, refl);
  refused = λ walk fault. refl;
}

stops_stuck : (s : Shape) (w : Walk) → (settle_fault s.rules false w.held ≡ [] → ⊥) → Agrees s w [] None
stops_stuck s w stuck = record { taken = λ all e. absurd cc; refused = λ walk fault. absurd (stuck fault) }

-- ---- words

plain_word : (word : Text) → (IsDashed word → ⊥) → IsPlainWord word
plain_word [] none = record { no_end = refl; no_long = refl; no_short = refl }
plain_word (x ∷ []) none = elim (cases_Bool (x == 45)) [
  | inl is ↦ record { no_end = rw is refl; no_long = rw is refl; no_short = rw is refl }
  | inr is ↦ record { no_end = rw is refl; no_long = rw is refl; no_short = rw is refl }
]
plain_word (x ∷ y ∷ rest) none =
    let other : (x == 45) ≡ false = ne_eqb x 45 (λ same. none (omega arith, same)) in
    record { no_end = rw other refl; no_long = rw other refl; no_short = rw other refl }

-- what stands after a hyphen begins with a character
abbrev pub IsFine : Text → Type 0
IsFine word = (x : ℕ) (rest : Text) → word ≡ 45 ∷ x ∷ rest → (y : ℕ) × (slice_get (chars (x ∷ rest)) 0 ≡ Some y)

short_word : (word : Text) (x : ℕ) (rest : Text) → IsFine word → x ≢ 45 → word ≡ 45 ∷ x ∷ rest → IsShortWord word (x ∷ rest)
short_word word x rest fine other is =
    let no : (x == 45) ≡ false = ne_eqb x 45 other in
    record {
      no_end = rw (is, no) refl;
      no_long = rw (is, no) refl;
      is_short = rw (is, no) refl;
      some = fine x rest is;
      longer = (x, rest, refl);
    }

long_word : (word : Text) (x : ℕ) (rest : Text) → word ≡ 45 ∷ 45 ∷ x ∷ rest → IsLongWord word (before_first (λ y. y == 61) (x ∷ rest)) (value_in (x ∷ rest))
long_word word x rest is = record { no_end = rw is refl; is_long = rw is refl }

-- ---- uses

cond_none : (b : Bool) (o : Option Uses) → o ≡ None → cond b o None ≡ None
cond_none true o e = e
cond_none false o e = refl

places_none : (left words : List Text) → add_places left words None ≡ None
places_none left [] = refl
places_none [] (word ∷ words) = refl
places_none (id ∷ left) (word ∷ words) = places_none left words

place_none : (left : List Text) (word : Text) (next : List Text → Option Text → Option Uses → Option Uses)
    → ((rest : List Text) (waiting : Option Text) → next rest waiting None ≡ None) → on_place left word None next ≡ None
place_none [] word next h = refl
place_none (id ∷ left) word next h = h left None

idle_none : (names left : List Text) (k : Kind) (word : Text) (words : List Text) (next : List Text → Option Text → Option Uses → Option Uses)
    → ((rest : List Text) (waiting : Option Text) → next rest waiting None ≡ None) → on_idle names left None k word words next ≡ None
idle_none names left ended word words next h = places_none left words
idle_none names left (long name None) word words next h = cond_none (is_name names name) (next left (Some name) None) (h left (Some name))
idle_none names left (long name (Some value)) word words next h = cond_none (is_name names name) (next left None None) (h left None)
idle_none names left (short flags) word words next h = refl
idle_none names left plain word words next h = place_none left word next h

waiting_none : (name : Text) (k : Kind) (word : Text) (next : Option Text → Option Uses → Option Uses)
    → ((waiting : Option Text) → next waiting None ≡ None) → on_waiting name None k word next ≡ None
waiting_none name ended word next h = refl
waiting_none name (long other value) word next h = refl
waiting_none name (short flags) word next h = refl
waiting_none name plain word next h = h None

-- once two uses have one name, nothing is read
pub run-none : (names left words : List Text) (waiting : Option Text) → run names left words waiting None ≡ None
run-none names left [] None = refl
run-none names left [] (Some name) = refl
run-none names left (word ∷ words) None = idle_none names left (kind word) word words (λ rest. run names rest words) (λ rest waiting. run-none names rest words waiting)
run-none names left (word ∷ words) (Some name) = waiting_none name (kind word) word (run names left words) (run-none names left words)

add_new : (u : Use) (uses : Uses) → has u.0 uses ≡ false → add u (Some uses) ≡ Some (uses ++ u ∷ [])
add_new u uses new = rw new refl

add_old : (u : Use) (uses : Uses) → has u.0 uses ≡ true → add u (Some uses) ≡ None
add_old u uses old = rw old refl

agrees_as : (s : Shape) (w : Walk) (words : List Text) (uses same : Option Uses) → uses ≡ same → Agrees s w words same → Agrees s w words uses
agrees_as s w words uses same is h = subst (λ (o : Option Uses). Agrees s w words o) (sym is) h

module _ (s : Shape) (names : List Text) (finds : Finds s.rules names) (again : s.args_override_self ≡ false) where
  -- ---- after `--`

  trailing_all_stuck : (words : List Text) (uses : Uses) (pending : Option (Text × List Text)) (waiting : Waiting) (position : ℕ) (left : List Text) → AreNext s.rules position left
      → (settle_fault s.rules false (held uses pending) ≡ [] → ⊥) → Agrees s (at_trailing uses pending waiting position) words None
  trailing_all_stuck [] uses pending waiting position left next stuck = stops_stuck s (at_trailing uses pending waiting position) stuck
  trailing_all_stuck (word ∷ words) uses pending waiting position [] next stuck =
      refuses s _ word words (step.trailing_stray s names finds again uses pending waiting position word next)
  trailing_all_stuck (word ∷ words) uses pending waiting position (id ∷ left) next stuck =
      refuses s _ word words (step.trailing_stuck s names finds again uses pending waiting position id word next.0 stuck)

  trailing_all : (words : List Text) (uses kept : Uses) (pending : Option (Text × List Text)) (position : ℕ) (left : List Text) → AreNext s.rules position left
      → Settles s uses pending kept → Agrees s (at_trailing uses pending idle position) words (add_places left words (Some kept))
  trailing_all [] uses kept pending position left next settles = stops s uses kept pending idle position true settles
  trailing_all (word ∷ words) uses kept pending position [] next settles =
      refuses s _ word words (step.trailing_stray s names finds again uses pending idle position word next)
  trailing_all (word ∷ words) uses kept pending position (id ∷ left) next settles =
      goes_on s _ (at_trailing kept (Some (id, word ∷ [])) idle (next_at position)) word words _
      (step.trailing_passes s names finds again uses kept pending position id word next.0 settles)
      (step.trailing_walked s names finds again uses kept pending position id word next.0 settles)
      (elim (cases_Bool (has id kept)) [
        | inl old ↦ agrees_as s _ words _ None (ap (add_places left words) (add_old (id, word) kept old) ∙ places_none left words)
            (trailing_all_stuck words kept (Some (id, word ∷ [])) idle (next_at position) left next.2
            (step.settles_twice s names finds again kept id word (place_rules position id next.1) old))
        | inr new ↦ agrees_as s _ words _ (add_places left words (Some (kept ++ (id, word) ∷ []))) (ap (add_places left words) (add_new (id, word) kept new))
            (trailing_all words kept (kept ++ (id, word) ∷ []) (Some (id, word ∷ [])) (next_at position) left next.2
            (step.settles_some s names finds again kept id word (place_rules position id next.1) new))
      ])

  -- ---- before it

  place_refused : (uses : Uses) (pending : Option (Text × List Text)) (position : ℕ) (left : List Text) → AreNext s.rules position left → (word : Text) → IsPlainWord word
      → (settle_fault s.rules false (held uses pending) ≡ [] → ⊥) → turn_fault s [] (at uses pending position false) word ≡ [] → ⊥
  place_refused uses pending position [] next word word_is stuck = step.stray s names finds again uses pending position word next word_is
  place_refused uses pending position (id ∷ left) next word word_is stuck = step.place_stuck s names finds again uses pending position id word next.0 word_is stuck

  stuck_all : (words : List Text) (uses : Uses) (pending : Option (Text × List Text)) (position : ℕ) (left : List Text) → AreNext s.rules position left → AllByRecursion IsFine words
      → (settle_fault s.rules false (held uses pending) ≡ [] → ⊥) → Agrees s (at uses pending position false) words None
  stuck_all [] uses pending position left next fine stuck = stops_stuck s (at uses pending position false) stuck
  stuck_all (word ∷ words) uses pending position left next fine stuck = elim (form word) [
    | is_end is ↦ rw is (goes_on s _ (at_trailing uses pending idle position) (45 ∷ 45 ∷ []) words None (step.end_passes s names finds again uses pending position)
        (step.end_walked s names finds again uses pending position) (trailing_all_stuck words uses pending idle position left next stuck))
    | is_long x rest is ↦ refuses s _ word words (step.long_stuck s names finds again uses pending position word _ _ (long_word word x rest is) stuck)
    | is_short x rest other is ↦ refuses s _ word words (step.short_unknown s names finds again uses pending position word _ (short_word word x rest fine.0 other is))
    | is_plain none ↦ refuses s _ word words (place_refused uses pending position left next word (plain_word word none) stuck)
  ]

  -- a use that the words give next, and that waits to be kept
  next_use : (words : List Text) (kept : Uses) (u : Use) (position : ℕ) (left : List Text) → AreNext s.rules position left → AllByRecursion IsFine words → Takes s.rules u.0
      → ((uses all : Uses) (pending : Option (Text × List Text)) → Settles s uses pending all → Agrees s (at uses pending position false) words (run names left words None (Some all)))
      → Agrees s (at kept (Some (u.0, u.1 ∷ [])) position false) words (run names left words None (add u (Some kept)))
  next_use words kept u position left next fine known rest = elim (cases_Bool (has u.0 kept)) [
    | inl old ↦ agrees_as s _ words _ None (ap (run names left words None) (add_old u kept old) ∙ run-none names left words None)
        (stuck_all words kept (Some (u.0, u.1 ∷ [])) position left next fine (step.settles_twice s names finds again kept u.0 u.1 known old))
    | inr new ↦ agrees_as s _ words _ (run names left words None (Some (kept ++ u ∷ []))) (ap (run names left words None) (add_new u kept new))
        (rest kept (kept ++ u ∷ []) (Some (u.0, u.1 ∷ [])) (step.settles_some s names finds again kept u.0 u.1 known new))
  ]

  -- the words from a place on where nothing, a place or an option's value waits to be kept, and where an option waits for its value
  pub record Both (words : List Text) : Type 0 where
    pub idle : (uses kept : Uses) (pending : Option (Text × List Text)) (position : ℕ) (left : List Text) → AreNext s.rules position left → Settles s uses pending kept
        → Agrees s (at uses pending position false) words (run names left words None (Some kept))
    pub waits : (kept : Uses) (name : Text) (position : ℕ) (left : List Text) → AreNext s.rules position left → is_name names name ≡ true
        → Agrees s (at_option kept name position) words (run names left words (Some name) (Some kept))

  long_idle : (word : Text) (words : List Text) (name : Text) (value : Option Text) → IsLongWord word name value → kind word ≡ long name value → Both words
      → (uses kept : Uses) (pending : Option (Text × List Text)) (position : ℕ) (left : List Text) → AreNext s.rules position left → Settles s uses pending kept
      → Agrees s (at uses pending position false) (word ∷ words) (run names left (word ∷ words) None (Some kept))
  long_idle word words name None word_is kind_is rest uses kept pending position left next settles = elim (cases_Bool (is_name names name)) [
    | inl known ↦ agrees_as s _ (word ∷ words) _ (run names left words (Some name) (Some kept)) (rw (kind_is, known) refl)
        (goes_on s _ (at_option kept name position) word words _ (step.long_passes s names finds again uses kept pending position word name word_is known settles)
        (step.long_walked s names finds again uses kept pending position word name word_is known settles) (rest.waits kept name position left next known))
    | inr unknown ↦ agrees_as s _ (word ∷ words) _ None (rw (kind_is, unknown) refl)
        (refuses s _ word words (step.long_unknown s names finds again uses pending position word name None word_is unknown))
  ]
  long_idle word words name (Some value) word_is kind_is rest uses kept pending position left next settles = elim (cases_Bool (is_name names name)) [
    | inl known ↦ elim (cases_Bool (has name kept)) [
      | inl old ↦ agrees_as s _ (word ∷ words) _ None (rw (kind_is, known, old) (run-none names left words None))
          (refuses s _ word words (step.joined_twice s names finds again uses kept pending position word name value word_is known old settles))
      | inr new ↦ agrees_as s _ (word ∷ words) _ (run names left words None (Some (kept ++ (name, value) ∷ []))) (rw (kind_is, known, new) refl)
          (goes_on s _ (at (kept ++ (name, value) ∷ []) None position false) word words _
          (step.joined_passes s names finds again uses kept pending position word name value word_is known new settles)
          (step.joined_walked s names finds again uses kept pending position word name value word_is known new settles)
          (rest.idle (kept ++ (name, value) ∷ []) (kept ++ (name, value) ∷ []) None position left next (step.settles_none s names finds again (kept ++ (name, value) ∷ []))))
    ]
    | inr unknown ↦ agrees_as s _ (word ∷ words) _ None (rw (kind_is, unknown) refl)
        (refuses s _ word words (step.long_unknown s names finds again uses pending position word name (Some value) word_is unknown))
  ]

  place_idle : (word : Text) (words : List Text) → IsPlainWord word → kind word ≡ plain → AllByRecursion IsFine words → Both words
      → (uses kept : Uses) (pending : Option (Text × List Text)) (position : ℕ) (left : List Text) → AreNext s.rules position left → Settles s uses pending kept
      → Agrees s (at uses pending position false) (word ∷ words) (run names left (word ∷ words) None (Some kept))
  place_idle word words word_is kind_is fine rest uses kept pending position [] next settles =
      agrees_as s _ (word ∷ words) _ None (rw kind_is refl) (refuses s _ word words (step.stray s names finds again uses pending position word next word_is))
  place_idle word words word_is kind_is fine rest uses kept pending position (id ∷ left) next settles =
      agrees_as s _ (word ∷ words) _ (run names left words None (add (id, word) (Some kept))) (rw kind_is refl)
      (goes_on s _ (at kept (Some (id, word ∷ [])) (next_at position) false) word words _ (step.place_passes s names finds again uses kept pending position id word next.0 word_is settles)
      (step.place_walked s names finds again uses kept pending position id word next.0 word_is settles)
      (next_use words kept (id, word) (next_at position) left next.2 fine (place_rules position id next.1)
      (λ uses all pending settled. rest.idle uses all pending (next_at position) left next.2 settled)))

  idle_next : (word : Text) (words : List Text) → IsFine word → AllByRecursion IsFine words → Both words
      → (uses kept : Uses) (pending : Option (Text × List Text)) (position : ℕ) (left : List Text) → AreNext s.rules position left → Settles s uses pending kept
      → Agrees s (at uses pending position false) (word ∷ words) (run names left (word ∷ words) None (Some kept))
  idle_next word words fine_word fine rest uses kept pending position left next settles = elim (form word) [
    | is_end is ↦ rw is (goes_on s _ (at_trailing uses pending idle position) (45 ∷ 45 ∷ []) words _ (step.end_passes s names finds again uses pending position)
        (step.end_walked s names finds again uses pending position) (trailing_all words uses kept pending position left next settles))
    | is_long x text is ↦ long_idle word words _ _ (long_word word x text is) (ap kind is ∙ kind-long x text) rest uses kept pending position left next settles
    | is_short x text other is ↦ agrees_as s _ (word ∷ words) _ None (rw (ap kind is ∙ kind-short x text other) refl)
        (refuses s _ word words (step.short_unknown s names finds again uses pending position word _ (short_word word x text fine_word other is)))
    | is_plain none ↦ place_idle word words (plain_word word none) (kind-plain word none) fine rest uses kept pending position left next settles
  ]

  waits_next : (word : Text) (words : List Text) → IsFine word → AllByRecursion IsFine words → Both words
      → (kept : Uses) (name : Text) (position : ℕ) (left : List Text) → AreNext s.rules position left → is_name names name ≡ true
      → Agrees s (at_option kept name position) (word ∷ words) (run names left (word ∷ words) (Some name) (Some kept))
  waits_next word words fine_word fine rest kept name position left next known = elim (form word) [
    | is_end is ↦ rw is (goes_on s _ (at_trailing kept (Some (name, [])) (option name) position) (45 ∷ 45 ∷ []) words None refl
        (step.end_walked_option s names finds again kept name position)
        (trailing_all_stuck words kept (Some (name, [])) (option name) position left next (step.settles_empty s names finds again kept name known)))
    | is_long x text is ↦ agrees_as s _ (word ∷ words) _ None (rw (ap kind is ∙ kind-long x text) refl)
        (refuses s _ word words (step.long_for_value s names finds again kept name position word _ _ (long_word word x text is) known))
    | is_short x text other is ↦ agrees_as s _ (word ∷ words) _ None (rw (ap kind is ∙ kind-short x text other) refl)
        (refuses s _ word words (step.short_for_value s names finds again kept name position word _ (short_word word x text fine_word other is)))
    | is_plain none ↦ agrees_as s _ (word ∷ words) _ (run names left words None (add (name, word) (Some kept))) (rw (kind-plain word none) refl)
        (goes_on s _ (at kept (Some (name, word ∷ [])) position false) word words _
        (step.value_passes s names finds again kept name position word (plain_word word none))
        (step.value_walked s names finds again kept name position word (plain_word word none) known)
        (next_use words kept (name, word) position left next fine (option_rules finds name known)
        (λ uses all pending settled. rest.idle uses all pending position left next settled)))
  ]

  pub both : (words : List Text) → AllByRecursion IsFine words → Both words
  both [] fine = record {
    idle = λ uses kept pending position left next settles. stops s uses kept pending idle position false settles;
    waits = λ kept name position left next known. stops_stuck s (at_option kept name position) (step.settles_empty s names finds again kept name known);
  }
  both (word ∷ words) fine =
      let rest = both words fine.1 in
      record {
        idle = λ uses kept pending position left next settles. idle_next word words fine.0 fine.1 rest uses kept pending position left next settles;
        waits = λ kept name position left next known. waits_next word words fine.0 fine.1 rest kept name position left next known;
      }

  -- The words are taken just where they are read.
  pub walk_agrees : (ids words : List Text) → AreNext s.rules 1 ids → AllByRecursion IsFine words → Agrees s (at [] None 1 false) words (run names ids words None (Some []))
  walk_agrees ids words next fine = (both words fine).idle [] [] None 1 ids next (step.settles_none s names finds again [])
