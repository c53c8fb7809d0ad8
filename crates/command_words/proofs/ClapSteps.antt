-- What `clap` makes of one word.
use Rattle.std.proofs.Common.{◌≡◌, ℕ, Bool, true, false, cond, List, [], ◌∷◌, ◌++◌, length, Option, None, Some, refl, sym, ◌∙◌, inl, inr, true≢false}
use Rattle.clap.specs.declared.error.kind.ErrorKind.TheVariants as kind
use Rattle.command_words.proofs.Names.{slice_get, bytes_eq, chars, and_right, cases_Bool, or_right, long_of, short_of, Held, Waiting, Walk, arg_by_index, arg_by_long, idle, option, settled_rows, walked, Shape, settle_passes, turn_passes, flags_fault, settle_fault, long_fault, option_fault, stray_fault, turn_fault, use_fault, Kinds, or_else}
use Rattle.command_words.proofs.Uses.{Text, Uses, has, text_eq}
use Rattle.command_words.proofs.Machine.{is_name}
use Rattle.command_words.proofs.Rules.{Finds, Takes, has_row-rows, next_at, option_rule, option_takes, place_rule, row_added, rows}

-- the rows of these uses, and what waits to be kept
abbrev pub held : Uses → Option (Text × List Text) → Held
held uses pending = record { rows = rows uses; pending = pending; skip = 0 }

-- where the walk stands
abbrev pub at : Uses → Option (Text × List Text) → ℕ → Bool → Walk
at uses pending position is_trailing =
    record { held = held uses pending; waiting = idle; position = position; is_trailing = is_trailing; stopped = None }

-- the same, where an option waits for its value
abbrev pub at_option : Uses → Text → ℕ → Walk
at_option uses name position =
    record { held = held uses (Some (name, [])); waiting = option name; position = position; is_trailing = false; stopped = None }

-- the same after `--`
abbrev pub at_trailing : Uses → Option (Text × List Text) → Waiting → ℕ → Walk
at_trailing uses pending waiting position =
    record { held = held uses pending; waiting = waiting; position = position; is_trailing = true; stopped = None }

-- two steps come to no fault only where neither does
pub no_fault : (a b : Kinds) → or_else a b ≡ [] → (a ≡ []) × (b ≡ [])
no_fault [] b e = (refl, e)
no_fault (k ∷ ks) b e = absurd cc

-- a place that none takes is a fault
no_stray : (leaf : Bool) → cond leaf (kind.UnknownArgument ∷ []) (kind.UnknownArgument ∷ kind.InvalidSubcommand ∷ []) ≡ [] → ⊥
no_stray true e = absurd cc
no_stray false e = absurd cc

-- the word isn't `--`, and has no hyphen that makes it a flag
pub record IsPlainWord (word : Text) : Type 0 where
  pub no_end : bytes_eq word (45 ∷ 45 ∷ []) ≡ false
  pub no_long : long_of word ≡ None
  pub no_short : short_of word ≡ None

-- the word is `--name` or `--name=value`
pub record IsLongWord (word name : Text) (value : Option Text) : Type 0 where
  pub no_end : bytes_eq word (45 ∷ 45 ∷ []) ≡ false
  pub is_long : long_of word ≡ Some (name, value)

-- the word is `-x..`
pub record IsShortWord (word : Text) (flags : Text) : Type 0 where
  pub no_end : bytes_eq word (45 ∷ 45 ∷ []) ≡ false
  pub no_long : long_of word ≡ None
  pub is_short : short_of word ≡ Some flags
  pub some : (x : ℕ) × (slice_get (chars flags) 0 ≡ Some x)
  pub longer : (y : ℕ) × (rest : Text) × (flags ≡ y ∷ rest)

-- what waits is kept beside these uses, and makes them those
pub record Settles (s : Shape) (uses : Uses) (pending : Option (Text × List Text)) (kept : Uses) : Type 0 where
  pub passes : settle_passes s.rules false (held uses pending) ≡ true
  pub rows_are : settled_rows s.rules pending (rows uses) ≡ rows kept

module _ (s : Shape) (names : List Text) (finds : Finds s.rules names) (again : s.args_override_self ≡ false) where
  -- ---- what waits

  pub settles_none : (uses : Uses) → Settles s uses None uses
  settles_none uses = record { passes = refl; rows_are = refl }

  pub settles_some : (uses : Uses) (name value : Text) → Takes s.rules name → has name uses ≡ false
      → Settles s uses (Some (name, value ∷ [])) (uses ++ (name, value) ∷ [])
  settles_some uses name value known new =
      record {
        passes = rw (known.found, known.one.passes value (rows uses), has_row-rows name uses, new) refl;
        rows_are = rw (known.found, known.one.used_is value (rows uses), row_added name value uses new) refl;
      }

  pub settles_twice : (uses : Uses) (name value : Text) → Takes s.rules name → has name uses ≡ true
      → settle_fault s.rules false (held uses (Some (name, value ∷ []))) ≡ [] → ⊥
  settles_twice uses name value known old e =
      let fault : use_fault false known.rule (value ∷ []) (rows uses) ≡ [] = rw known.found at e in
      true≢false (sym old ∙ sym (has_row-rows name uses) ∙ known.one.faults value (rows uses) fault)

  pub settles_empty : (uses : Uses) (name : Text) → is_name names name ≡ true → settle_fault s.rules false (held uses (Some (name, []))) ≡ [] → ⊥
  settles_empty uses name known e =
      let fault : use_fault false (option_rule name) [] (rows uses) ≡ [] = rw (finds.option name known) at e in
      (option_takes name).none_faults (rows uses) fault

  -- ---- a place

  pub place_passes : (uses kept : Uses) (pending : Option (Text × List Text)) (position : ℕ) (id word : Text) → arg_by_index s.rules position ≡ Some (place_rule position id)
      → IsPlainWord word → Settles s uses pending kept → turn_passes s [] (at uses pending position false) word ≡ true
  place_passes uses kept pending position id word here plain settles =
      rw (plain.no_end, plain.no_long, plain.no_short, here, again) (or_right _ _ settles.passes)

  pub place_walked : (uses kept : Uses) (pending : Option (Text × List Text)) (position : ℕ) (id word : Text) → arg_by_index s.rules position ≡ Some (place_rule position id)
      → IsPlainWord word → Settles s uses pending kept → walked s.rules [] (at uses pending position false) word ≡ at kept (Some (id, word ∷ [])) (next_at position) false
  unfolding walked
  place_walked uses kept pending position id word here plain settles =
      rw (plain.no_end, plain.no_long, plain.no_short, here, and_right _ false refl, settles.rows_are) refl

  -- a place too many
  pub stray : (uses : Uses) (pending : Option (Text × List Text)) (position : ℕ) (word : Text) → arg_by_index s.rules position ≡ None → IsPlainWord word
      → turn_fault s [] (at uses pending position false) word ≡ [] → ⊥
  stray uses pending position word none plain e =
      let fault : stray_fault s ≡ [] = rw (plain.no_end, plain.no_long, plain.no_short, none) at e in
      no_stray s.is_leaf fault

  -- ---- `--` and the places after it

  pub end_passes : (uses : Uses) (pending : Option (Text × List Text)) (position : ℕ) → turn_passes s [] (at uses pending position false) (45 ∷ 45 ∷ []) ≡ true
  end_passes uses pending position = refl

  pub end_walked : (uses : Uses) (pending : Option (Text × List Text)) (position : ℕ) → walked s.rules [] (at uses pending position false) (45 ∷ 45 ∷ []) ≡ at uses pending position true
  unfolding walked
  end_walked uses pending position = refl

  pub end_walked_option : (uses : Uses) (name : Text) (position : ℕ)
      → walked s.rules [] (at_option uses name position) (45 ∷ 45 ∷ []) ≡ at_trailing uses (Some (name, [])) (option name) position
  unfolding walked
  end_walked_option uses name position = refl

  pub trailing_passes : (uses kept : Uses) (pending : Option (Text × List Text)) (position : ℕ) (id word : Text) → arg_by_index s.rules position ≡ Some (place_rule position id)
      → Settles s uses pending kept → turn_passes s [] (at uses pending position true) word ≡ true
  trailing_passes uses kept pending position id word here settles = rw (here, again) (or_right _ _ settles.passes)

  pub trailing_walked : (uses kept : Uses) (pending : Option (Text × List Text)) (position : ℕ) (id word : Text) → arg_by_index s.rules position ≡ Some (place_rule position id)
      → Settles s uses pending kept → walked s.rules [] (at uses pending position true) word ≡ at kept (Some (id, word ∷ [])) (next_at position) true
  unfolding walked
  trailing_walked uses kept pending position id word here settles = rw (here, and_right _ false refl, settles.rows_are) refl

  -- ---- a long option

  pub long_passes : (uses kept : Uses) (pending : Option (Text × List Text)) (position : ℕ) (word name : Text) → IsLongWord word name None → is_name names name ≡ true
      → Settles s uses pending kept → turn_passes s [] (at uses pending position false) word ≡ true
  long_passes uses kept pending position word name long known settles =
      rw (long.no_end, long.is_long, finds.long, known, again, settles.passes) refl

  pub long_walked : (uses kept : Uses) (pending : Option (Text × List Text)) (position : ℕ) (word name : Text) → IsLongWord word name None → is_name names name ≡ true
      → Settles s uses pending kept → walked s.rules [] (at uses pending position false) word ≡ at_option kept name position
  unfolding walked
  long_walked uses kept pending position word name long known settles =
      rw (long.no_end, long.is_long, finds.long, known, settles.rows_are) refl

  pub joined_passes : (uses kept : Uses) (pending : Option (Text × List Text)) (position : ℕ) (word name value : Text) → IsLongWord word name (Some value)
      → is_name names name ≡ true → has name kept ≡ false → Settles s uses pending kept → turn_passes s [] (at uses pending position false) word ≡ true
  joined_passes uses kept pending position word name value long known new settles =
      rw (long.no_end, long.is_long, finds.long, known, again, settles.passes, settles.rows_are, has_row-rows name kept, new) refl

  pub joined_walked : (uses kept : Uses) (pending : Option (Text × List Text)) (position : ℕ) (word name value : Text) → IsLongWord word name (Some value)
      → is_name names name ≡ true → has name kept ≡ false → Settles s uses pending kept
      → walked s.rules [] (at uses pending position false) word ≡ at (kept ++ (name, value) ∷ []) None position false
  unfolding walked
  joined_walked uses kept pending position word name value long known new settles =
      rw (long.no_end, long.is_long, finds.long, known, settles.rows_are, row_added name value kept new) refl

  pub long_unknown : (uses : Uses) (pending : Option (Text × List Text)) (position : ℕ) (word name : Text) (value : Option Text) → IsLongWord word name value
      → is_name names name ≡ false → turn_fault s [] (at uses pending position false) word ≡ [] → ⊥
  long_unknown uses pending position word name value long unknown e =
      let fault = rw (long.no_end, long.is_long, finds.long, unknown) at e in
      absurd cc

  pub joined_twice : (uses kept : Uses) (pending : Option (Text × List Text)) (position : ℕ) (word name value : Text) → IsLongWord word name (Some value)
      → is_name names name ≡ true → has name kept ≡ true → Settles s uses pending kept → turn_fault s [] (at uses pending position false) word ≡ [] → ⊥
  joined_twice uses kept pending position word name value long known old settles e =
      let fault : or_else (or_else (settle_fault s.rules false (held uses pending)) (use_fault false (option_rule name) (value ∷ []) (settled_rows s.rules pending (rows uses)))) [] ≡ [] =
      rw (long.no_end, long.is_long, finds.long, known, again) at e in
      let second : use_fault false (option_rule name) (value ∷ []) (settled_rows s.rules pending (rows uses)) ≡ [] = (no_fault _ _ (no_fault _ [] fault).0).1 in
      let one : use_fault false (option_rule name) (value ∷ []) (rows kept) ≡ [] = rw settles.rows_are at second in
      true≢false (sym old ∙ sym (has_row-rows name kept) ∙ (option_takes name).faults value (rows kept) one)

  -- ---- a short option

  no_flag : (flags : Text) (x y : ℕ) (rest : Text) (h : Held) → slice_get (chars flags) 0 ≡ Some x → flags ≡ y ∷ rest → h.skip ≡ 0
      → flags_fault s.rules s.args_override_self (length flags) flags h.skip (record h { skip = 0 }) ≡ [] → ⊥
  unfolding flags_fault
  no_flag flags x y rest h first is none e =
      let fault = rw (is, none, ← is, first, finds.short) at e in
      absurd cc

  pub short_unknown : (uses : Uses) (pending : Option (Text × List Text)) (position : ℕ) (word flags : Text) → IsShortWord word flags
      → turn_fault s [] (at uses pending position false) word ≡ [] → ⊥
  short_unknown uses pending position word flags short e =
      let fault = rw (short.no_end, short.no_long, short.is_short) at e in
      no_flag flags short.some.0 short.longer.0 short.longer.1 (held uses pending) short.some.1 short.longer.2 refl (no_fault _ _ fault).0

  -- ---- an option that waits for its value

  pub value_passes : (uses : Uses) (name : Text) (position : ℕ) (word : Text) → IsPlainWord word
      → turn_passes s [] (at_option uses name position) word ≡ true
  value_passes uses name position word plain = rw (plain.no_end, plain.no_long, plain.no_short) refl

  pub value_walked : (uses : Uses) (name : Text) (position : ℕ) (word : Text) → IsPlainWord word → is_name names name ≡ true
      → walked s.rules [] (at_option uses name position) word ≡ at uses (Some (name, word ∷ [])) position false
  unfolding walked
  value_walked uses name position word plain known =
      rw (plain.no_end, plain.no_long, plain.no_short, finds.option name known, text_eq name name refl) refl

  pub short_for_value : (uses : Uses) (name : Text) (position : ℕ) (word flags : Text) → IsShortWord word flags
      → turn_fault s [] (at_option uses name position) word ≡ [] → ⊥
  short_for_value uses name position word flags short e =
      let fault = rw (short.no_end, short.no_long, short.is_short) at e in
      no_flag flags short.some.0 short.longer.0 short.longer.1 (held uses (Some (name, []))) short.some.1 short.longer.2 refl (no_fault _ _ fault).0

  -- ---- what waits can't be kept

  -- a long option keeps what waits, or isn't known
  long_keeps : (h : Held) (name : Text) (value : Option Text) → (settle_fault s.rules false h ≡ [] → ⊥)
      → long_fault s.rules s.args_override_self (arg_by_long s.rules name) value h ≡ [] → ⊥
  long_keeps h name value stuck e = elim (cases_Bool (is_name names name)) [
    | inl known ↦ kept value (rw (finds.long, known, again) at e)
    | inr unknown ↦ let fault = rw (finds.long, unknown) at e in absurd cc
  ]
    where
      kept : (v : Option Text) → option_fault s.rules false (option_rule name) v h ≡ [] → ⊥
      kept None fault = stuck fault
      kept (Some text) fault = stuck (no_fault _ _ fault).0

  pub long_stuck : (uses : Uses) (pending : Option (Text × List Text)) (position : ℕ) (word name : Text) (value : Option Text) → IsLongWord word name value
      → (settle_fault s.rules false (held uses pending) ≡ [] → ⊥) → turn_fault s [] (at uses pending position false) word ≡ [] → ⊥
  long_stuck uses pending position word name value long stuck e =
      let fault = rw (long.no_end, long.is_long) at e in
      long_keeps (held uses pending) name value stuck (no_fault _ _ fault).0

  pub long_for_value : (uses : Uses) (name : Text) (position : ℕ) (word other : Text) (value : Option Text) → IsLongWord word other value → is_name names name ≡ true
      → turn_fault s [] (at_option uses name position) word ≡ [] → ⊥
  long_for_value uses name position word other value long known e =
      let fault = rw (long.no_end, long.is_long) at e in
      long_keeps (held uses (Some (name, []))) other value (settles_empty uses name known) (no_fault _ _ fault).0

  pub place_stuck : (uses : Uses) (pending : Option (Text × List Text)) (position : ℕ) (id word : Text) → arg_by_index s.rules position ≡ Some (place_rule position id)
      → IsPlainWord word → (settle_fault s.rules false (held uses pending) ≡ [] → ⊥) → turn_fault s [] (at uses pending position false) word ≡ [] → ⊥
  place_stuck uses pending position id word here plain stuck e =
      stuck (rw (plain.no_end, plain.no_long, plain.no_short, here, and_right _ false refl, again) at e)

  pub trailing_stuck : (uses : Uses) (pending : Option (Text × List Text)) (waiting : Waiting) (position : ℕ) (id word : Text)
      → arg_by_index s.rules position ≡ Some (place_rule position id) → (settle_fault s.rules false (held uses pending) ≡ [] → ⊥)
      → turn_fault s [] (at_trailing uses pending waiting position) word ≡ [] → ⊥
  trailing_stuck uses pending waiting position id word here stuck e = stuck (rw (here, and_right _ false refl, again) at e)

  pub trailing_stray : (uses : Uses) (pending : Option (Text × List Text)) (waiting : Waiting) (position : ℕ) (word : Text) → arg_by_index s.rules position ≡ None
      → turn_fault s [] (at_trailing uses pending waiting position) word ≡ [] → ⊥
  trailing_stray uses pending waiting position word none e =
      let fault : stray_fault s ≡ [] = rw none at e in
      no_stray s.is_leaf fault
