-- What a change of one file does to all.
use Rattle.std.proofs.Common.{◌≡◌, ℕ, suc, ◌+◌, ◌*◌, ◌^◌, ◌≤◌, ◌<◌, ◌⊎◌, ◌==◌, ◌&&◌, inl, inr, Bool, true, false, true≢false, List, [], ◌∷◌, length, get_or, set, refl, ap, sym, ◌∙◌, subst, arith, Option, None, Some}
use Rattle.std.proofs.lemmas.List.Edits.{length-remove}
use Rattle.file_store_blocks.proofs.Names.{IsSome, IsTrue, IfNone, IfSome, find, nat_lt, slice_get, and_parts, eq-eqb, eqb-true, lt-ltb, ltb-true, eqb_tells, remove, length-set, set-get_or, option_and_then, option_map, found_holds, IsPlaced, IsPlacedFile, drop_placed, grow_placed, grows_full, seal_placed, Placed, Seal, has_number, placed_from, placed_of, run_of, runs_of, can_grow, grown, is_free, is_partial, sealed, with_changed, with_grown, with_sealed, without_file, AreKept, Becomes, ChangesRest, IsLowest, IsPlace, KeepsRests, PlacedFile, PlacedFiles, Waits, entries_of, file_of, files_from, in_runs, lacks_octets, rest_of, seal_of, store_of, with_run, StandsIn, HasRuns, ReadsSealed, Sealed, sealed_file, Grows, MayGrow, Passes, TakesSeal, may_grow, SealMark, Run, Table, new_run, times_of, with_block, blocks_for, both-true}
use Rattle.file_store_blocks.proofs.PlacesLemmas.{at_place, find_entries, found_at, remove_entries, remove_here, remove_other, set_entries_changed, set_entries_same, set_here, set_other}
use Rattle.file_store_blocks.proofs.RunsLemmas.{in_runs_at, in_runs_both, in_runs_file, in_runs_remove, length_in_runs, runs_at, runs_remove, runs_set}
use Rattle.file_store_blocks.proofs.SealedLemmas.{reads_sealed}

-- ---- whether a file is there

pub place_at : (files : List PlacedFile) (number place : ℕ) (o : Option ℕ) → o ≡ Some place → IfSome o (IsPlace files number) → IsPlace files number place
place_at files number place o is some = subst (λ (p : Option ℕ). IfSome p (IsPlace files number)) is some

pub has_place : (files : List PlacedFile) (number : ℕ) (o : Option ℕ) → IfNone o (file_of files number ≡ None) → (file_of files number ≡ None → ⊥) → IsSome o
has_place files number None none there = absurd (there none)
has_place files number (Some place) none there = refl

-- there is no place, and so no file
pub no_place : (files : List PlacedFile) (number : ℕ) (o : Option ℕ) → o ≡ None → IfNone o (file_of files number ≡ None) → file_of files number ≡ None
no_place files number o is none = subst (λ (p : Option ℕ). IfNone p (file_of files number ≡ None)) is none

pub no_entry : (files : PlacedFiles) (number : ℕ) → file_of files.files number ≡ None → placed_of (store_of files) number ≡ None
no_entry files number none = find_entries number files.files ∙ ap (option_map (λ (f : PlacedFile). f.entry)) none

pub no_rest : (files : PlacedFiles) (number : ℕ) → file_of files.files number ≡ None → rest_of files number ≡ None
no_rest files number none = ap (option_and_then (λ (f : PlacedFile). f.rest)) none

pub never_some : {A : Type 0} (o : Option A) → o ≡ None → IsSome o → ⊥
never_some None none h = cc
never_some (Some x) none h = cc

pub entry_of_file : (files : PlacedFiles) (number : ℕ) (file : PlacedFile) → file_of files.files number ≡ Some file → placed_of (store_of files) number ≡ Some file.entry
entry_of_file files number file found = find_entries number files.files ∙ ap (option_map (λ (f : PlacedFile). f.entry)) found

pub rest_of_file : (files : PlacedFiles) (number : ℕ) (file : PlacedFile) → file_of files.files number ≡ Some file → rest_of files number ≡ file.rest
rest_of_file files number file found = ap (option_and_then (λ (f : PlacedFile). f.rest)) found

-- what waits of an upload that is out
pub waits_some : (files : PlacedFiles) (number count : ℕ) → Waits files number count → IsSome (rest_of files number)
waits_some files number count w = subst (λ (o : Option (List ℕ)). IsSome o) (sym w.1) refl

-- a file that passes a test is there
pub never_found : (files : PlacedFiles) (number : ℕ) {test : Placed → Bool} → file_of files.files number ≡ None → Passes (store_of files) number test → ⊥
never_found files number none passes = never_some _ (no_entry files number none) (subst (λ (o : Option Placed). IsSome o) (sym passes.found) refl)

-- the seal that is there
pub mark_there : (o : Option SealMark) (mark : Seal) → seal_of o ≡ Some mark → IsSome o
mark_there None mark is = absurd (cc)
mark_there (Some m) mark is = refl

-- a file about which a seal is reported is there
pub sealed_found : (files : PlacedFiles) (number : ℕ) → file_of files.files number ≡ None → Sealed (store_of files) number → ⊥
sealed_found files number none sealed = never_some _ (no_entry files number none) (subst (λ (o : Option Placed). IsSome o) (sym sealed.found) refl)

-- ---- the file at a place

module _ (runs : List Run) (items : List PlacedFile) (next blocks : ℕ) (kept : AreKept runs items next blocks) (now : PlacedFiles) (view : files_from (in_runs runs items) next blocks ≡ now) where
  -- the files, with the blocks of their runs
  abbrev pub zs : List PlacedFile
  zs = in_runs runs items

  abbrev pub inside : PlacedFiles
  inside = files_from zs next blocks

  pub rules_now : IsPlaced (store_of now)
  rules_now = subst (λ (n : PlacedFiles). IsPlaced (store_of n)) view kept.rules

  -- the runs are those of the store's files
  pub own_runs : runs ≡ runs_of (store_of now).entries
  own_runs = sym kept.runs_are ∙ ap (λ (n : PlacedFiles). runs_of (store_of n).entries) view

  module _ (number place : ℕ) (o : Option ℕ) (is : o ≡ Some place) (some : IfSome o (IsPlace now.files number)) where
    there : IsPlace zs number place
    there = subst (λ (n : PlacedFiles). IsPlace n.files number place) (sym view) (place_at now.files number place o is some)

    pub in_range : place < length items
    in_range = omega (arith, (at_place zs place there.file there.there).0, length_in_runs runs items kept.count)

    module _ (x : PlacedFile) (read : x ≡ get_or items place x) where
      -- its run
      abbrev pub run : Run
      run = get_or runs place (new_run 0)

      -- the file with its blocks
      abbrev pub z : PlacedFile
      z = with_run run x

      z_is : there.file ≡ z
      z_is =
          sym ((at_place zs place there.file there.there).1 x)
          ∙ in_runs_at runs items place (new_run 0) x kept.count in_range
          ∙ ap (with_run run) (sym read)

      there_z : slice_get zs place ≡ Some z
      there_z = there.there ∙ ap Some z_is

      pub number_x : x.entry.number ≡ number
      number_x = ap (λ (f : PlacedFile). f.entry.number) (sym z_is) ∙ there.same

      found_inside : file_of zs number ≡ Some z
      found_inside = found_at 1 next zs number place z kept.rules.numbers there_z number_x

      pub found_now : file_of now.files number ≡ Some z
      found_now = subst (λ (n : PlacedFiles). file_of n.files number ≡ Some z) view found_inside

      pub rest_now : rest_of now number ≡ x.rest
      rest_now = rest_of_file now number z found_now

      pub entry_now : placed_of (store_of now) number ≡ Some z.entry
      entry_now = entry_of_file now number z found_now

      pub run_is : run ≡ run_of z.entry
      run_is =
          ap (λ (rs : List Run). get_or rs place (new_run 0)) (sym kept.runs_are)
          ∙ runs_at zs place (new_run 0) x (omega (arith, in_range, length_in_runs runs items kept.count))
          ∙ ap (λ (f : PlacedFile). run_of f.entry) ((at_place zs place there.file there.there).1 x ∙ z_is)

      -- ---- another file of the number at its place

      module _ (others : List PlacedFile) (y : PlacedFile) (others_are : others ≡ set zs place y) where
        abbrev pub changed_files : PlacedFiles
        changed_files = files_from others next blocks

        keeps_rests : y.entry.number ≡ number → KeepsRests now changed_files number
        keeps_rests same =
            let kept_there : KeepsRests inside (files_from (set zs place y) next blocks) number =
            λ other ne. ap (option_and_then (λ (f : PlacedFile). f.rest)) (set_other zs number other place z y there_z number_x same ne) in
            subst (λ (fs : List PlacedFile). KeepsRests now (files_from fs next blocks) number) (sym others_are)
            (subst (λ (n : PlacedFiles). KeepsRests n (files_from (set zs place y) next blocks) number) view kept_there)

        rest_here : y.entry.number ≡ number → rest_of changed_files number ≡ y.rest
        rest_here same =
            rest_of_file changed_files number y
            (subst (λ (fs : List PlacedFile). file_of fs number ≡ Some y) (sym others_are)
            (set_here 1 next zs number place z y kept.rules.numbers there_z number_x same))

        -- the entry is the same
        pub same_entries : y.entry ≡ z.entry → entries_of others ≡ entries_of zs
        same_entries same = ap entries_of others_are ∙ set_entries_same zs place z y there_z same

        pub same_becomes : y.entry ≡ z.entry → ChangesRest now changed_files number y.rest
        same_becomes same =
            let number_y : y.entry.number ≡ number = ap (λ (e : Placed). e.number) same ∙ number_x in
            record {
              store_is = ap (λ (es : List Placed). placed_from es next blocks) (same_entries same) ∙ ap store_of view;
              here = rest_here number_y;
              others = keeps_rests number_y;
            }

        -- the entry is changed
        pub change_store : (change : Placed → Placed) → y.entry ≡ change z.entry → store_of changed_files ≡ with_changed (store_of inside) number change
        change_store change new =
            ap (λ (es : List Placed). placed_from es next blocks)
            (ap entries_of others_are ∙ set_entries_changed 1 next zs number place z y change kept.rules.numbers there_z number_x new)

        pub change_becomes : (change : Placed → Placed) → y.entry ≡ change z.entry → ((e : Placed) → (change e).number ≡ e.number)
            → Becomes now changed_files (with_changed (store_of now) number change) number y.rest
        change_becomes change new same =
            let number_y : y.entry.number ≡ number = ap (λ (e : Placed). e.number) new ∙ same z.entry ∙ number_x in
            record {
              store_is = change_store change new ∙ ap (λ (n : PlacedFiles). with_changed (store_of n) number change) view;
              here = rest_here number_y;
              others = keeps_rests number_y;
            }

        -- the runs, of which that one is the file's
        pub change_runs : runs_of (entries_of others) ≡ set runs place (run_of y.entry)
        change_runs =
            ap (λ (fs : List PlacedFile). runs_of (entries_of fs)) others_are
            ∙ runs_set zs place y
            ∙ ap (λ (rs : List Run). set rs place (run_of y.entry)) kept.runs_are

      -- ---- the same entry, with other octets that wait

      module _ (y : PlacedFile) (same : y.entry ≡ x.entry) where
        abbrev with_rest : List PlacedFile
        with_rest = in_runs runs (set items place y)

        entry_is : (with_run run y).entry ≡ z.entry
        entry_is = ap (λ (e : Placed). record e { blocks = run.blocks }) same

        pub rest_becomes : ChangesRest now (files_from with_rest next blocks) number y.rest
        rest_becomes = same_becomes with_rest (with_run run y) (in_runs_file runs items place (new_run 0) y) entry_is

        pub rest_kept : AreKept runs (set items place y) next blocks
        rest_kept =
            let entries = same_entries with_rest (with_run run y) (in_runs_file runs items place (new_run 0) y) entry_is in
            record {
              rules = subst (λ (es : List Placed). IsPlaced (placed_from es next blocks)) (sym entries) kept.rules;
              runs_are = ap runs_of entries ∙ kept.runs_are;
              count = kept.count ∙ sym (length-set items place y);
              some = kept.some;
              most = kept.most;
            }

      pub entry_inside : placed_of (store_of inside) number ≡ Some z.entry
      entry_inside = entry_of_file inside number z found_inside

      one : IsPlacedFile blocks z.entry
      one = found_holds (IsPlacedFile blocks) number (entries_of zs) z.entry kept.rules.files entry_inside

      -- where its octets are
      pub stands_in : (table : Table) → table.runs ≡ runs → table.limit ≡ blocks → StandsIn table blocks (record { run = place; held = x.entry.held })
      stands_in table runs_are limit_is =
          subst (λ (rs : List Run). StandsIn (record table { runs = rs }) blocks (record { run = place; held = x.entry.held })) (sym runs_are)
          (record {
            there = omega (arith, in_range, kept.count);
            below = one.below;
            fits = omega (arith, one.count);
            short = omega (arith, one.fits, one.short);
          })

      -- a seal of its number is its own
      pub sealed_here : (sealed : Sealed (store_of now) number) (mark : Option SealMark) → seal_of mark ≡ x.entry.seal → seal_of mark ≡ Some sealed.mark
      sealed_here sealed mark is =
          let same : sealed.file ≡ z.entry = let here = sealed.found in let also = entry_now in cc in
          is ∙ ap (λ (e : Placed). e.seal) (sym same) ∙ sealed.is

      -- what is read of it, if it is sealed
      pub sealed_reads : (mark : Option SealMark) (m : SealMark) → mark ≡ Some m → seal_of mark ≡ x.entry.seal → (table : Table) → HasRuns table (store_of now)
          → ReadsSealed table (store_of now) number (sealed_file place m x.entry)
      sealed_reads mark m mark_is is table has =
          let same : table.runs ≡ runs = has ∙ sym own_runs in
          reads_sealed table (store_of now) number rules_now place m z.entry entry_now (sym is ∙ ap seal_of mark_is)
          (subst (λ (rs : List Run). place < length rs) (sym same) (omega (arith, in_range, kept.count)))
          (ap (λ (rs : List Run). get_or rs place (new_run 0)) same ∙ run_is)

      -- what a test says of the file that passes it
      passes_z : (test : Placed → Bool) → Passes (store_of now) number test → IsTrue (test z.entry)
      passes_z test passes =
          let same : passes.file ≡ z.entry = let here = passes.found in let also = entry_now in cc in
          subst (λ (e : Placed). IsTrue (test e)) same passes.test_is

      -- ---- further octets in one more block

      module _ (block used : ℕ) (grows : Grows (store_of now) number block used) where
        may : MayGrow z.entry used
        may = may_grow z.entry used (passes_z (λ f. can_grow f used) grows.passes)

        full : z.entry.held ≡ 512 * length z.entry.blocks
        full = grows_full blocks z.entry used one may grows.takes.some

        pub held_fits : x.entry.held + used < 2 ^ 32
        held_fits = omega (arith, may.room, one.short)

        pub run_room : (place < length runs) × (length run.blocks < run.room)
        run_room =
            let room : run.room ≡ blocks_for z.entry.length = ap (λ (r : Run). r.room) run_is in
            (omega (arith, in_range, kept.count), omega (arith, room, full, may.room, grows.takes.some))

        pub block_free : (block < blocks) × (times_of block runs ≡ 0)
        block_free =
            let grows_inside = subst (λ (n : PlacedFiles). Grows (store_of n) number block used) (sym view) grows in
            (grows_inside.takes.there, ap (times_of block) (sym kept.runs_are) ∙ grows_inside.takes.free)

        module _ (runs_after : List Run) (limit : ℕ) (y : PlacedFile) (rest : Option (List ℕ)) (runs_are : runs_after ≡ set runs place (with_block run block)) (limit_is : limit ≡ blocks)
            (new_is : y ≡ record { entry = record x.entry { held = x.entry.held + used }; rest = rest }) where
          abbrev with_more : List PlacedFile
          with_more = in_runs runs_after (set items place y)

          abbrev more : PlacedFile
          more = with_run (with_block run block) y

          with_more_is : with_more ≡ set zs place more
          with_more_is = ap (λ (rs : List Run). in_runs rs (set items place y)) runs_are ∙ in_runs_both runs items place (with_block run block) y

          more_is : more.entry ≡ grown block used z.entry
          more_is = ap (λ (f : PlacedFile). (with_run (with_block run block) f).entry) new_is

          pub hold_becomes : Becomes now (files_from with_more next limit) (with_grown (store_of now) number block used) number rest
          hold_becomes =
              let becomes = change_becomes with_more more with_more_is (grown block used) more_is (λ e. refl) in
              let rest_is : y.rest ≡ rest = ap (λ (f : PlacedFile). f.rest) new_is in
              subst (λ (n : ℕ). Becomes now (files_from with_more next n) (with_grown (store_of now) number block used) number rest) (sym limit_is)
              (record { store_is = becomes.store_is; here = becomes.here ∙ rest_is; others = becomes.others })

          pub hold_kept : AreKept runs_after (set items place y) next limit
          hold_kept =
              let grows_inside = subst (λ (n : PlacedFiles). Grows (store_of n) number block used) (sym view) grows in
              let store = change_store with_more more with_more_is (grown block used) more_is in
              subst (λ (n : ℕ). AreKept runs_after (set items place y) next n) (sym limit_is)
              (record {
                rules = subst IsPlaced (sym store) (grow_placed (store_of inside) number block used kept.rules grows_inside);
                runs_are =
                    change_runs with_more more with_more_is
                    ∙ ap (λ (e : Placed). set runs place (run_of e)) more_is
                    ∙ ap (λ (r : Run). set runs place (with_block r block)) (sym run_is)
                    ∙ sym runs_are;
                count =
                    ap (λ (rs : List Run). length rs) runs_are
                    ∙ length-set runs place (with_block run block) ∙ kept.count ∙ sym (length-set items place y);
                some = kept.some;
                most = kept.most;
              })

      -- ---- the file sealed

      module _ (mark : Seal) (takes : TakesSeal (store_of now) number mark.header) (y : PlacedFile) (rest : Option (List ℕ))
          (new_is : y ≡ record { entry = sealed mark x.entry; rest = rest }) where
        abbrev with_seal : List PlacedFile
        with_seal = in_runs runs (set items place y)

        abbrev kept_file : PlacedFile
        kept_file = with_run run y

        with_seal_is : with_seal ≡ set zs place kept_file
        with_seal_is = in_runs_file runs items place (new_run 0) y

        kept_is : kept_file.entry ≡ sealed mark z.entry
        kept_is = ap (λ (f : PlacedFile). (with_run run f).entry) new_is

        pub seal_becomes : Becomes now (files_from with_seal next blocks) (with_sealed (store_of now) number mark) number rest
        seal_becomes =
            let becomes = change_becomes with_seal kept_file with_seal_is (sealed mark) kept_is (λ e. refl) in
            record { store_is = becomes.store_is; here = becomes.here ∙ ap (λ (f : PlacedFile). f.rest) new_is; others = becomes.others }

        pub seal_kept : AreKept runs (set items place y) next blocks
        seal_kept =
            let takes_inside = subst (λ (n : PlacedFiles). TakesSeal (store_of n) number mark.header) (sym view) takes in
            let store = change_store with_seal kept_file with_seal_is (sealed mark) kept_is in
            record {
              rules = subst IsPlaced (sym store) (seal_placed (store_of inside) number mark kept.rules takes_inside);
              runs_are =
                  change_runs with_seal kept_file with_seal_is
                  ∙ ap (λ (e : Placed). set runs place (run_of e)) kept_is
                  ∙ ap (λ (r : Run). set runs place r) (sym run_is)
                  ∙ set-get_or runs place (new_run 0);
              count = kept.count ∙ sym (length-set items place y);
              some = kept.some;
              most = kept.most;
            }

      -- ---- the file gone

      module _ (passes : Passes (store_of now) number is_partial) (runs_after : List Run) (limit : ℕ) (items_after : List PlacedFile) (runs_are : runs_after ≡ remove runs place) (limit_is : limit ≡ blocks)
          (items_are : items_after ≡ remove items place) where
        abbrev left : List PlacedFile
        left = in_runs runs_after items_after

        left_is : left ≡ remove zs place
        left_is =
            ap (λ (rs : List Run). in_runs rs items_after) runs_are
            ∙ ap (λ (fs : List PlacedFile). in_runs (remove runs place) fs) items_are
            ∙ in_runs_remove runs items place kept.count

        left_store : store_of (files_from left next blocks) ≡ without_file (store_of inside) number
        left_store =
            ap (λ (es : List Placed). placed_from es next blocks)
            (ap entries_of left_is ∙ remove_entries 1 next zs number place z kept.rules.numbers there_z number_x)

        left_rests : KeepsRests now (files_from left next blocks) number
        left_rests =
            let kept_there : KeepsRests inside (files_from (remove zs place) next blocks) number =
            λ other ne. ap (option_and_then (λ (f : PlacedFile). f.rest)) (remove_other zs number other place z there_z number_x ne) in
            subst (λ (fs : List PlacedFile). KeepsRests now (files_from fs next blocks) number) (sym left_is)
            (subst (λ (n : PlacedFiles). KeepsRests n (files_from (remove zs place) next blocks) number) view kept_there)

        pub drop_becomes : Becomes now (files_from left next limit) (without_file (store_of now) number) number None
        drop_becomes =
            subst (λ (n : ℕ). Becomes now (files_from left next n) (without_file (store_of now) number) number None) (sym limit_is)
            (record {
              store_is = left_store ∙ ap (λ (n : PlacedFiles). without_file (store_of n) number) view;
              here =
                  ap (λ (fs : List PlacedFile). option_and_then (λ (f : PlacedFile). f.rest) (file_of fs number)) left_is
                  ∙ ap (option_and_then (λ (f : PlacedFile). f.rest)) (remove_here 1 next zs number place z kept.rules.numbers there_z number_x);
              others = left_rests;
            })

        pub drop_kept : AreKept runs_after items_after next limit
        drop_kept =
            let passes_inside = subst (λ (n : PlacedFiles). Passes (store_of n) number is_partial) (sym view) passes in
            subst (λ (n : ℕ). AreKept runs_after items_after next n) (sym limit_is)
            (record {
              rules = subst IsPlaced (sym left_store) (drop_placed (store_of inside) number kept.rules passes_inside);
              runs_are =
                  ap (λ (fs : List PlacedFile). runs_of (entries_of fs)) left_is
                  ∙ runs_remove zs place
                  ∙ ap (λ (rs : List Run). remove rs place) kept.runs_are
                  ∙ sym runs_are;
              count = omega (
                arith,
                ap (λ (rs : List Run). length rs) runs_are,
                ap (λ (fs : List PlacedFile). length fs) items_are,
                length-remove runs place (omega (arith, in_range, kept.count)),
                length-remove items place in_range,
                kept.count,
              );
              some = kept.some;
              most = kept.most;
            })

-- ---- a block that no file has

-- the run of a file that is found
find_run : (number : ℕ) (files : List Placed) (file : Placed) (d : Run) → find (has_number number) files ≡ Some file
    → (k : ℕ) × (k < length (runs_of files)) × (get_or (runs_of files) k d ≡ run_of file)
find_run number [] file d found = absurd (cc)
find_run number (f ∷ fs) file d found =
    elim (eqb_tells f.number number) [
      | inl w ↦
          let is : Some f ≡ Some file = rw w.0 at found in
          let same : f ≡ file = cc in
          (0, omega arith, ap run_of same)
      | inr w ↦
          let rest = find_run number fs file d (rw w.0 at found) in
          (suc rest.0, omega (arith, rest.1), rest.2)
    ]

still_full : (held file_length count : ℕ) → (held ≡ file_length) ⊎ (held ≡ 512 * count) → held < file_length → held ≡ 512 * count
still_full held file_length count (inl all) room = absurd (omega (arith, all, room))
still_full held file_length count (inr is) room = is

-- a test that says whether there is a block that is in no run
free_test : (b : Bool) (block blocks times : ℕ) → (IsTrue b → (block < blocks) × (times ≡ 0)) → (block < blocks → times ≡ 0 → IsTrue b)
    → b ≡ (nat_lt block blocks && (times == 0))
free_test true block blocks times to from = sym (both-true _ _ (lt-ltb _ _ (to refl).0) (eq-eqb _ _ (to refl).1))
free_test false block blocks times to from = by (nat_lt block blocks && (times == 0)) refl
  where
    by : (c : Bool) → (nat_lt block blocks && (times == 0)) ≡ c → false ≡ c
    by false is = refl
    by true is = let tests = and_parts (nat_lt block blocks) (times == 0) is in absurd (true≢false (sym (from (ltb-true _ _ tests.0) (eqb-true _ _ tests.1))))

-- a file that lacks octets has room for one more block
module _ (runs : List Run) (items : List PlacedFile) (next blocks : ℕ) (kept : AreKept runs items next blocks) (now : PlacedFiles) (view : files_from (in_runs runs items) next blocks ≡ now) where
  pub lacks_room : (number : ℕ) → Passes (store_of now) number lacks_octets → (k : ℕ) × (k < length runs) × (length (get_or runs k (new_run 0)).blocks < (get_or runs k (new_run 0)).room)
  lacks_room number passes_now =
      let entries = entries_of (in_runs runs items) in
      let passes : Passes (store_of (files_from (in_runs runs items) next blocks)) number lacks_octets =
      subst (λ (n : PlacedFiles). Passes (store_of n) number lacks_octets) (sym view) passes_now in
      let one : IsPlacedFile blocks passes.file = found_holds (IsPlacedFile blocks) number entries passes.file kept.rules.files passes.found in
      let lacks : passes.file.held < passes.file.length = ltb-true _ _ passes.test_is in
      let full : passes.file.held ≡ 512 * length passes.file.blocks = still_full passes.file.held passes.file.length (length passes.file.blocks) one.full lacks in
      let at = find_run number entries passes.file (new_run 0) passes.found in
      let run_is : get_or runs at.0 (new_run 0) ≡ run_of passes.file = ap (λ (rs : List Run). get_or rs at.0 (new_run 0)) (sym kept.runs_are) ∙ at.2 in
      let inside : at.0 < length runs = subst (λ (rs : List Run). at.0 < length rs) kept.runs_are at.1 in
      let blocks_are = ap (λ (r : Run). length r.blocks) run_is in
      let room_is = ap (λ (r : Run). r.room) run_is in
      (at.0, inside, omega (arith, blocks_are, room_is, full, lacks))

  pub lowest_is : (block : ℕ) → block < blocks → times_of block runs ≡ 0 → ((other : ℕ) → other < block → 1 ≤ times_of other runs) → IsLowest (store_of now) block
  lowest_is block below free lower =
      subst (λ (n : PlacedFiles). IsLowest (store_of n) block) view
      (record {
        free = both-true (nat_lt block blocks) _ (lt-ltb _ _ below) (eq-eqb _ _ (ap (times_of block) kept.runs_are ∙ free));
        lower = λ other less. subst (λ (rs : List Run). 1 ≤ times_of other rs) (sym kept.runs_are) (lower other less);
      })

  pub free_is : (block : ℕ) (b : Bool) → (IsTrue b → (block < blocks) × (times_of block runs ≡ 0)) → (block < blocks → times_of block runs ≡ 0 → IsTrue b)
      → b ≡ is_free (store_of now) block
  free_is block b to from =
      subst (λ (n : PlacedFiles). b ≡ is_free (store_of n) block) view
      (subst (λ (rs : List Run). b ≡ (nat_lt block blocks && (times_of block rs == 0))) (sym kept.runs_are)
      (free_test b block blocks (times_of block runs) to from))
