-- What a change of the file of one number leaves of each other one, and what it makes of that one.
use Rattle.std.proofs.Common.{◌≡◌, ◌≢◌, ℕ, ◌+◌, ◌≤◌, ◌<◌, not, List, [], ◌∷◌, ◌++◌, map, filter, Option, None, Some, refl, arith}
use Rattle.std.specs.Prelude.{option_map}
use Rattle.file_store_blocks.proofs.Names.{find, nat_tests, IsPlaced, Rise, Placed, PlacedStore, has_number, placed_of, changed, with_changed, with_new, without_file}

-- ---- one file changed

-- the change leaves the number
abbrev pub KeepsNumber : (Placed → Placed) → Type 0
KeepsNumber change = (file : Placed) → (change file).number ≡ file.number

module _ (number : ℕ) (change : Placed → Placed) (keeps : KeepsNumber change) where
  find_changed_other : (other : ℕ) (files : List Placed) → other ≢ number → find (has_number other) (map (changed number change) files) ≡ find (has_number other) files
  find_changed_other other [] ne = refl
  find_changed_other other (f ∷ fs) ne = grind (arith, nat_tests, keeps f, find_changed_other other fs ne)

  find_changed : (files : List Placed) → find (has_number number) (map (changed number change) files) ≡ option_map change (find (has_number number) files)
  find_changed [] = refl
  find_changed (f ∷ fs) = grind (arith, nat_tests, keeps f, find_changed fs)

  -- another file is as it was
  pub changed_leaves : (store : PlacedStore) (other : ℕ) → other ≢ number → placed_of (with_changed store number change) other ≡ placed_of store other
  changed_leaves store other ne = find_changed_other other store.entries ne

  -- and that one is changed
  pub changed_is : (store : PlacedStore) → placed_of (with_changed store number change) number ≡ option_map change (placed_of store number)
  changed_is store = find_changed store.entries

-- ---- one file gone

find_without_other : (number other : ℕ) (files : List Placed) → other ≢ number → find (has_number other) (filter (λ f. not (has_number number f)) files) ≡ find (has_number other) files
find_without_other number other [] ne = refl
find_without_other number other (f ∷ fs) ne = grind (arith, nat_tests, find_without_other number other fs ne)

find_without : (number : ℕ) (files : List Placed) → find (has_number number) (filter (λ f. not (has_number number f)) files) ≡ None
find_without number [] = refl
find_without number (f ∷ fs) = grind (arith, nat_tests, find_without number fs)

pub without_leaves : (store : PlacedStore) (number other : ℕ) → other ≢ number → placed_of (without_file store number) other ≡ placed_of store other
without_leaves store number other ne = find_without_other number other store.entries ne

pub without_is : (store : PlacedStore) (number : ℕ) → placed_of (without_file store number) number ≡ None
without_is store number = find_without number store.entries

-- ---- one file more

find_push_none : (files : List Placed) (file : Placed) → find (has_number file.number) files ≡ None → find (has_number file.number) (files ++ file ∷ []) ≡ Some file
find_push_none [] file none = grind (arith, nat_tests)
find_push_none (f ∷ fs) file none = grind (arith, nat_tests, find_push_none fs file)

-- a file that is found has a number below the next one
found_low : (number low next : ℕ) (files : List Placed) (file : Placed) → Rise low files next → find (has_number number) files ≡ Some file → (low ≤ number) × (number < next)
found_low number low next [] file rise found = absurd (cc)
found_low number low next (f ∷ fs) file rise found = grind (arith, nat_tests, found_low number (f.number + 1) next fs file rise.2)

module _ (store : PlacedStore) (is : IsPlaced store) where
  -- the numbers of files are from 1 up to the next one
  pub found_below : (number : ℕ) (file : Placed) → placed_of store number ≡ Some file → (1 ≤ number) × (number < store.next)
  found_below number file found = found_low number 1 store.next store.entries file is.numbers found

  -- no file has a number that wasn't given yet
  pub none_past : (number : ℕ) → store.next ≤ number → placed_of store number ≡ None
  none_past number past = by (placed_of store number) refl
    where
      by : (o : Option Placed) → placed_of store number ≡ o → o ≡ None
      by None same = refl
      by (Some file) same = absurd (omega (arith, past, (found_below number file same).1))

  -- a new file is found by its number
  pub new_is_found : (file : Placed) → file.number ≡ store.next → placed_of (with_new store file) file.number ≡ Some file
  new_is_found file same = find_push_none store.entries file (none_past file.number (omega (arith, same)))
