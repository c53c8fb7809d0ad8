-- Which file is the next one that is sealed.
use Rattle.std.proofs.Common.{◌≡◌, ℕ, zero, suc, ◌+◌, ◌≤◌, ◌<◌, Bool, true, false, List, [], ◌∷◌, length, get_or, drop, refl, ap, sym, subst, arith, Option, None, Some, inl, inr}
use Rattle.file_store_blocks.proofs.Names.{IsTrue, find, nat_le, IsPartitionPoint, IsPartitionedBy, option_map, cases_lt, nat_tests, eqb_tells, Rise, Placed, has_number, is_sealed, placed_from, IsNextSealed, IsSealedIn, PlacedFile, entries_of, in_runs, is_sealed_file, with_run, Run, new_run}
use Rattle.file_store_blocks.proofs.PlacesLemmas.{rises}
use Rattle.file_store_blocks.proofs.RunsLemmas.{in_runs_at, length_in_runs}

-- the number of the file at a place
abbrev number_at : List PlacedFile → ℕ → PlacedFile → ℕ
number_at files place d = (get_or files place d).entry.number

-- a file that is found is no lower than all
found_low : (number low next : ℕ) (entries : List Placed) (e : Placed) → Rise low entries next → find (has_number number) entries ≡ Some e → low ≤ number
found_low number low next [] e are found = absurd (cc)
found_low number low next (x ∷ xs) e are found = grind (arith, nat_tests, found_low number (x.number + 1) next xs e are.2)

-- if one more file at the beginning changes nothing above this number
module _ (above next blocks : ℕ) (x : Placed) (xs : List Placed) where
  next_skips : ((n : ℕ) → above < n → IsSealedIn (placed_from (x ∷ xs) next blocks) n → IsSealedIn (placed_from xs next blocks) n)
      → ((n : ℕ) → above < n → IsSealedIn (placed_from xs next blocks) n → IsSealedIn (placed_from (x ∷ xs) next blocks) n)
      → (r : Option ℕ) → IsNextSealed (placed_from xs next blocks) above r → IsNextSealed (placed_from (x ∷ xs) next blocks) above r
  next_skips there back None h = λ n lt is. h n lt (there n lt is)
  next_skips there back (Some found) h = (h.0, back found h.0 h.1, λ n lt is. h.2 n lt (there n lt is))

  -- that is so if it isn't above the number, or isn't sealed
  to_rest : (low : ℕ) → Rise low (x ∷ xs) next → (above < x.number → IsTrue (is_sealed x) → ⊥)
      → (n : ℕ) → above < n → IsSealedIn (placed_from (x ∷ xs) next blocks) n → IsSealedIn (placed_from xs next blocks) n
  to_rest low are never n lt is =
      elim (eqb_tells x.number n) [
        | inl w ↦
            let same : x ≡ is.0 = let f = rw w.0 at is.1 in cc in
            absurd (never (omega (arith, w.1)) (subst (λ (e : Placed). IsTrue (is_sealed e)) (sym same) is.2))
        | inr w ↦ (is.0, rw w.0 at is.1, is.2)
      ]

  from_rest : (low : ℕ) → Rise low (x ∷ xs) next → (n : ℕ) → above < n → IsSealedIn (placed_from xs next blocks) n → IsSealedIn (placed_from (x ∷ xs) next blocks) n
  from_rest low are n lt is =
      let more = found_low n (x.number + 1) next xs is.0 are.2 is.1 in
      let other : has_number n x ≡ false = grind (arith, nat_tests) in
      (is.0, rw other is.1, is.2)

  skips : (low : ℕ) → Rise low (x ∷ xs) next → (above < x.number → IsTrue (is_sealed x) → ⊥)
      → (r : Option ℕ) → IsNextSealed (placed_from xs next blocks) above r → IsNextSealed (placed_from (x ∷ xs) next blocks) above r
  skips low are never = next_skips (to_rest low are never) (from_rest low are)

  -- the first one is the next
  first : (low : ℕ) → Rise low (x ∷ xs) next → above < x.number → IsTrue (is_sealed x) → IsNextSealed (placed_from (x ∷ xs) next blocks) above (Some x.number)
  first low are lt is =
      let here : has_number x.number x ≡ true = grind (arith, nat_tests) in (
        lt,
        (x, rw here refl, is),
        λ n more complete.
            elim (eqb_tells x.number n) [
              | inl w ↦ omega (arith, w.1)
              | inr w ↦ let low_of = found_low n (x.number + 1) next xs complete.0 are.2 (rw w.0 at complete.1) in omega (arith, low_of)
            ],
      )

-- the number of the first of these files that is sealed
abbrev pub first_sealed_of : List PlacedFile → Option ℕ
first_sealed_of files = option_map (λ f. f.entry.number) (find is_sealed_file files)

next_is : (low next blocks above place : ℕ) (files : List PlacedFile) → Rise low (entries_of files) next → place ≤ length files
    → ((k : ℕ) (d : PlacedFile) → k < place → number_at files k d ≤ above) → ((k : ℕ) (d : PlacedFile) → place ≤ k → k < length files → above < number_at files k d)
    → IsNextSealed (placed_from (entries_of files) next blocks) above (first_sealed_of (drop place files))
next_is low next blocks above place [] are inside before behind = none place
  where
    none : (place : ℕ) → IsNextSealed (placed_from [] next blocks) above (first_sealed_of (drop place []))
    none zero = λ n lt is. let found = is.1 in cc
    none (suc place) = λ n lt is. let found = is.1 in cc
next_is low next blocks above zero (x ∷ xs) are inside before behind =
    at_front (is_sealed_file x) refl (next_is (x.entry.number + 1) next blocks above zero xs are.2 (omega arith) (λ k d h. absurd (omega arith)) (λ k d h i. behind (suc k) d (omega arith) (omega (arith, i))))
  where
    at_front : (b : Bool) → is_sealed_file x ≡ b → IsNextSealed (placed_from (entries_of xs) next blocks) above (first_sealed_of xs)
        → IsNextSealed (placed_from (x.entry ∷ entries_of xs) next blocks) above (first_sealed_of (x ∷ xs))
    at_front true is rest = rw is (first above next blocks x.entry (entries_of xs) low are (behind 0 x (omega arith) (omega arith)) is)
    at_front false is rest = rw is (skips above next blocks x.entry (entries_of xs) low are (λ lt yes. let no : is_sealed_file x ≡ false = is in cc) (first_sealed_of xs) rest)
next_is low next blocks above (suc place) (x ∷ xs) are inside before behind =
    let first_below : x.entry.number ≤ above = before 0 x (omega arith) in
    skips above next blocks x.entry (entries_of xs) low are (λ lt yes. absurd (omega (arith, lt, first_below))) (first_sealed_of (drop place xs))
    (next_is (x.entry.number + 1) next blocks above place xs are.2 (omega (arith, inside))
    (λ k d h. before (suc k) d (omega (arith, h))) (λ k d h i. behind (suc k) d (omega (arith, h)) (omega (arith, i))))

-- the files with numbers up to this one come first
pub numbers_parted : (low next above : ℕ) (files : List PlacedFile) → Rise low (entries_of files) next → IsPartitionedBy (λ f. nat_le f.entry.number above) files
numbers_parted low next above files are i j d le inside h = elim (cases_lt i j) [
  | inl lt ↦
      let rise : number_at files i d < number_at files j d = rises low next files i j d are lt inside in
      below (number_at files i d) (number_at files j d) rise h
  | inr past ↦
      let same : j ≡ i = omega arith in
      subst (λ (k : ℕ). nat_le (number_at files k d) above ≡ true) same h
]
  where
    below : (a b : ℕ) → a < b → nat_le b above ≡ true → nat_le a above ≡ true
    below a b lt is = grind (arith, nat_tests)

-- ---- the files with the blocks of their runs

first_in_runs : (runs : List Run) (items : List PlacedFile) → length runs ≡ length items → first_sealed_of (in_runs runs items) ≡ first_sealed_of items
first_in_runs [] [] same = refl
first_in_runs [] (f ∷ fs) same = absurd (omega (arith, same))
first_in_runs (r ∷ rs) [] same = refl
first_in_runs (r ∷ rs) (f ∷ fs) same = by (is_sealed_file f) refl (first_in_runs rs fs (omega (arith, same)))
  where
    by : (b : Bool) → is_sealed_file f ≡ b → first_sealed_of (in_runs rs fs) ≡ first_sealed_of fs → first_sealed_of (with_run r f ∷ in_runs rs fs) ≡ first_sealed_of (f ∷ fs)
    by true is rest = rw is refl
    by false is rest = rw is rest

drop_in_runs : (runs : List Run) (items : List PlacedFile) (place : ℕ) → length runs ≡ length items → first_sealed_of (drop place (in_runs runs items)) ≡ first_sealed_of (drop place items)
drop_in_runs runs items zero same = first_in_runs runs items same
drop_in_runs [] [] (suc place) same = refl
drop_in_runs [] (f ∷ fs) (suc place) same = absurd (omega (arith, same))
drop_in_runs (r ∷ rs) [] (suc place) same = refl
drop_in_runs (r ∷ rs) (f ∷ fs) (suc place) same = drop_in_runs rs fs place (omega (arith, same))

-- what a search for the first of them says
pub next_at : (next blocks above place : ℕ) (runs : List Run) (items : List PlacedFile) → length runs ≡ length items → Rise 1 (entries_of (in_runs runs items)) next → place ≤ length items
    → IsPartitionPoint (λ f. nat_le f.entry.number above ≡ true) (λ f. nat_le f.entry.number above ≡ false) items place
    → IsNextSealed (placed_from (entries_of (in_runs runs items)) next blocks) above (first_sealed_of (drop place items))
next_at next blocks above place runs items same are inside parts =
    subst (λ (o : Option ℕ). IsNextSealed (placed_from (entries_of (in_runs runs items)) next blocks) above o) (drop_in_runs runs items place same)
    (next_is 1 next blocks above place (in_runs runs items) are (omega (arith, inside, length_in_runs runs items same))
    (λ k d h. subst (λ (n : ℕ). n ≤ above) (sym (number_is k d (omega (arith, h, inside)))) (at_most (number_at items k d) (parts.0 k d (omega arith) h)))
    (λ k d h i. let inner : k < length items = omega (arith, i, length_in_runs runs items same) in subst (λ (n : ℕ). above < n) (sym (number_is k d inner)) (more (number_at items k d) (parts.1 k d h inner))))
  where
    number_is : (k : ℕ) (d : PlacedFile) → k < length items → number_at (in_runs runs items) k d ≡ number_at items k d
    number_is k d lt = ap (λ (f : PlacedFile). f.entry.number) (in_runs_at runs items k (new_run 0) d same lt)

    at_most : (n : ℕ) → nat_le n above ≡ true → n ≤ above
    at_most n is = grind (arith, nat_tests)

    more : (n : ℕ) → nat_le n above ≡ false → above < n
    more n is = grind (arith, nat_tests)
