-- What a search by halving finds among files whose numbers rise.
use Rattle.std.proofs.Common.{◌≡◌, ℕ, ◌≤◌, ◌<◌, List, [], ◌∷◌, length, get_or, sym, subst, arith, None, Result, Ok, Err, Equal, inl, inr}
use Rattle.std.proofs.lemmas.Cmp.{ranked}
use Rattle.file_store_blocks.proofs.Names.{IfNone, IfSome, IsBinarySearchResult, IsNonDecreasingBy, IsSearchInRange, nat_cmp, ordering_index, result_ok, cases_lt, nat_tests, slice_get-get_or, Rise, IsPlace, PlacedFile, entries_of, file_of}
use Rattle.file_store_blocks.proofs.PlacesLemmas.{found_none, rises}

-- the number of the file at a place
abbrev number_at : List PlacedFile → ℕ → PlacedFile → ℕ
number_at files place d = (get_or files place d).entry.number

module _ (low next : ℕ) (files : List PlacedFile) (are : Rise low (entries_of files) next) (number : ℕ) where
  -- the comparisons with a number rise along the files
  comparisons_rise : IsNonDecreasingBy (λ f. ordering_index (nat_cmp f.entry.number number)) files
  comparisons_rise i j d le inside = elim (cases_lt i j) [
    | inl lt ↦
        let above : number_at files i d < number_at files j d = rises low next files i j d are lt inside in
        ranks (number_at files i d) (number_at files j d) above
    | inr past ↦
        let same : i ≡ j = omega arith in
        subst (λ (k : ℕ). ordering_index (nat_cmp (number_at files i d) number) ≤ ordering_index (nat_cmp (number_at files k d) number)) same (omega arith)
  ]
    where
      ranks : (a b : ℕ) → a < b → ordering_index (nat_cmp a number) ≤ ordering_index (nat_cmp b number)
      ranks a b lt = grind (arith, nat_tests)

  -- a search by number ends at the place of the file, or there is none
  pub searched : (r : Result ℕ ℕ) → IsSearchInRange r (length files) → IsBinarySearchResult (λ f. nat_cmp f.entry.number number) files r
      → IfSome (result_ok r) (IsPlace files number) × IfNone (result_ok r) (file_of files number ≡ None)
  searched (Ok at) inside equal = (place_found files at inside equal, tt)
    where
      place_found : (fs : List PlacedFile) (k : ℕ) → k < length fs → ((d : PlacedFile) → nat_cmp (get_or fs k d).entry.number number ≡ Equal) → IsPlace fs number k
      place_found [] k h is = absurd (omega (arith, h))
      place_found (x ∷ xs) k h is = record {
        file = get_or (x ∷ xs) k x;
        there = slice_get-get_or (x ∷ xs) k x h;
        same = ranked _ number _ (sym (is x));
      }
  searched (Err at) inside parted =
      let parts = parted comparisons_rise in (
        tt,
        found_none files number (λ k d h same. elim (cases_lt k at) [
          | inl before ↦ let below : number_at files k d < number = ranked _ number _ (sym (parts.0 k d (omega arith) before)) in omega (arith, below, same)
          | inr behind ↦ let above : number < number_at files k d = ranked _ number _ (sym (parts.1 k d behind h)) in omega (arith, above, same)
        ]),
      )
