-- Lemmas on lists of files: an entry, and with it what came of an upload of it.
use Rattle.std.proofs.Common.{◌≡◌, ◌≢◌, ℕ, zero, suc, ◌+◌, ◌≤◌, ◌<◌, Bool, true, false, not, List, [], ◌∷◌, ◌++◌, length, get_or, set, map, filter, refl, ap, sym, ◌∙◌, subst, arith, inl, inr, None, Some, ◌==◌}
use Rattle.std.proofs.lemmas.List.Folds.{find-append}
use Rattle.file_store_blocks.proofs.Names.{find, slice_get, remove, option_map, nat_tests, eqb_tells, changed_past, Rise, Placed, has_number, changed, PlacedFile, entries_of, file_of}

-- whether the file has this number
abbrev pub is_of : ℕ → PlacedFile → Bool
is_of number f = f.entry.number == number

-- the entry of a number is that of the file
pub find_entries : (number : ℕ) (files : List PlacedFile) → find (has_number number) (entries_of files) ≡ option_map (λ f. f.entry) (file_of files number)
find_entries number [] = refl
find_entries number (x ∷ xs) =
    elim (eqb_tells x.entry.number number) [
      | inl w ↦ rw w.0 refl
      | inr w ↦ rw w.0 (find_entries number xs)
    ]

-- what is at a place
pub at_place : (files : List PlacedFile) (place : ℕ) (file : PlacedFile) → slice_get files place ≡ Some file → (place < length files) × ((d : PlacedFile) → get_or files place d ≡ file)
at_place [] place file h = absurd (cc)
at_place (x ∷ xs) zero file h = (omega arith, λ d. cc)
at_place (x ∷ xs) (suc place) file h = let rest = at_place xs place file h in (omega (arith, rest.0), rest.1)

-- ---- the numbers rise

number_low : (low next : ℕ) (files : List PlacedFile) (place : ℕ) (d : PlacedFile) → Rise low (entries_of files) next → place < length files → low ≤ (get_or files place d).entry.number
number_low low next [] place d are h = absurd (omega (arith, h))
number_low low next (x ∷ xs) zero d are h = are.0
number_low low next (x ∷ xs) (suc place) d are h =
    let rest = number_low (x.entry.number + 1) next xs place d are.2 (omega (arith, h)) in omega (arith, rest, are.0)

pub rises : (low next : ℕ) (files : List PlacedFile) (i j : ℕ) (d : PlacedFile) → Rise low (entries_of files) next → i < j → j < length files
    → (get_or files i d).entry.number < (get_or files j d).entry.number
rises low next [] i j d are lt h = absurd (omega (arith, h))
rises low next (x ∷ xs) i zero d are lt h = absurd (omega (arith, lt))
rises low next (x ∷ xs) zero (suc j) d are lt h =
    let rest = number_low (x.entry.number + 1) next xs j d are.2 (omega (arith, h)) in omega (arith, rest)
rises low next (x ∷ xs) (suc i) (suc j) d are lt h =
    rises (x.entry.number + 1) next xs i j d are.2 (omega (arith, lt)) (omega (arith, h))

-- the number of a file at a place further on
low_at : (low next : ℕ) (files : List PlacedFile) (place : ℕ) (file : PlacedFile) → Rise low (entries_of files) next → slice_get files place ≡ Some file → low ≤ file.entry.number
low_at low next files place file are h =
    let w = at_place files place file h in
    subst (λ (f : PlacedFile). low ≤ f.entry.number) (w.1 file) (number_low low next files place file are w.0)

differs : (number : ℕ) (x : PlacedFile) → (x.entry.number ≡ number → ⊥) → is_of number x ≡ false
differs number x h = grind (arith, nat_tests)

has : (number : ℕ) (x : PlacedFile) → x.entry.number ≡ number → is_of number x ≡ true
has number x h = grind (arith, nat_tests)

-- a file is found by the number of what is at its place
pub found_at : (low next : ℕ) (files : List PlacedFile) (number place : ℕ) (file : PlacedFile) → Rise low (entries_of files) next → slice_get files place ≡ Some file
    → file.entry.number ≡ number → file_of files number ≡ Some file
found_at low next [] number place file are h same = absurd (cc)
found_at low next (x ∷ xs) number zero file are h same = let here : x ≡ file = cc in rw (has number x (ap (λ (f : PlacedFile). f.entry.number) here ∙ same)) (ap Some here)
found_at low next (x ∷ xs) number (suc place) file are h same =
    let above = low_at (x.entry.number + 1) next xs place file are.2 h in
    rw (differs number x (λ e. omega (arith, e, above, same))) (found_at (x.entry.number + 1) next xs number place file are.2 h same)

-- no file of a number that is at no place
pub found_none : (files : List PlacedFile) (number : ℕ) → ((k : ℕ) (d : PlacedFile) → k < length files → (get_or files k d).entry.number ≡ number → ⊥) → file_of files number ≡ None
found_none [] number none = refl
found_none (x ∷ xs) number none =
    rw (differs number x (none 0 x (omega arith))) (found_none xs number (λ k d h. none (suc k) d (omega (arith, h))))

-- ---- one file in place of another of its number

pub set_here : (low next : ℕ) (files : List PlacedFile) (number place : ℕ) (file y : PlacedFile) → Rise low (entries_of files) next → slice_get files place ≡ Some file
    → file.entry.number ≡ number → y.entry.number ≡ number → file_of (set files place y) number ≡ Some y
set_here low next [] number place file y are h same new = absurd (cc)
set_here low next (x ∷ xs) number zero file y are h same new = rw (has number y new) refl
set_here low next (x ∷ xs) number (suc place) file y are h same new =
    let above = low_at (x.entry.number + 1) next xs place file are.2 h in
    rw (differs number x (λ e. omega (arith, e, above, same))) (set_here (x.entry.number + 1) next xs number place file y are.2 h same new)

pub set_other : (files : List PlacedFile) (number other place : ℕ) (file y : PlacedFile) → slice_get files place ≡ Some file → file.entry.number ≡ number
    → y.entry.number ≡ number → other ≢ number → file_of (set files place y) other ≡ file_of files other
set_other [] number other place file y h same new ne = absurd (cc)
set_other (x ∷ xs) number other zero file y h same new ne =
    let here : x ≡ file = cc in
    let old : is_of other x ≡ false = differs other x (λ e. ne (sym e ∙ ap (λ (f : PlacedFile). f.entry.number) here ∙ same)) in
    let now : is_of other y ≡ false = differs other y (λ e. ne (sym e ∙ new)) in
    rw (old, now) refl
set_other (x ∷ xs) number other (suc place) file y h same new ne = grind (arith, nat_tests, set_other xs number other place file y h)

-- one with the same entry
pub set_entries_same : (files : List PlacedFile) (place : ℕ) (file y : PlacedFile) → slice_get files place ≡ Some file → y.entry ≡ file.entry → entries_of (set files place y) ≡ entries_of files
set_entries_same [] place file y h same = absurd (cc)
set_entries_same (x ∷ xs) zero file y h same = cc
set_entries_same (x ∷ xs) (suc place) file y h same = ap (λ (es : List Placed). x.entry ∷ es) (set_entries_same xs place file y h same)

-- one whose entry is changed
pub set_entries_changed : (low next : ℕ) (files : List PlacedFile) (number place : ℕ) (file y : PlacedFile) (change : Placed → Placed) → Rise low (entries_of files) next
    → slice_get files place ≡ Some file → file.entry.number ≡ number → y.entry ≡ change file.entry
    → entries_of (set files place y) ≡ map (changed number change) (entries_of files)
set_entries_changed low next [] number place file y change are h same new = absurd (cc)
set_entries_changed low next (x ∷ xs) number zero file y change are h same new =
    let here : x ≡ file = cc in
    let is : is_of number x ≡ true = has number x (ap (λ (f : PlacedFile). f.entry.number) here ∙ same) in
    let rest = changed_past number change (x.entry.number + 1) next (entries_of xs) are.2 (omega (arith, ap (λ (f : PlacedFile). f.entry.number) here, same)) in
    rw (is, rest) (ap (λ (e : Placed). e ∷ entries_of xs) (new ∙ ap (λ (f : PlacedFile). change f.entry) (sym here)))
set_entries_changed low next (x ∷ xs) number (suc place) file y change are h same new =
    let above = low_at (x.entry.number + 1) next xs place file are.2 h in
    let other : is_of number x ≡ false = differs number x (λ e. omega (arith, e, above, same)) in
    rw other (ap (λ (es : List Placed). x.entry ∷ es) (set_entries_changed (x.entry.number + 1) next xs number place file y change are.2 h same new))

-- ---- without one file

filter_past : (number low next : ℕ) (entries : List Placed) → Rise low entries next → number < low → filter (λ e. not (has_number number e)) entries ≡ entries
filter_past number low next [] are past = refl
filter_past number low next (x ∷ xs) are past = grind (arith, nat_tests, filter_past number (x.number + 1) next xs are.2)

pub remove_entries : (low next : ℕ) (files : List PlacedFile) (number place : ℕ) (file : PlacedFile) → Rise low (entries_of files) next → slice_get files place ≡ Some file
    → file.entry.number ≡ number → entries_of (remove files place) ≡ filter (λ e. not (has_number number e)) (entries_of files)
remove_entries low next [] number place file are h same = absurd (cc)
remove_entries low next (x ∷ xs) number zero file are h same =
    let here : x ≡ file = cc in
    let is : is_of number x ≡ true = has number x (ap (λ (f : PlacedFile). f.entry.number) here ∙ same) in
    let rest = filter_past number (x.entry.number + 1) next (entries_of xs) are.2 (omega (arith, ap (λ (f : PlacedFile). f.entry.number) here, same)) in
    rw (is, rest) refl
remove_entries low next (x ∷ xs) number (suc place) file are h same =
    let above = low_at (x.entry.number + 1) next xs place file are.2 h in
    let other : is_of number x ≡ false = differs number x (λ e. omega (arith, e, above, same)) in
    rw other (ap (λ (es : List Placed). x.entry ∷ es) (remove_entries (x.entry.number + 1) next xs number place file are.2 h same))

-- no file has a number that is below all
file_past : (number low next : ℕ) (files : List PlacedFile) → Rise low (entries_of files) next → number < low → file_of files number ≡ None
file_past number low next [] are past = refl
file_past number low next (x ∷ xs) are past = grind (arith, nat_tests, file_past number (x.entry.number + 1) next xs are.2)

pub remove_here : (low next : ℕ) (files : List PlacedFile) (number place : ℕ) (file : PlacedFile) → Rise low (entries_of files) next → slice_get files place ≡ Some file
    → file.entry.number ≡ number → file_of (remove files place) number ≡ None
remove_here low next [] number place file are h same = absurd (cc)
remove_here low next (x ∷ xs) number zero file are h same =
    let here : x ≡ file = cc in
    file_past number (x.entry.number + 1) next xs are.2 (omega (arith, ap (λ (f : PlacedFile). f.entry.number) here, same))
remove_here low next (x ∷ xs) number (suc place) file are h same =
    let above = low_at (x.entry.number + 1) next xs place file are.2 h in
    rw (differs number x (λ e. omega (arith, e, above, same))) (remove_here (x.entry.number + 1) next xs number place file are.2 h same)

pub remove_other : (files : List PlacedFile) (number other place : ℕ) (file : PlacedFile) → slice_get files place ≡ Some file → file.entry.number ≡ number → other ≢ number
    → file_of (remove files place) other ≡ file_of files other
remove_other [] number other place file h same ne = absurd (cc)
remove_other (x ∷ xs) number other zero file h same ne =
    let here : x ≡ file = cc in
    rw (differs other x (λ e. ne (sym e ∙ ap (λ (f : PlacedFile). f.entry.number) here ∙ same))) refl
remove_other (x ∷ xs) number other (suc place) file h same ne = grind (arith, nat_tests, remove_other xs number other place file h)

-- ---- one more file, at the end

pub entries_push : (files : List PlacedFile) (y : PlacedFile) → entries_of (files ++ y ∷ []) ≡ entries_of files ++ y.entry ∷ []
entries_push [] y = refl
entries_push (x ∷ xs) y = ap (λ (es : List Placed). x.entry ∷ es) (entries_push xs y)

pub push_here : (files : List PlacedFile) (number : ℕ) (y : PlacedFile) → file_of files number ≡ None → y.entry.number ≡ number → file_of (files ++ y ∷ []) number ≡ Some y
push_here files number y none new = rw (find-append (is_of number) files (y ∷ []), none, has number y new) refl

pub push_other : (files : List PlacedFile) (number other : ℕ) (y : PlacedFile) → y.entry.number ≡ number → other ≢ number → file_of (files ++ y ∷ []) other ≡ file_of files other
push_other [] number other y new ne = rw (differs other y (λ k. ne (sym k ∙ new))) refl
push_other (x ∷ xs) number other y new ne = grind (arith, nat_tests, push_other xs number other y new ne)

-- no file has a number from the next one on
pub file_next : (number low next : ℕ) (files : List PlacedFile) → Rise low (entries_of files) next → next ≤ number → file_of files number ≡ None
file_next number low next [] are past = refl
file_next number low next (x ∷ xs) are past = grind (arith, nat_tests, file_next number (x.entry.number + 1) next xs are.2 past)
