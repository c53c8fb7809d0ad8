-- Lemmas on lists of entries.
use Rattle.std.proofs.Common.{◌≡◌, ◌≢◌, ℕ, ◌+◌, ◌≤◌, ◌<◌, Bool, not, List, [], ◌∷◌, ◌++◌, map, filter, refl, sym, subst, arith, None, Some, ◌==◌}
use Rattle.file_store_model.proofs.Names.{find, sum_by, nat_tests, sum_by-cons, CallSign, IsCall, longest_file, Entry, Holding, blocks_for, AreEntries, FitsLength, HaveCallers, changed}

-- whether an entry has this number
abbrev pub has_number : ℕ → Entry → Bool
has_number number e = e.number == number

-- no entry from a larger number on has this number
pub map-changed_past : (number : ℕ) (change : Entry → Holding) (low next : ℕ) (entries : List Entry) → AreEntries low entries next → number < low → map (changed number change) entries ≡ entries
map-changed_past number change low next [] are past = refl
map-changed_past number change low next (e ∷ es) are past = grind (arith, nat_tests, map-changed_past number change (e.number + 1) next es are.4)

-- the entry found has the number
pub found-number : (number : ℕ) (entries : List Entry) (e : Entry) → find (has_number number) entries ≡ Some e → e.number ≡ number
found-number number [] e found = absurd (cc)
found-number number (x ∷ xs) e found = grind (arith, nat_tests, found-number number xs e)

-- the entry of a number after a change of that number
pub find-map-changed : (number : ℕ) (change : Entry → Holding) (entries : List Entry) (e : Entry) → find (has_number number) entries ≡ Some e
    → find (has_number number) (map (changed number change) entries) ≡ Some (record e { holding = change e })
find-map-changed number change [] e found = absurd (cc)
find-map-changed number change (x ∷ xs) e found = grind (arith, nat_tests, find-map-changed number change xs e)

-- the entry of another number after a change of a number
pub find-map-changed_other : (number other : ℕ) (change : Entry → Holding) (entries : List Entry) → other ≢ number
    → find (has_number other) (map (changed number change) entries) ≡ find (has_number other) entries
find-map-changed_other number other change [] ne = refl
find-map-changed_other number other change (x ∷ xs) ne = grind (arith, nat_tests, find-map-changed_other number other change xs ne)

-- the entry of another number after one is dropped
pub find-filter_other : (number other : ℕ) (entries : List Entry) → other ≢ number
    → find (has_number other) (filter (λ e. not (e.number == number)) entries) ≡ find (has_number other) entries
find-filter_other number other [] ne = refl
find-filter_other number other (x ∷ xs) ne = grind (arith, nat_tests, find-filter_other number other xs ne)

-- no entry has a number that comes after all
pub find_past : (number low next : ℕ) (entries : List Entry) → AreEntries low entries next → next ≤ number → find (has_number number) entries ≡ None
find_past number low next [] are past = refl
find_past number low next (x ∷ xs) are past = grind (arith, nat_tests, find_past number (x.number + 1) next xs are.4 past)

-- what is true of an entry that is found
pub found-fits : (number low next : ℕ) (entries : List Entry) (e : Entry) → AreEntries low entries next → find (has_number number) entries ≡ Some e
    → FitsLength e.holding e.length × (e.length ≤ longest_file) × (number < next)
found-fits number low next [] e are found = absurd (cc)
found-fits number low next (x ∷ xs) e are found = grind (arith, nat_tests, found-fits number (x.number + 1) next xs e are.4)

-- a smaller bound below
pub AreEntries-lower : (low lower next : ℕ) (entries : List Entry) → lower ≤ low → AreEntries low entries next → AreEntries lower entries next
AreEntries-lower low lower next [] le are = tt
AreEntries-lower low lower next (x ∷ xs) le are = (omega (arith, are.0), are.1, are.2, are.3, are.4)

-- one more entry at the end, of the next number
pub AreEntries-push : (low next : ℕ) (entries : List Entry) (e : Entry) → AreEntries low entries next → low ≤ next → e.number ≡ next → FitsLength e.holding e.length → e.length ≤ longest_file
    → AreEntries low (entries ++ e ∷ []) (next + 1)
AreEntries-push low next [] e are le same fits small = (omega arith, omega arith, fits, small, tt)
AreEntries-push low next (x ∷ xs) e are le same fits small =
    (are.0, omega (arith, are.1), are.2, are.3, AreEntries-push (x.number + 1) next xs e are.4 (omega (arith, are.1)) same fits small)

-- one entry changed
pub AreEntries-map-changed : (number : ℕ) (change : Entry → Holding) (low next : ℕ) (entries : List Entry) (e : Entry) → AreEntries low entries next
    → find (has_number number) entries ≡ Some e → FitsLength (change e) e.length → AreEntries low (map (changed number change) entries) next
AreEntries-map-changed number change low next [] e are found fits = absurd (cc)
AreEntries-map-changed number change low next (x ∷ xs) e are found fits = grind (arith, nat_tests, map-changed_past number change (x.number + 1) next xs are.4, AreEntries-map-changed number change (x.number + 1) next xs e are.4)

-- some entries taken out
pub AreEntries-filter : (test : Entry → Bool) (low next : ℕ) (entries : List Entry) → AreEntries low entries next → AreEntries low (filter test entries) next
AreEntries-filter test low next [] are = tt
AreEntries-filter test low next (x ∷ xs) are = grind (arith, nat_tests, AreEntries-lower (x.number + 1) low next (filter test xs), AreEntries-filter test (x.number + 1) next xs are.4)

-- a change takes no more and no fewer blocks
pub blocks-map-changed : (number : ℕ) (change : Entry → Holding) (entries : List Entry)
    → sum_by (λ (e : Entry). blocks_for e.length) (map (changed number change) entries) ≡ sum_by (λ (e : Entry). blocks_for e.length) entries
blocks-map-changed number change [] = refl
blocks-map-changed number change (x ∷ xs) =
    let f : Entry → ℕ = λ e. blocks_for e.length in
    grind (arith, nat_tests, sum_by-cons f (changed number change x) (map (changed number change) xs), sum_by-cons f x xs, blocks-map-changed number change xs)

-- ---- callers

-- a change keeps the caller
caller-changed : (number : ℕ) (change : Entry → Holding) (e : Entry) → (changed number change e).caller ≡ e.caller
caller-changed number change e = grind (arith, nat_tests)

pub HaveCallers-push : (entries : List Entry) (e : Entry) → HaveCallers entries → IsCall e.caller → HaveCallers (entries ++ e ∷ [])
HaveCallers-push [] e have is = (is, tt)
HaveCallers-push (x ∷ xs) e have is = (have.0, HaveCallers-push xs e have.1 is)

pub HaveCallers-map-changed : (number : ℕ) (change : Entry → Holding) (entries : List Entry) → HaveCallers entries → HaveCallers (map (changed number change) entries)
HaveCallers-map-changed number change [] have = tt
HaveCallers-map-changed number change (x ∷ xs) have =
    (subst (λ (c : CallSign). IsCall c) (sym (caller-changed number change x)) have.0, HaveCallers-map-changed number change xs have.1)

pub HaveCallers-filter : (test : Entry → Bool) (entries : List Entry) → HaveCallers entries → HaveCallers (filter test entries)
HaveCallers-filter test [] have = tt
HaveCallers-filter test (x ∷ xs) have = grind (arith, nat_tests, HaveCallers-filter test xs have.1)

-- the caller of an entry that is found
pub found-caller : (number : ℕ) (entries : List Entry) (e : Entry) → HaveCallers entries → find (has_number number) entries ≡ Some e → IsCall e.caller
found-caller number [] e have found = absurd (cc)
found-caller number (x ∷ xs) e have found = grind (arith, nat_tests, found-caller number xs e have.1)
