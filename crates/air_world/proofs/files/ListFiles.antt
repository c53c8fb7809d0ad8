-- The numbers of a caller's list are those of complete files: of what it selects, and of what is left of it.
use Rattle.std.proofs.Common.{◌≡◌, ℕ, ◌+◌, ◌≤◌, ◌<◌, List, [], ◌∷◌, ◌++◌, length, map, drop, refl, ◌∙◌, not, cond, Bool}
use Rattle.std.proofs.Common.{true, false, None, Some, arith}
use Rattle.air_world.proofs.files.Names.{filter, find, nat_tests, All-append, All-cons, All-drop, All-filter, All-map, All-nil, All-weaker, CallSign, Tree, IsCompleteIn, is_complete, AreEntries, IsStore, Entry, Store, entry_of, has_number, AreComplete, AreFiles, chosen, is_chosen, CallerList, after_taking, is_of, lists_of_others, selected, shortened}

-- ---- lists

abbrev IsOfFiles : Store → CallerList → Type 0
IsOfFiles store list = AreFiles store list.numbers

shortened-files : (store : Store) (caller : CallSign) (count : ℕ) (list : CallerList) → IsOfFiles store list
    → IsOfFiles store (shortened caller count list)
shortened-files store caller count list of = by (is_of caller list)
  where
    by : (b : Bool) → IsOfFiles store (cond b (record list { numbers = drop count list.numbers }) list)
    by true = All-drop (IsCompleteIn store) count list.numbers of
    by false = of

pub taking-files : (store : Store) (lists : List CallerList) (caller : CallSign) (count : ℕ) → AreComplete store lists
    → AreComplete store (after_taking lists caller count)
taking-files store lists caller count are =
    All-map (IsOfFiles store) (shortened caller count) lists
    (All-weaker (IsOfFiles store) _ (shortened-files store caller count) lists are)

pub selected-files : (store : Store) (lists : List CallerList) (caller : CallSign) (numbers : List ℕ)
    → AreComplete store lists → AreFiles store numbers → AreComplete store (selected lists caller numbers)
selected-files store lists caller numbers are new =
    let own : CallerList = record { caller = caller; numbers = numbers } in
    All-drop (IsOfFiles store) _ (lists_of_others lists caller ++ own ∷ [])
    (All-append (IsOfFiles store) (lists_of_others lists caller) (own ∷ [])
    (All-filter (λ list. not (is_of caller list)) (IsOfFiles store) lists are)
    (All-cons (IsOfFiles store) own [] new (All-nil _)))

-- ---- the files that a selection matches

-- An entry among these, whose numbers rise, is found by its number.
found-at : (low next : ℕ) (entries : List Entry) (number : ℕ) → AreEntries low entries next → number < low
    → find (has_number number) entries ≡ None
found-at low next [] number are lt = refl
found-at low next (x ∷ xs) number are lt =
    let other : has_number number x ≡ false = grind (arith, nat_tests) in
    rw other (found-at (x.number + 1) next xs number are.4 (omega (arith, are.0, lt)))

module _ (store : Store) (tree : Tree) where
  -- the last entries are found after the first
  abbrev Behind : ℕ → List Entry → Type 0
  Behind low entries = (number : ℕ) → low ≤ number → entry_of store number ≡ find (has_number number) entries

  chosen-among : (low next : ℕ) (entries : List Entry) → AreEntries low entries next → Behind low entries
      → AreFiles store (chosen tree entries)
  chosen-among low next [] are behind = All-nil _
  chosen-among low next (x ∷ xs) are behind =
      let here : has_number x.number x ≡ true = grind (arith, nat_tests) in
      let found : entry_of store x.number ≡ Some x = behind x.number are.0 ∙ rw here refl in
      by found
      (chosen-among (x.number + 1) next xs are.4
      (λ number above.
      let other : has_number number x ≡ false = grind (arith, nat_tests) in
      let later : find (has_number number) (x ∷ xs) ≡ find (has_number number) xs = rw other refl in
      behind number (omega (arith, are.0, above)) ∙ later))
      (is_complete x.holding) refl (is_chosen tree x) refl
    where
      by : entry_of store x.number ≡ Some x → AreFiles store (chosen tree xs) → (done : Bool)
          → is_complete x.holding ≡ done → (b : Bool) → is_chosen tree x ≡ b
          → AreFiles store (map (λ (e : Entry). e.number)
          (cond b (x ∷ filter (is_chosen tree) xs) (filter (is_chosen tree) xs)))
      by found rest done d false b = rest
      by found rest true d true b = All-cons (IsCompleteIn store) x.number (chosen tree xs) (x, found, d) rest
      by found rest false d true b = absurd (let no : is_chosen tree x ≡ false = rw d refl in cc)

  pub chosen-files : IsStore store → AreFiles store (chosen tree store.entries)
  chosen-files rules = chosen-among 1 store.next store.entries rules.entries (λ number above. refl)

  -- there are no more than entries
  pub chosen-few : (entries : List Entry) → length (chosen tree entries) ≤ length entries
  chosen-few [] = omega arith
  chosen-few (x ∷ xs) = by (chosen-few xs) (is_chosen tree x)
    where
      by : length (chosen tree xs) ≤ length xs → (b : Bool)
          → length (map (λ (e : Entry). e.number) (cond b (x ∷ filter (is_chosen tree) xs)
          (filter (is_chosen tree) xs))) ≤ length (x ∷ xs)
      by few true = omega (arith, few)
      by few false = omega (arith, few)
