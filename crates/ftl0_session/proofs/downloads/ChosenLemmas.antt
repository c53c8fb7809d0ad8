-- The complete files that match a selection, one after another in rising number.
use Rattle.std.proofs.Common.{◌≡◌, ℕ, ◌+◌, ◌≤◌, ◌<◌, List, [], ◌∷◌, ◌++◌, length, map, Bool, true, false, cond, Option, None, Some, refl, sym, ap, ◌∙◌, arith, inl, inr, append_assoc}
use Rattle.ftl0_session.proofs.Names.{find, filter, nat_lt, AllByRecursion, eqb_tells, nat_tests, cases_lt, append-nil, Tree, holds, header_items, IsCompleteIn, IsNextComplete, is_complete, AreEntries, IsStore, Entry, Store, entry_of, octets_at, found-fits, found-number, has_number, chosen, is_chosen, octets_in}

-- the entries with a number above this one
abbrev pub above_of : ℕ → List Entry → List Entry
above_of above entries = filter (λ (entry : Entry). nat_lt above entry.number) entries

-- ---- entries are found by their numbers

-- no entry has a number below those of all
below-none : (number low next : ℕ) (entries : List Entry) → AreEntries low entries next → number < low → find (has_number number) entries ≡ None
below-none number low next [] are lt = refl
below-none number low next (x ∷ xs) are lt =
    let different : has_number number x ≡ false = grind (arith, nat_tests) in
    rw different (below-none number (x.number + 1) next xs are.4 (omega (arith, are.0, lt)))

-- these entries, each after some, are found
abbrev AreFound : Store → List Entry → Type 0
AreFound store entries = AllByRecursion (λ (e : Entry). entry_of store e.number ≡ Some e) entries

module _ (all : List Entry) where
  -- what is found among the last ones is found among all
  abbrev Behind : ℕ → List Entry → Type 0
  Behind low entries = (number : ℕ) → low ≤ number → find (has_number number) all ≡ find (has_number number) entries

  found-all : (low next : ℕ) (entries : List Entry) → AreEntries low entries next → Behind low entries → AllByRecursion (λ (e : Entry). find (has_number e.number) all ≡ Some e) entries
  found-all low next [] are behind = tt
  found-all low next (x ∷ xs) are behind =
      let here : has_number x.number x ≡ true = grind (arith, nat_tests) in
      let found : find (has_number x.number) (x ∷ xs) ≡ Some x = rw here refl in (
        behind x.number are.0 ∙ found,
        found-all (x.number + 1) next xs are.4
            (λ number above.
            let different : has_number number x ≡ false = grind (arith, nat_tests) in
            let later : find (has_number number) (x ∷ xs) ≡ find (has_number number) xs = rw different refl in
            behind number (omega (arith, are.0, above)) ∙ later),
      )

pub are-found : (store : Store) → IsStore store → AreFound store store.entries
are-found store rules = found-all store.entries 1 store.next store.entries rules.entries (λ number above. refl)

-- ---- all of them are above 0

pub above-all : (above low next : ℕ) (entries : List Entry) → AreEntries low entries next → above < low → above_of above entries ≡ entries
above-all above low next [] are lt = refl
above-all above low next (x ∷ xs) are lt =
    let passes : nat_lt above x.number ≡ true = grind (arith, nat_tests) in
    rw passes (ap (λ (l : List Entry). x ∷ l) (above-all above (x.number + 1) next xs are.4 (omega (arith, are.0, lt))))

-- ---- the next one

-- no complete one of these entries is between
abbrev AreBeyond : ℕ → ℕ → List Entry → Type 0
AreBeyond above next entries = AllByRecursion (λ (e : Entry). is_complete e.holding ≡ true → above < e.number → next ≤ e.number) entries

beyond : (store : Store) (above next : ℕ) (entries : List Entry) → AreFound store entries → ((number : ℕ) → above < number → IsCompleteIn store number → next ≤ number) → AreBeyond above next entries
beyond store above next [] found least = tt
beyond store above next (x ∷ xs) found least =
    (λ whole past. least x.number past (x, found.0, whole), beyond store above next xs found.1 least)

-- one that isn't complete isn't chosen
passed : (tree : Tree) (x : Entry) → is_complete x.holding ≡ false → is_chosen tree x ≡ false
passed tree x is = rw is refl

-- the number of the entry, if it is chosen
abbrev pub if_chosen : Tree → Entry → List ℕ
if_chosen tree entry = cond (is_chosen tree entry) (entry.number ∷ []) []

abbrev filtered : Tree → Entry → List Entry → List ℕ
filtered tree x rest = map (λ (e : Entry). e.number) (cond (is_chosen tree x) (x ∷ filter (is_chosen tree) rest) (filter (is_chosen tree) rest))

filtered-is : (tree : Tree) (x : Entry) (rest : List Entry) → filtered tree x rest ≡ if_chosen tree x ++ chosen tree rest
filtered-is tree x rest = by (is_chosen tree x)
  where
    by : (b : Bool) → map (λ (e : Entry). e.number) (cond b (x ∷ filter (is_chosen tree) rest) (filter (is_chosen tree) rest)) ≡ cond b (x.number ∷ []) [] ++ chosen tree rest
    by true = refl
    by false = refl

-- an entry before the next complete one gives no number
skipped : (tree : Tree) (above : ℕ) (x : Entry) (rest : List Entry) → (is_complete x.holding ≡ true → above < x.number → ⊥) → chosen tree (above_of above (x ∷ rest)) ≡ chosen tree (above_of above rest)
skipped tree above x rest never = by (nat_lt above x.number) refl (is_complete x.holding) refl
  where
    by : (past : Bool) → nat_lt above x.number ≡ past → (done : Bool) → is_complete x.holding ≡ done → chosen tree (above_of above (x ∷ rest)) ≡ chosen tree (above_of above rest)
    by false p done d = rw p refl
    by true p false d = rw p (filtered-is tree x (above_of above rest) ∙ rw (passed tree x d) refl)
    by true p true d = absurd (never d (grind (arith, nat_tests, p)))

chosen-more : (tree : Tree) (above next low end : ℕ) (entries : List Entry) (entry : Entry) → AreEntries low entries end → AreBeyond above next entries → above < next
    → find (has_number next) entries ≡ Some entry → chosen tree (above_of above entries) ≡ if_chosen tree entry ++ chosen tree (above_of next entries)
chosen-more tree above next low end [] entry are least lt found = absurd (cc)
chosen-more tree above next low end (x ∷ xs) entry are least lt found =
    elim (eqb_tells x.number next) [
      | inl w ↦
          let same : x ≡ entry = let f = rw w.0 at found in cc in
          let past : nat_lt above x.number ≡ true = grind (arith, nat_tests, w.1, lt) in
          let not_past : nat_lt next x.number ≡ false = grind (arith, nat_tests, w.1) in
          let rest_above : above_of above xs ≡ xs = above-all above (x.number + 1) end xs are.4 (omega (arith, lt, w.1)) in
          let rest_next : above_of next xs ≡ xs = above-all next (x.number + 1) end xs are.4 (omega (arith, w.1)) in
          rw past (filtered-is tree x (above_of above xs)
          ∙ ap (λ (l : List Entry). if_chosen tree x ++ chosen tree l) (rest_above ∙ sym rest_next)
          ∙ ap (λ (e : Entry). if_chosen tree e ++ chosen tree (above_of next xs)) same
          ∙ sym (rw not_past refl))
      | inr w ↦
          let later : find (has_number next) xs ≡ Some entry = rw w.0 at found in
          let before : x.number < next = elim (cases_lt x.number next) [
            | inl lt' ↦ lt'
            | inr ge ↦ absurd (let none = below-none next (x.number + 1) end xs are.4 (omega (arith, ge, w.1)) in cc)
          ] in
          let not_past : nat_lt next x.number ≡ false = grind (arith, nat_tests, before) in
          let rest = chosen-more tree above next (x.number + 1) end xs entry are.4 least.1 lt later in
          skipped tree above x xs (λ whole past. omega (arith, least.0 whole past, before)) ∙ rest
          ∙ ap (λ (l : List ℕ). if_chosen tree entry ++ l) (sym (rw not_past refl))
    ]

chosen-none : (tree : Tree) (above : ℕ) (entries : List Entry) → AllByRecursion (λ (e : Entry). is_complete e.holding ≡ true → above < e.number → ⊥) entries → chosen tree (above_of above entries) ≡ []
chosen-none tree above [] never = refl
chosen-none tree above (x ∷ xs) never = skipped tree above x xs never.0 ∙ chosen-none tree above xs never.1

none-beyond : (store : Store) (above : ℕ) (entries : List Entry) → AreFound store entries → ((number : ℕ) → above < number → IsCompleteIn store number → ⊥)
    → AllByRecursion (λ (e : Entry). is_complete e.holding ≡ true → above < e.number → ⊥) entries
none-beyond store above [] found least = tt
none-beyond store above (x ∷ xs) found least =
    (λ whole past. least x.number past (x, found.0, whole), none-beyond store above xs found.1 least)

-- ---- the loop over them

-- the entry is complete, so it is chosen if its header matches the selection
chosen-is : (tree : Tree) (store : Store) (number : ℕ) (is : IsCompleteIn store number) → is_chosen tree is.0 ≡ holds tree (header_items (octets_in store number))
chosen-is tree store number is = rw is.2 (ap (λ (o : Option Entry). holds tree (header_items (octets_at o))) (sym is.1))

number-is : (store : Store) (number : ℕ) (entry : Entry) → entry_of store number ≡ Some entry → entry.number ≡ number
number-is store number entry found = found-number number store.entries entry found

module _ (store : Store) (rules : IsStore store) (tree : Tree) where
  pub chosen-start : chosen tree (above_of 0 store.entries) ≡ chosen tree store.entries
  chosen-start = ap (chosen tree) (above-all 0 1 store.next store.entries rules.entries (omega arith))

  pub chosen-step : (above next : ℕ) (numbers : List ℕ) (it : Bool) → IsNextComplete store above (Some next) → it ≡ holds tree (header_items (octets_in store next))
      → numbers ++ chosen tree (above_of above store.entries) ≡ chosen tree store.entries
      → (numbers ++ cond it (next ∷ []) []) ++ chosen tree (above_of next store.entries) ≡ chosen tree store.entries
  chosen-step above next numbers it least is so_far =
      let entry = least.1.0 in
      let more = chosen-more tree above next 1 store.next store.entries entry rules.entries (beyond store above next store.entries (are-found store rules) least.2) least.0 least.1.1 in
      let here : if_chosen tree entry ≡ cond it (next ∷ []) [] =
      ap (λ (b : Bool). cond b (entry.number ∷ []) []) (chosen-is tree store next least.1 ∙ sym is)
      ∙ ap (λ (n : ℕ). cond it (n ∷ []) []) (number-is store next entry least.1.1) in
      append_assoc numbers (cond it (next ∷ []) []) (chosen tree (above_of next store.entries))
      ∙ ap (λ (l : List ℕ). numbers ++ (l ++ chosen tree (above_of next store.entries))) (sym here)
      ∙ ap (λ (l : List ℕ). numbers ++ l) (sym more) ∙ so_far

  pub chosen-end : (above : ℕ) (numbers : List ℕ) → IsNextComplete store above None → numbers ++ chosen tree (above_of above store.entries) ≡ chosen tree store.entries → numbers ≡ chosen tree store.entries
  chosen-end above numbers none so_far =
      let left = chosen-none tree above store.entries (none-beyond store above store.entries (are-found store rules) none) in
      sym (append-nil numbers) ∙ ap (λ (l : List ℕ). numbers ++ l) (sym left) ∙ so_far

  pub next-below : (above next : ℕ) → IsNextComplete store above (Some next) → next < store.next
  next-below above next least = (found-fits next 1 store.next store.entries least.1.0 rules.entries least.1.1).2

-- ---- how many are left

fewer : (above next : ℕ) (entries : List Entry) → above < next → length (above_of next entries) ≤ length (above_of above entries)
fewer above next [] lt = omega arith
fewer above next (x ∷ xs) lt = by (nat_lt next x.number) refl (nat_lt above x.number) refl (fewer above next xs lt)
  where
    by : (a : Bool) → nat_lt next x.number ≡ a → (b : Bool) → nat_lt above x.number ≡ b → length (above_of next xs) ≤ length (above_of above xs)
        → length (above_of next (x ∷ xs)) ≤ length (above_of above (x ∷ xs))
    by true p true q rest = rw (p, q) (omega (arith, rest))
    by true p false q rest = absurd (let f : ⊥ = grind (arith, nat_tests, p, q, lt) in f)
    by false p true q rest = rw (p, q) (omega (arith, rest))
    by false p false q rest = rw (p, q) rest

fewer-one : (above next : ℕ) (entries : List Entry) (entry : Entry) → above < next → find (has_number next) entries ≡ Some entry → length (above_of next entries) + 1 ≤ length (above_of above entries)
fewer-one above next [] entry lt found = absurd (cc)
fewer-one above next (x ∷ xs) entry lt found =
    elim (eqb_tells x.number next) [
      | inl w ↦
          let past : nat_lt above x.number ≡ true = grind (arith, nat_tests, w.1, lt) in
          let not_past : nat_lt next x.number ≡ false = grind (arith, nat_tests, w.1) in
          rw (past, not_past) (omega (arith, fewer above next xs lt))
      | inr w ↦ by (nat_lt next x.number) refl (nat_lt above x.number) refl (fewer-one above next xs entry lt (rw w.0 at found))
    ]
  where
    by : (a : Bool) → nat_lt next x.number ≡ a → (b : Bool) → nat_lt above x.number ≡ b → length (above_of next xs) + 1 ≤ length (above_of above xs)
        → length (above_of next (x ∷ xs)) + 1 ≤ length (above_of above (x ∷ xs))
    by true p true q rest = rw (p, q) (omega (arith, rest))
    by true p false q rest = absurd (let f : ⊥ = grind (arith, nat_tests, p, q, lt) in f)
    by false p true q rest = rw (p, q) (omega (arith, rest))
    by false p false q rest = rw (p, q) rest

-- one less above the next complete one
pub above-fewer : (store : Store) (above next : ℕ) → IsNextComplete store above (Some next) → length (above_of next store.entries) + 1 ≤ length (above_of above store.entries)
above-fewer store above next least = fewer-one above next store.entries least.1.0 least.0 least.1.1

-- and no more than there are
pub above-few : (above : ℕ) (entries : List Entry) → length (above_of above entries) ≤ length entries
above-few above [] = omega arith
above-few above (x ∷ xs) = by (nat_lt above x.number) refl (above-few above xs)
  where
    by : (b : Bool) → nat_lt above x.number ≡ b → length (above_of above xs) ≤ length xs → length (above_of above (x ∷ xs)) ≤ length (x ∷ xs)
    by true q rest = rw q (omega (arith, rest))
    by false q rest = rw q (omega (arith, rest))
