-- The lists of all callers, whose numbers are those of complete files.
use Rattle.std.proofs.Common.{◌≡◌, ℕ, ◌==◌, ◌≤◌, List, [], ◌∷◌, ◌++◌, length, drop, Bool, true, false, not, cond, arith}
use Rattle.ftl0_session.proofs.Names.{nat_tests, length-take, All-append, All-cons, All-drop, All-filter, All-map, All-nil, All-weaker, CallSign, CallerList, after_taking, is_of, left_of, lists_of_others, selected, shortened, IsCompleteIn, KeepsComplete, Store, AreComplete, AreFiles, listed_files, lists_after}
use Rattle.ftl0_session.proofs.downloads.DueLemmas.{complete-kept}

-- the list's numbers are those of complete files
abbrev pub IsOfFiles : Store → CallerList → Type 0
IsOfFiles store list = AreFiles store list.numbers

shortened-files : (store : Store) (caller : CallSign) (count : ℕ) (list : CallerList) → IsOfFiles store list → IsOfFiles store (shortened caller count list)
shortened-files store caller count list of = by (is_of caller list)
  where
    by : (b : Bool) → IsOfFiles store (cond b (record list { numbers = drop count list.numbers }) list)
    by true = All-drop (IsCompleteIn store) count list.numbers of
    by false = of

-- and those of the lists after a command
pub taking-files : (store : Store) (lists : List CallerList) (caller : CallSign) (count : ℕ) → AreComplete store lists → AreComplete store (after_taking lists caller count)
taking-files store lists caller count are =
    All-map (IsOfFiles store) (shortened caller count) lists (All-weaker (IsOfFiles store) _ (shortened-files store caller count) lists are)

pub after-files : (store : Store) (lists : List CallerList) (caller : CallSign) (number count : ℕ) → AreComplete store lists → AreComplete store (lists_after lists caller number count)
after-files store lists caller number count are = by (number == 0)
  where
    by : (b : Bool) → AreComplete store (cond b (after_taking lists caller count) lists)
    by true = taking-files store lists caller count are
    by false = are

pub selected-files : (store : Store) (lists : List CallerList) (caller : CallSign) (numbers : List ℕ) → AreComplete store lists → AreFiles store numbers → AreComplete store (selected lists caller numbers)
selected-files store lists caller numbers are new =
    let own : CallerList = record { caller = caller; numbers = numbers } in
    All-drop (IsOfFiles store) _ (lists_of_others lists caller ++ own ∷ [])
    (All-append (IsOfFiles store) (lists_of_others lists caller) (own ∷ [])
    (All-filter (λ list. not (is_of caller list)) (IsOfFiles store) lists are)
    (All-cons (IsOfFiles store) own [] new (All-nil _)))

-- while the store keeps its complete files
pub lists-kept : (before now : Store) (lists : List CallerList) → KeepsComplete before now → AreComplete before lists → AreComplete now lists
lists-kept before now lists keeps are =
    All-weaker (IsOfFiles before) (IsOfFiles now)
    (λ list of. All-weaker (IsCompleteIn before) (IsCompleteIn now) (λ number is. complete-kept before now number keeps is) list.numbers of) lists are

-- a directory command with number 0 lists no more than are left
pub listed-few : (lists : List CallerList) (caller : CallSign) (number : ℕ) → number ≡ 0 → length (listed_files lists caller number) ≤ length (left_of lists caller)
listed-few lists caller number zero =
    let test : (number == 0) ≡ true = grind (arith, nat_tests) in
    rw test (omega (arith, length-take 10 (left_of lists caller)))
