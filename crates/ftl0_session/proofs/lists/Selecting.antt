-- What a caller's selecting makes of the lists.
use Rattle.std.proofs.Common.{◌≡◌, ◌≢◌, ℕ, ◌+◌, ◌-◌, ◌<◌, ◌≤◌, false, not, List, [], ◌∷◌, ◌++◌, length, drop, position, remove, AllPairs, None, Some, get_or, refl, sym, ◌∙◌, ap, subst, arith}
use Rattle.std.proofs.lemmas.List.Edits.{length-remove}
use Rattle.std.proofs.lemmas.List.Kept.{AllPairs-filter}
use Rattle.ftl0_session.proofs.Names.{drop-append-le, get_or-drop, length-append, length-drop, All-drop, All-filter, All-from_recursion, All-push, length-filter_both, all_pairs_push, true≢false, CallSign, CallerList, IsLists, is_of, last_of, lists_of_others, selected}
use Rattle.ftl0_session.proofs.lists.CallerLists.{last_of-all, others-at, others-none, same-call, within}
use Rattle.ftl0_session.proofs.lists.OnePasses.{find-nowhere, none-in_rest}

-- the caller's list of these numbers
abbrev pub own : CallSign → List ℕ → CallerList
own caller numbers = record { caller = caller; numbers = numbers }

pub few-others : (lists : List CallerList) (caller : CallSign) → length (lists_of_others lists caller) ≤ length lists
few-others lists caller =
    let both = length-filter_both (is_of caller) (λ l. not (is_of caller l)) (λ l. refl) lists in omega (arith, both)

-- the last 63, and one more, are the last 64
pub one-more : (lists : List CallerList) (list : CallerList) → last_of 63 lists ++ list ∷ [] ≡ last_of 64 (lists ++ list ∷ [])
one-more lists list =
    let longer = length-append lists (list ∷ []) in
    let same : length (lists ++ list ∷ []) - 64 ≡ length lists - 63 = omega (arith, longer) in
    let inside : length lists - 63 ≤ length lists = omega arith in
    sym (ap (λ (n : ℕ). drop n (lists ++ list ∷ [])) same ∙ drop-append-le (length lists - 63) lists (list ∷ []) inside)

-- the room that is made, if the caller has a list at this place
pub room-at : (lists : List CallerList) (caller : CallSign) (place : ℕ) → IsLists lists → position (is_of caller) lists ≡ Some place
    → remove lists place ≡ last_of 63 (lists_of_others lists caller)
room-at lists caller place are at =
    let shorter = length-remove lists place (within lists caller place are at) in
    let few : length (remove lists place) ≤ 63 = omega (arith, shorter, are.few) in
    sym (ap (last_of 63) (others-at lists caller place are at) ∙ last_of-all 63 (remove lists place) few)

-- and if it has none
module _ (lists : List CallerList) (caller : CallSign) (none : position (is_of caller) lists ≡ None) where
  others-all : lists_of_others lists caller ≡ lists
  others-all = others-none lists caller (find-nowhere (is_of caller) lists none)

  pub room-full : length lists ≡ 64 → remove lists 0 ≡ last_of 63 (lists_of_others lists caller)
  room-full full =
      let one : length lists - 63 ≡ 1 = omega (arith, full) in
      sym (ap (last_of 63) others-all ∙ ap (λ (n : ℕ). drop n lists) one)

  pub room-left : length lists ≤ 63 → lists ≡ last_of 63 (lists_of_others lists caller)
  room-left few = sym (ap (last_of 63) others-all ∙ last_of-all 63 lists few)

pub few-last : (count : ℕ) (lists : List CallerList) → length (last_of count lists) ≤ count
few-last count lists = let len = length-drop (length lists - count) lists in omega (arith, len)

AllPairs-drop : {X : Type 0} (R : X → X → Type 0) (n : ℕ) (xs : List X) → AllPairs R xs → AllPairs R (drop n xs)
AllPairs-drop R n xs pairs i j d less below =
    let len = length-drop n xs in
    let within : n + j < length xs = omega (arith, len, below) in
    subst (λ x. R x (get_or (drop n xs) j d)) (sym (get_or-drop n xs i d))
    (subst (λ x. R (get_or xs (n + i) d) x) (sym (get_or-drop n xs j d)) (pairs (n + i) (n + j) d (omega (arith, less)) within))

-- lists of a server stay such lists
pub IsLists-selected : (lists : List CallerList) (caller : CallSign) (numbers : List ℕ) → IsLists lists
    → length numbers ≤ 1024 → IsLists (selected lists caller numbers)
IsLists-selected lists caller numbers are short =
    let others = lists_of_others lists caller in
    let theirs = All-from_recursion (λ l. is_of caller l ≡ false) others (none-in_rest (is_of caller) lists) in
    let pairs = AllPairs-filter (λ (one other : CallerList). one.caller ≢ other.caller) (λ l. not (is_of caller l)) lists are.distinct in
    let all = all_pairs_push (λ (one other : CallerList). one.caller ≢ other.caller) others (own caller numbers) pairs
    (λ k d below same. true≢false (sym ((same-call (get_or others k d).caller caller).1 same) ∙ theirs k d below)) in
    let lengths = All-push (λ (l : CallerList). length l.numbers ≤ 1024) others (own caller numbers)
    (All-filter (λ l. not (is_of caller l)) (λ (l : CallerList). length l.numbers ≤ 1024) lists are.short) short in
    record {
      distinct = AllPairs-drop (λ (one other : CallerList). one.caller ≢ other.caller) _ (others ++ own caller numbers ∷ []) all;
      few = few-last 64 (others ++ own caller numbers ∷ []);
      short = All-drop (λ (l : CallerList). length l.numbers ≤ 1024) _ (others ++ own caller numbers ∷ []) lengths;
    }
