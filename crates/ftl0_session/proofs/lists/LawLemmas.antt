-- Laws of the lists, over their definitions.
use Rattle.std.proofs.Common.{◌≡◌, ◌≢◌, ℕ, suc, ◌+◌, ◌-◌, ◌<◌, ◌≤◌, true, false, cond, get_or, Bool, List, [], ◌∷◌, ◌++◌, length, drop, find, not, Option, None, Some, option_map, refl, sym, ◌∙◌, ap, inl, inr, arith, append_assoc}
use Rattle.ftl0_session.specs.Lists.Laws.{HasToGo, KeptLaw, OthersLaw, SelectionLaw, TakingLaw, after_selections, callers}
use Rattle.ftl0_session.proofs.Names.{AllByRecursion, option_or, cases_eq, not_from_false, drop-append-le, length-append, same_Some, drop-nil, All-drop, All-filter, All-from_recursion, filter-append, recursion_from_All, find-append, CallSign, CallerList, IsLists, after_taking, is_of, last_of, left_of, list_of, lists_of_others, numbers_or_none, selected, shortened}
use Rattle.ftl0_session.proofs.lists.CallerLists.{last_of-all, not-both, not-of, others-none, same-call}
use Rattle.ftl0_session.proofs.lists.OnePasses.{fewer-left, find-in_rest, find-mapped, find-none, found-passes, none-in_rest}
use Rattle.ftl0_session.proofs.lists.Selecting.{IsLists-selected, few-others, own}
use Rattle.ftl0_session.proofs.lists.Taking.{IsLists-taken, same-caller, same-owner, short}

-- The caller's list of these numbers is there, with at most this many after it.
record Stands (lists : List CallerList) (caller : CallSign) (numbers : List ℕ) (most : ℕ) : Type 0 where
  pub front : List CallerList
  pub back : List CallerList
  pub is : lists ≡ front ++ own caller numbers ∷ back
  pub none : AllByRecursion (λ l. is_of caller l ≡ false) front
  pub few : length back ≤ most

own-is : (caller : CallSign) (numbers : List ℕ) → is_of caller (own caller numbers) ≡ true
own-is caller numbers = (same-call caller caller).1 refl

-- none of these is the caller's, and so none of the last ones
dropped : (caller : CallSign) (n : ℕ) (lists : List CallerList) → AllByRecursion (λ l. is_of caller l ≡ false) lists → AllByRecursion (λ l. is_of caller l ≡ false) (drop n lists)
dropped caller n lists none =
    recursion_from_All (λ l. is_of caller l ≡ false) (drop n lists)
    (All-drop (λ l. is_of caller l ≡ false) n lists (All-from_recursion (λ l. is_of caller l ≡ false) lists none))

filtered : (caller other : CallSign) (lists : List CallerList) → AllByRecursion (λ l. is_of caller l ≡ false) lists → AllByRecursion (λ l. is_of caller l ≡ false) (lists_of_others lists other)
filtered caller other lists none =
    recursion_from_All (λ l. is_of caller l ≡ false) (lists_of_others lists other)
    (All-filter (λ l. not (is_of other l)) (λ l. is_of caller l ≡ false) lists (All-from_recursion (λ l. is_of caller l ≡ false) lists none))

stands-left : (lists : List CallerList) (caller : CallSign) (numbers : List ℕ) (most : ℕ) → Stands lists caller numbers most → left_of lists caller ≡ numbers
stands-left lists caller numbers most stands =
    ap numbers_or_none
    (ap (find (is_of caller)) stands.is ∙ find-append (is_of caller) stands.front (own caller numbers ∷ stands.back)
    ∙ ap (λ (o : Option CallerList). option_or o (find (is_of caller) (own caller numbers ∷ stands.back))) (find-none (is_of caller) stands.front stands.none)
    ∙ ap (λ (b : Bool). cond b (Some (own caller numbers)) (find (is_of caller) stands.back)) (own-is caller numbers))

stands-first : (lists : List CallerList) (caller : CallSign) (numbers : List ℕ) → Stands (selected lists caller numbers) caller numbers 0
stands-first lists caller numbers =
    let others = lists_of_others lists caller in
    let longer = length-append others (own caller numbers ∷ []) in
    let inside : length (others ++ own caller numbers ∷ []) - 64 ≤ length others = omega (arith, longer) in
    record {
      front = drop (length (others ++ own caller numbers ∷ []) - 64) others;
      back = [];
      is = drop-append-le (length (others ++ own caller numbers ∷ []) - 64) others (own caller numbers ∷ []) inside;
      none = dropped caller (length (others ++ own caller numbers ∷ []) - 64) others (none-in_rest (is_of caller) lists);
      few = omega arith;
    }

module _ (caller : CallSign) (numbers : List ℕ) where
  stands-next : (lists : List CallerList) (most : ℕ) (next : CallerList) → next.caller ≢ caller → most < 63
      → Stands lists caller numbers most → Stands (selected lists next.caller next.numbers) caller numbers (most + 1)
  stands-next lists most next other less stands =
      let mine = own caller numbers in
      let new = own next.caller next.numbers in
      let front = lists_of_others stands.front next.caller in
      let back = lists_of_others stands.back next.caller in
      let stays : not (is_of next.caller mine) ≡ true = not_from_false (is_of next.caller mine) (not-of next.caller mine (λ same. other (sym same))) in
      let split : lists_of_others lists next.caller ≡ front ++ mine ∷ back =
      ap (λ (ls : List CallerList). lists_of_others ls next.caller) stands.is
      ∙ filter-append (λ l. not (is_of next.caller l)) stands.front (mine ∷ stands.back)
      ∙ ap (λ (b : Bool). front ++ cond b (mine ∷ back) back) stays in
      let all : lists_of_others lists next.caller ++ new ∷ [] ≡ front ++ (mine ∷ (back ++ new ∷ [])) =
      ap (λ (ls : List CallerList). ls ++ new ∷ []) split ∙ append_assoc front (mine ∷ back) (new ∷ []) in
      let len_back = length-append back (new ∷ []) in
      let len = length-append front (mine ∷ (back ++ new ∷ [])) in
      let few = few-others stands.back next.caller in
      let count = length (front ++ (mine ∷ (back ++ new ∷ []))) - 64 in
      let inside : count ≤ length front = omega (arith, len, len_back, few, less, stands.few) in
      record {
        front = drop count front;
        back = back ++ new ∷ [];
        is = ap (last_of 64) all ∙ drop-append-le count front (mine ∷ (back ++ new ∷ [])) inside;
        none = dropped caller count front (filtered caller next.caller stands.front stands.none);
        few = omega (arith, len_back, few, stands.few);
      }

  stands-after : (later lists : List CallerList) (most : ℕ) → most + length later < 64
      → AllByRecursion (λ next. next.caller ≢ caller) later → Stands lists caller numbers most
      → left_of (after_selections lists later) caller ≡ numbers
  stands-after [] lists most less others stands = stands-left lists caller numbers most stands
  stands-after (next ∷ later) lists most less others stands =
      stands-after later (selected lists next.caller next.numbers) (most + 1) (omega (arith, less)) others.1
      (stands-next lists most next others.0 (omega (arith, less)) stands)

pub selection : SelectionLaw
selection lists later caller numbers less others =
    stands-after caller numbers later (selected lists caller numbers) 0 (omega (arith, less))
    (recursion_from_All (λ next. next.caller ≢ caller) later others) (stands-first lists caller numbers)

or-none : (o : Option CallerList) → option_or o None ≡ o
or-none None = refl
or-none (Some l) = refl

module _ (lists : List CallerList) (caller owner : CallSign) (numbers : List ℕ) (other : owner ≢ caller) where
  -- the new list isn't the owner's
  find-before_new : (ls : List CallerList) → find (is_of owner) (ls ++ own caller numbers ∷ []) ≡ find (is_of owner) ls
  find-before_new ls =
      find-append (is_of owner) ls (own caller numbers ∷ [])
      ∙ ap (λ (b : Bool). option_or (find (is_of owner) ls) (cond b (Some (own caller numbers)) None)) (not-of owner (own caller numbers) (λ same. other (sym same)))
      ∙ or-none (find (is_of owner) ls)

  -- if the others' are fewer than 64
  others-kept : length (lists_of_others lists caller) < 64 → list_of (selected lists caller numbers) owner ≡ list_of lists owner
  others-kept few =
      let longer = length-append (lists_of_others lists caller) (own caller numbers ∷ []) in
      ap (find (is_of owner)) (last_of-all 64 (lists_of_others lists caller ++ own caller numbers ∷ []) (omega (arith, longer, few)))
      ∙ find-before_new (lists_of_others lists caller)
      ∙ find-in_rest (is_of caller) (is_of owner) (λ l is. not-both caller owner l other is) lists

-- the first of 64 goes
module _ (first : CallerList) (rest : List CallerList) (caller owner : CallSign) (numbers : List ℕ) (other : owner ≢ caller) (full : length (first ∷ rest) ≡ 64) (none : find (is_of caller) (first ∷ rest) ≡ None) where
  first-gone : list_of (selected (first ∷ rest) caller numbers) owner ≡ find (is_of owner) rest
  first-gone =
      let longer = length-append (first ∷ rest) (own caller numbers ∷ []) in
      let one : length (first ∷ rest ++ own caller numbers ∷ []) - 64 ≡ 1 = omega (arith, longer, full) in
      ap (λ (ls : List CallerList). find (is_of owner) (last_of 64 (ls ++ own caller numbers ∷ []))) (others-none (first ∷ rest) caller none)
      ∙ ap (λ (n : ℕ). find (is_of owner) (drop n (first ∷ rest ++ own caller numbers ∷ []))) one
      ∙ find-before_new (first ∷ rest) caller owner numbers other rest

  first-goes : IsLists (first ∷ rest) → first.caller ≡ owner → find (is_of owner) rest ≡ None
  first-goes are its =
      find-none (is_of owner) rest
      (recursion_from_All (λ l. is_of owner l ≡ false) rest
      (λ k d below. not-of owner (get_or rest k d) (λ same. are.distinct 0 (suc k) d (omega arith) (omega (arith, below)) (its ∙ sym same))))

  second-stays : (first.caller ≡ owner → ⊥) → find (is_of owner) rest ≡ list_of (first ∷ rest) owner
  second-stays its_not =
      sym (ap (λ (b : Bool). cond b (Some first) (find (is_of owner) rest)) (not-of owner first its_not))

others-by : (lists : List CallerList) (caller owner : CallSign) (numbers : List ℕ) → IsLists lists → owner ≢ caller → (found : Option CallerList) → list_of lists caller ≡ found
    → (HasToGo lists caller owner → list_of (selected lists caller numbers) owner ≡ None)
    × ((HasToGo lists caller owner → ⊥) → list_of (selected lists caller numbers) owner ≡ list_of lists owner)
others-by lists caller owner numbers are other (Some l) found =
    let fewer = fewer-left (is_of caller) lists l found in (
      λ goes. absurd (cc (sym found ∙ goes.none)),
      λ stays. others-kept lists caller owner numbers other (omega (arith, fewer, are.few)),
    )
others-by [] caller owner numbers are other None found =
    (λ goes. absurd (cc), λ stays. others-kept [] caller owner numbers other (omega arith))
others-by (first ∷ rest) caller owner numbers are other None found =
    elim (cases_eq (length (first ∷ rest)) 64) [
      | inl full ↦ (
        λ goes. first-gone first rest caller owner numbers other full found ∙ first-goes first rest caller owner numbers other full found are (same_Some first.caller owner goes.first),
        λ stays. first-gone first rest caller owner numbers other full found
            ∙ second-stays first rest caller owner numbers other full found (λ its. stays (record { full = full; none = found; first = ap (λ (c : CallSign). Some c) its })),
      )
      | inr not_full ↦
          let few = few-others (first ∷ rest) caller in (
            λ goes. absurd (not_full goes.full),
            λ stays. others-kept (first ∷ rest) caller owner numbers other (omega (arith, few, are.few, not_full)),
          )
    ]

pub others : OthersLaw
others lists caller owner numbers are other = others-by lists caller owner numbers are other (list_of lists caller) refl

module _ (lists : List CallerList) (caller : CallSign) (count : ℕ) where
  numbers-after : (o : Option CallerList) → find (is_of caller) lists ≡ o → numbers_or_none (option_map (shortened caller count) o) ≡ drop count (numbers_or_none o)
  numbers-after None found = sym (drop-nil count)
  numbers-after (Some l) found =
      ap (λ (b : Bool). (cond b (short caller count l) l).numbers) (found-passes (is_of caller) lists l found)

  unchanged : (owner : CallSign) → owner ≢ caller → (o : Option CallerList) → find (is_of owner) lists ≡ o → option_map (shortened caller count) o ≡ o
  unchanged owner other None found = refl
  unchanged owner other (Some l) found =
      ap (λ (b : Bool). Some (cond b (short caller count l) l)) (not-both caller owner l other (found-passes (is_of owner) lists l found))

same-callers : (caller : CallSign) (count : ℕ) (lists : List CallerList) → callers (after_taking lists caller count) ≡ callers lists
same-callers caller count [] = refl
same-callers caller count (l ∷ ls) =
    ap (λ (c : CallSign). c ∷ callers (after_taking ls caller count)) (same-caller caller count l) ∙ ap (λ (cs : List CallSign). l.caller ∷ cs) (same-callers caller count ls)

pub taking : TakingLaw
taking lists caller count = (
  same-callers caller count lists,
  ap numbers_or_none (find-mapped (is_of caller) (shortened caller count) (same-owner caller count caller) lists) ∙ numbers-after lists caller count (find (is_of caller) lists) refl,
  λ owner other.
      find-mapped (is_of owner) (shortened caller count) (same-owner caller count owner) lists ∙ unchanged lists caller count owner other (find (is_of owner) lists) refl,
)

pub kept : KeptLaw
kept lists caller are = (
  λ numbers short. IsLists-selected lists caller numbers are short,
  λ count. IsLists-taken caller count lists are,
)
