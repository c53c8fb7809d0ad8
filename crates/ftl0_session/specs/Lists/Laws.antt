-- Laws of the lists of a server's callers.
use Rattle.std.specs.Prelude.{◌≡◌, ◌≢◌, ℕ, ◌<◌, ◌≤◌, List, [], ◌∷◌, length, map, drop, slice_get, All, None, Some}
use Rattle.std.specs.Option.{option_map}
use Rattle.px_base.specs.CallSign.{CallSign}
use Rattle.ftl0_session.specs.Lists.Lists.{CallerList, IsLists, after_taking, left_of, list_of, selected}

-- the lists after these selections, one after another
abbrev pub after_selections : List CallerList → List CallerList → List CallerList
after_selections lists [] = lists
after_selections lists (next ∷ later) = after_selections (selected lists next.caller next.numbers) later

-- A caller has what it selected last, whatever up to 63 selections of other callers come after it.
abbrev pub SelectionLaw : Type 0
SelectionLaw =
    (lists later : List CallerList) (caller : CallSign) (numbers : List ℕ)
    → length later < 64 → All (λ next. next.caller ≢ caller) later
    → left_of (after_selections (selected lists caller numbers) later) caller ≡ numbers

-- The owner's list has to go when this caller selects: there are 64, none is this caller's, and the first is the
-- owner's.
pub record HasToGo (lists : List CallerList) (caller owner : CallSign) : Type 0 where
  pub full : length lists ≡ 64
  pub none : list_of lists caller ≡ None
  pub first : option_map (λ list. list.caller) (slice_get lists 0) ≡ Some owner

-- When a caller selects, another one's list is gone if it has to go, and else it is as it was.
abbrev pub OthersLaw : Type 0
OthersLaw =
    (lists : List CallerList) (caller owner : CallSign) (numbers : List ℕ) → IsLists lists → owner ≢ caller
    → (HasToGo lists caller owner → list_of (selected lists caller numbers) owner ≡ None)
    × ((HasToGo lists caller owner → ⊥) → list_of (selected lists caller numbers) owner ≡ list_of lists owner)

-- whose lists there are, in their order
abbrev pub callers : List CallerList → List CallSign
callers lists = map (λ list. list.caller) lists

-- Taking numbers moves no list; it shortens the caller's, and each other one is as it was.
abbrev pub TakingLaw : Type 0
TakingLaw =
    (lists : List CallerList) (caller : CallSign) (count : ℕ)
    → (callers (after_taking lists caller count) ≡ callers lists)
    × (left_of (after_taking lists caller count) caller ≡ drop count (left_of lists caller))
    × ((owner : CallSign) → owner ≢ caller → list_of (after_taking lists caller count) owner ≡ list_of lists owner)

-- What is selected and taken leaves lists of a server.
abbrev pub KeptLaw : Type 0
KeptLaw =
    (lists : List CallerList) (caller : CallSign) → IsLists lists
    → ((numbers : List ℕ) → length numbers ≤ 1024 → IsLists (selected lists caller numbers))
    × ((count : ℕ) → IsLists (after_taking lists caller count))
