-- The lists that a server's callers selected (FTL0 1990, SELECT_CMD), in the order in which they were set.
use Rattle.std.specs.Prelude.{ℕ, ◌≢◌, ◌≤◌, ◌-◌, ◌==◌, List, [], ◌∷◌, ◌++◌, length, map, filter, find, drop, All}
use Rattle.std.specs.Prelude.{AllPairs, bytes_eq, nat_lt, Bool, not, ◌&&◌, if◌then◌else◌, Option, None, Some}
use Rattle.px_base.specs.CallSign.{CallSign}

-- the list of a caller: the file numbers that are left in it, in order. One that is used up has none.
pub record CallerList : Type 0 where
  pub caller : CallSign
  pub numbers : List ℕ

-- this many of these numbers are taken
pub record AreTaken (taken : ℕ) (numbers : List ℕ) : Type 0 where
  pub within : taken ≤ length numbers
  pub few : length numbers ≤ 1024

-- the same call
abbrev pub is_same_call : CallSign → CallSign → Bool
is_same_call one other = bytes_eq one.chars other.chars && (one.ssid == other.ssid)

-- whether a list is this caller's
abbrev pub is_of : CallSign → CallerList → Bool
is_of caller list = is_same_call list.caller caller

-- the caller's list, if it has one
abbrev pub list_of : List CallerList → CallSign → Option CallerList
list_of lists caller = find (is_of caller) lists

abbrev pub numbers_or_none : Option CallerList → List ℕ
numbers_or_none None = []
numbers_or_none (Some list) = list.numbers

-- the numbers that are left in the caller's list; none if it has no list
abbrev pub left_of : List CallerList → CallSign → List ℕ
left_of lists caller = numbers_or_none (list_of lists caller)

-- whether any is left
abbrev pub has_left : List CallerList → CallSign → Bool
has_left lists caller = nat_lt 0 (length (left_of lists caller))

-- the lists of all others than this caller
abbrev pub lists_of_others : List CallerList → CallSign → List CallerList
lists_of_others lists caller = filter (λ list. not (is_of caller list)) lists

-- the last lists, at most this many
abbrev pub last_of : ℕ → List CallerList → List CallerList
last_of count lists = drop (length lists - count) lists

-- SELECT_CMD: these numbers are the caller's list. Its old one is gone, the new one is the last, and of more than 64
-- the first one is gone.
abbrev pub selected : List CallerList → CallSign → List ℕ → List CallerList
selected lists caller numbers =
    last_of 64 (lists_of_others lists caller ++ record { caller = caller; numbers = numbers } ∷ [])

-- a list without its first numbers, this many, if it is the caller's
abbrev pub shortened : CallSign → ℕ → CallerList → CallerList
shortened caller count list =
    if is_of caller list then record list { numbers = drop count list.numbers } else list

-- DOWNLOAD_CMD, DIR_SHORT_CMD and DIR_LONG_CMD with number 0: this many numbers are taken from the beginning of the
-- caller's list. It stays where it is, used up or not.
abbrev pub after_taking : List CallerList → CallSign → ℕ → List CallerList
after_taking lists caller count = map (shortened caller count) lists

-- What lists of a server are: at most one of a caller, at most 64, each of at most 1,024 numbers.
pub record IsLists (lists : List CallerList) : Type 0 where
  pub distinct : AllPairs (λ one other. one.caller ≢ other.caller) lists
  pub few : length lists ≤ 64
  pub short : All (λ list. length list.numbers ≤ 1024) lists
