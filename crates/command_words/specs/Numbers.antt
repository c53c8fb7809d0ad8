-- Numbers among the words.
use Rattle.std.specs.Prelude.{◌≡◌, ℕ, ◌+◌, ◌-◌, ◌*◌, ◌≤◌, List, [], ◌∷◌, length, Option, None, Some}
use Rattle.std.specs.List.{AllByRecursion}

-- a decimal digit
abbrev pub IsDigit : ℕ → Type 0
IsDigit c = (48 ≤ c) × (c ≤ 57)

-- the number that digits write, after those of a number before them
abbrev pub number_after : ℕ → List ℕ → ℕ
number_after before [] = before
number_after before (digit ∷ digits) = number_after (10 * before + (digit - 48)) digits

-- One to twenty decimal digits, of which the first may be zeros, write this number, which is in its range.
pub record NumberText (low high : ℕ) (text : List ℕ) (number : ℕ) : Type 0 where
  pub some : 1 ≤ length text
  pub few : length text ≤ 20
  pub digits : AllByRecursion IsDigit text
  pub value : number ≡ number_after 0 text
  pub least : low ≤ number
  pub most : number ≤ high

-- no value is given, or one that writes this number of the range
abbrev pub GivesNumber : ℕ → ℕ → Option (List ℕ) → Option ℕ → Type 0
GivesNumber low high value None = value ≡ None
GivesNumber low high value (Some number) = (text : List ℕ) × (value ≡ Some text) × NumberText low high text number

-- a value writes this number of the range, or none is given and it is the one that stands for it
abbrev pub IsNumberOr : ℕ → ℕ → ℕ → Option (List ℕ) → ℕ → Type 0
IsNumberOr otherwise low high None number = number ≡ otherwise
IsNumberOr otherwise low high (Some text) number = NumberText low high text number

-- how many I frames of a link may be outstanding, where the words don't say (k of AX.25 2.0, 2.4.7.4)
abbrev pub default_k : ℕ
default_k = 4

-- how many blocks of 512 octets a store has, where the words don't say
abbrev pub default_blocks : ℕ
default_blocks = 65536

-- how many polls a run makes at most, where the words don't say
abbrev pub default_polls : ℕ
default_polls = 1000000000000
