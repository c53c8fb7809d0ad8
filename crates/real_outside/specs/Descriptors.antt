-- Which null devices are held instead of closed standard streams.
use Rattle.std.specs.Prelude.{◌≡◌, ◌⊎◌, ℕ, ◌+◌, ℤ, pos, List, [], ◌∷◌, ◌++◌, length, take, get_or, map, nat_le}
use Rattle.std.specs.Prelude.{if◌then◌else◌, Bool, true, false, Option, None, Some, MatchOption, Result, Ok, Err, ⊤}
use Rattle.std.specs.declared.io.ErrorKind.TheVariants as reason
use Rattle.real_outside.specs.declared.descriptors.StandardStreams.{StandardStreams}
use Rattle.real_outside.specs.declared.system_error.SystemError.{SystemError}

-- the descriptor of a standard stream: of the input, the output or the error
abbrev pub IsStandard : ℤ → Type 0
IsStandard n = (n ≡ pos 0) ⊎ (n ≡ pos 1) ⊎ (n ≡ pos 2)

module _ {O : Type 0} (descriptor : O → ℤ) where
  -- a null device of this descriptor is held here
  abbrev pub Has : Option O → ℤ → Type 0
  Has held n = MatchOption held ⊥ (λ opened. descriptor opened ≡ n)

  -- it stands in for the stream of this descriptor
  abbrev pub IsHeld : StandardStreams O → ℤ → Type 0
  IsHeld streams n =
      ((n ≡ pos 0) × Has streams.input n) ⊎ ((n ≡ pos 1) × Has streams.output n) ⊎ ((n ≡ pos 2) × Has streams.error n)

  -- each opening gave a descriptor of a standard stream
  abbrev pub AreStandard : List (Result O SystemError) → Type 0
  AreStandard [] = ⊤
  AreStandard (Ok opened ∷ later) = IsStandard (descriptor opened) × AreStandard later
  AreStandard (Err error ∷ later) = ⊥

  -- each opening gave one that is held
  abbrev pub AreHeld : StandardStreams O → List (Result O SystemError) → Type 0
  AreHeld streams [] = ⊤
  AreHeld streams (Ok opened ∷ later) = IsHeld streams (descriptor opened) × AreHeld streams later
  AreHeld streams (Err error ∷ later) = ⊥

  -- The null device was opened until its descriptor was no standard stream's, and each before is held; or the last
  -- opening failed, or four gave standard streams' descriptors.
  abbrev pub HoldsLowest : Result (StandardStreams O) SystemError → List (Result O SystemError) → Type 0
  HoldsLowest (Ok streams) answers =
      (lower : List (Result O SystemError)) × (above : O)
      × (answers ≡ lower ++ Ok above ∷ [])
      × (IsStandard (descriptor above) → ⊥)
      × AreHeld streams lower
  HoldsLowest (Err error) answers =
      ((earlier : List (Result O SystemError)) × (answers ≡ earlier ++ Err error ∷ []))
      ⊎ ((length answers ≡ 4) × AreStandard answers)

  -- what was held is held still
  abbrev pub KeepsHeld : StandardStreams O → StandardStreams O → Type 0
  KeepsHeld before now = (n : ℤ) → IsHeld before n → IsHeld now n

  -- One that was opened is held if its descriptor is a standard stream's, and the answer says so.
  abbrev pub HoldsOpened :
      StandardStreams O → StandardStreams O → Result O SystemError → Result Bool SystemError → Type 0
  HoldsOpened before now (Ok opened) (Ok true) = IsHeld now (descriptor opened) × KeepsHeld before now
  HoldsOpened before now (Ok opened) (Ok false) = (IsStandard (descriptor opened) → ⊥) × KeepsHeld before now
  HoldsOpened before now (Ok opened) (Err error) = ⊥
  HoldsOpened before now (Err error) result = result ≡ Err error

-- the null device in memory: the descriptors of its openings, and how many of them were made
pub record NullState : Type 0 where
  pub descriptors : List (Option ℤ)
  pub opened : ℕ

-- how an opening ends that is to have this descriptor, or none
abbrev pub answer_of : Option ℤ → Result ℤ SystemError
answer_of None = Err (record { kind = reason.Other; number = None })
answer_of (Some n) = Ok n

-- how the next opening ends: after the last descriptor it fails
abbrev pub next_answer : NullState → Result ℤ SystemError
next_answer null = answer_of (get_or null.descriptors null.opened None)

-- its openings can be observed up to the last that has a place among the descriptors
abbrev pub told_answers : NullState → Option (List (Result ℤ SystemError))
told_answers null =
    if nat_le null.opened (length null.descriptors)
    then Some (map answer_of (take null.opened null.descriptors))
    else None
