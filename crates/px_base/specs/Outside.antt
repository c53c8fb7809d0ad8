-- What is said of objects outside the program: counts of faults, and content that some of them tell.
use Rattle.std.specs.Prelude.{◌≡◌, ℕ, ◌+◌, ◌<◌, ◌≤◌, min, List, ◌++◌, take, if◌then◌else◌, Option, Some, IfSome, Result, OnOk, OnErr, is_err}
use Rattle.std.specs.Option.{option_map}

-- one more, up to 2 ^ 64 - 1
abbrev pub counted : ℕ → ℕ
counted n = min (n + 1) 18446744073709551615

-- the count of faults after a call with this answer, where each error is counted
abbrev pub counted_after : {T E : Type 0} → Result T E → ℕ → ℕ
counted_after result faults = if is_err result then counted faults else faults

-- The count rose; where it stands at its last number, 2 ^ 64 - 1, this is taken as met.
abbrev pub Rose : ℕ → ℕ → Type 0
Rose before now = before < 18446744073709551615 → before < now

-- A count never falls; a fault is answered only where it rose in the call, and an Ok only where it stayed.
pub record HasCause {T E : Type 0} (before now : ℕ) (result : Result T E) : Type 0 where
  pub no_less : before ≤ now
  pub rose : OnErr result (Rose before now)
  pub same : OnOk result (now ≡ before)

-- The content now is that before with these octets at its end: where one is told, so is the other.
abbrev pub Gains : Option (List ℕ) → Option (List ℕ) → List ℕ → Type 0
Gains before now octets = now ≡ option_map (λ text. text ++ octets) before

-- the same with some prefix of these octets
abbrev pub GainsPrefix : Option (List ℕ) → Option (List ℕ) → List ℕ → Type 0
GainsPrefix before now octets = (n : ℕ) × Gains before now (take n octets)

-- Where the list now is told, the one before was told too, and these items are all that came since: it may cease to be
-- told, and never begins.
abbrev pub Grows : {X : Type 0} → Option (List X) → Option (List X) → List X → Type 0
Grows {X} before now more = IfSome now (λ all. (earlier : List X) × (before ≡ Some earlier) × (all ≡ earlier ++ more))
