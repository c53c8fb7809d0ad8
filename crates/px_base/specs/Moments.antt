-- The moments that a clock gives.
use Rattle.std.specs.Prelude.{◌≡◌, ◌==◌, ℕ, zero, suc, ◌-◌, min, List, [], ◌∷◌, ◌++◌, length, slice_index, Option, None, Some, if◌then◌else◌}
use Rattle.std.specs.List.{AllByRecursion}
use Rattle.px_base.specs.Outside.{Grows}

-- one moment more was given
abbrev pub Gives : Option (List ℕ) → Option (List ℕ) → ℕ → Type 0
Gives before now moment = Grows before now (moment ∷ [])

-- Each of these moments is the one that was given, and the clock wasn't asked; or, where none was given, they are the
-- clock's, and all that it gave since.
abbrev pub MomentsOf : Option ℕ → Option (List ℕ) → Option (List ℕ) → List ℕ → Type 0
MomentsOf (Some given) before now moments = AllByRecursion (λ moment. moment ≡ given) moments × (now ≡ before)
MomentsOf None before now moments = Grows before now moments

-- the moments are told: each is the one that was given, or they are all that the clock gave since
abbrev pub TellsMoments : Option ℕ → Option (List ℕ) → Option (List ℕ) → List ℕ → Type 0
TellsMoments (Some given) before now moments = AllByRecursion (λ moment. moment ≡ given) moments
TellsMoments None before now moments = (earlier : List ℕ) × (before ≡ Some earlier) × (now ≡ Some (earlier ++ moments))

-- A clock in memory: the moments to give in order, of which the last goes on, and the number of calls.
pub record MemoryClockState : Type 0 where
  pub moments : List ℕ
  pub calls : ℕ

-- the moment after so many calls: the next one in order, or the last
abbrev pub moment_after : ℕ → List ℕ → ℕ
moment_after calls moments = slice_index moments (min calls (length moments - 1))

-- the moments of the first so many calls
abbrev pub first_moments : ℕ → List ℕ → List ℕ
first_moments zero moments = []
first_moments (suc calls) moments = first_moments calls moments ++ moment_after calls moments ∷ []

-- the moments given are told until the number of calls stands still
abbrev pub told_given : MemoryClockState → Option (List ℕ)
told_given state = if state.calls == 18446744073709551615 then None else Some (first_moments state.calls state.moments)
