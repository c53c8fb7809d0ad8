-- The calls that what stands outside tells, and those that forms in memory record.
use Rattle.std.specs.Prelude.{◌≡◌, ◌⊎◌, List, [], ◌∷◌, ◌++◌, Bool, true, false, Option, None, Some, if◌then◌else◌}
use Rattle.px_base.specs.Outside.{Grows}

-- The calls that reached something outside the program until now, or those of them that are told, have P.
abbrev pub Asks : {C : Type 0} → Option (List C) → Option (List C) → (List C → Type 0) → Type 0
Asks {C} before now P = (calls : List C) × Grows before now calls × P calls

-- the calls so far, and whether one of them found no memory to be recorded
pub record CallRecordState (C : Type 0) : Type 0 where
  pub calls : List C
  pub untold : Bool

-- before the first call
abbrev pub no_calls : {C : Type 0} → CallRecordState C
no_calls = record { calls = []; untold = false }

-- a call found no memory to be recorded
abbrev pub without_call : {C : Type 0} → CallRecordState C → CallRecordState C
without_call state = record state { untold = true }

-- a call was recorded, or found no memory for that
abbrev pub IsAdded : {C : Type 0} → CallRecordState C → CallRecordState C → C → Type 0
IsAdded before now call = (now ≡ record before { calls = before.calls ++ call ∷ [] }) ⊎ (now ≡ without_call before)

-- they are told until one found no memory to be recorded
abbrev pub told : {C : Type 0} → CallRecordState C → Option (List C)
told state = if state.untold then None else Some state.calls
