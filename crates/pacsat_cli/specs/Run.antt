-- What a run of the program did, whatever its words ask for.
use Rattle.std.specs.Prelude.{◌≡◌, ◌⊎◌, ℕ, List, Contains, Option}
use Rattle.px_base.specs.Outside.{Gains, GainsPrefix, Rose}
use Rattle.pacsat_cli.specs.declared.status.Status.{Status}

-- what is seen so of an object stayed
abbrev pub Stays : {A X : Type 0} → (A → X) → A → A → Type 0
Stays seen before now = seen now ≡ seen before

-- this status, or one of the others, each of which has a cause of its own
abbrev pub IsUnless : Status → Status → List Status → Type 0
IsUnless result status others = (result ≡ status) ⊎ Contains others result

-- A count of faults rose where this status is answered, and stayed where it isn't.
pub record HasStatusCause (fault : Status) (before now : ℕ) (status : Status) : Type 0 where
  pub rose : status ≡ fault → Rose before now
  pub same : (status ≡ fault → ⊥) → now ≡ before

-- These octets were shown, and the output's count of faults is as it was; or the count rose, and some prefix of them was
-- shown.
abbrev pub Shows : {O : Type 0} → (O → Option (List ℕ)) → (O → ℕ) → O → O → List ℕ → Type 0
Shows shown faults before now octets =
    (Gains (shown before) (shown now) octets × (faults now ≡ faults before))
    ⊎ (GainsPrefix (shown before) (shown now) octets × Rose (faults before) (faults now))
