-- What a call moves that reads or writes.
use Rattle.std.specs.Prelude.{◌≤◌, ℕ, List, [], ◌∷◌, Option, Result, IfOk}
use Rattle.px_base.specs.Outside.{Grows}

-- A call that moves octets is recorded as this one, and moved at most this number of them.
pub record Moves {C E : Type 0} (calls calls_now : Option (List C)) (call : C) (most : ℕ) (result : Result ℕ E)
    : Type 0 where
  pub count : IfOk result (λ count. count ≤ most)
  pub told : Grows calls calls_now (call ∷ [])
