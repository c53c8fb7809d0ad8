-- What a call makes of the counts of faults.
use Rattle.std.specs.Prelude.{◌≡◌, ℕ, Result}
use Rattle.px_base.specs.Outside.{HasCause, counted_after}

-- A call counts its fault: the count rose exactly if it failed, by one up to its last number.
pub record Counts {T E : Type 0} (before now : ℕ) (result : Result T E) : Type 0 where
  pub cause : HasCause before now result
  pub counted : now ≡ counted_after result before

-- A call counts its fault in the first of two counts, and leaves the other as it was.
pub record CountsFirst {T E : Type 0} (before now other other_now : ℕ) (result : Result T E) : Type 0 where
  pub counts : Counts before now result
  pub same : other_now ≡ other
