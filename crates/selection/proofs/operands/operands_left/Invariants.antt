use Rattle.std.proofs.Common.{ℕ, ◌+◌, ◌-◌, ◌≤◌, List, length}
use Rattle.selection.proofs.StepLemmas.{IsCounted}
use Rattle.selection.proofs.operands.operands_left.Given as goal

-- So many operands stand before this place, and no more of them than tokens.
pub record IsAt (tokens : List ℕ) (most operands at : ℕ) : Type 0 where
  pub walk : IsCounted tokens most operands at
  pub few : operands + most ≤ 64
  pub within : at ≤ length tokens

abbrev pub invariant-loop-at : goal.invariant-loop-at
invariant-loop-at l = IsAt l.tokens l.most l.operands l.at

abbrev pub decreases-loop-at : goal.decreases-loop-at
decreases-loop-at l = length l.tokens - l.at
