use Rattle.std.proofs.Common.{◌-◌, length}
use Rattle.selection.proofs.TruthLemmas.{IsEvaluated}
use Rattle.selection.proofs.truths.tokens_hold.Given as goal

-- the truths are those of the trees before this place, and what follows leads to the one tree
abbrev pub invariant-loop-at : goal.invariant-loop-at
invariant-loop-at l = IsEvaluated l.tokens l.header.items l.at l.truths.items

abbrev pub decreases-loop-at : goal.decreases-loop-at
decreases-loop-at l = length l.tokens - l.at
