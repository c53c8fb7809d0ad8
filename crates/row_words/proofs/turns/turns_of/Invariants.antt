-- Each turn so far can come of a poll, and fewer octets are left each time.
use Rattle.std.proofs.Common.{◌≡◌, ◌++◌, length}
use Rattle.std.specs.List.{AllByRecursion}
use Rattle.px_base.specs.Polling.{IsTurn, octets_heard}
use Rattle.row_words.proofs.turns.turns_of.Given as goal

abbrev pub invariant-loop-rest : goal.invariant-loop-rest
invariant-loop-rest l = AllByRecursion IsTurn l.turns.items × (octets_heard l.turns.items ++ l.rest ≡ l.fn.octets)

abbrev pub decreases-loop-rest : goal.decreases-loop-rest
decreases-loop-rest l = length l.rest
