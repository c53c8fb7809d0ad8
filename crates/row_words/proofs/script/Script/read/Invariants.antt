-- Each turn so far is one that a poll can bring.
use Rattle.std.specs.List.{AllByRecursion}
use Rattle.px_base.specs.Polling.{IsTurn}
use Rattle.row_words.proofs.script.Script.read.Given as goal

abbrev pub invariant-loop-word : goal.invariant-loop-word
invariant-loop-word l = AllByRecursion IsTurn l.script.turns.items
