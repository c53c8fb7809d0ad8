-- Each turn so far is one that a poll can bring.
use Rattle.std.specs.List.{AllByRecursion}
use Rattle.px_base.specs.Polling.{IsTurn}
use Rattle.row_words.proofs.script.Script.add_quiet.Given as goal

abbrev pub invariant-loop : goal.invariant-loop
invariant-loop l = AllByRecursion IsTurn l.self.turns.items
