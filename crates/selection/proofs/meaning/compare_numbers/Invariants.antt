use Rattle.std.proofs.Common.{◌≡◌}
use Rattle.selection.proofs.Names.{nat_cmp, number}
use Rattle.selection.proofs.NumberLemmas.{compared}
use Rattle.selection.proofs.meaning.compare_numbers.Given as goal

-- what is left decides, and else what came before
abbrev pub invariant-loop-i : goal.invariant-loop-i
invariant-loop-i l = nat_cmp (number l.one) (number l.other) ≡ compared l.one l.other l.i l.order
