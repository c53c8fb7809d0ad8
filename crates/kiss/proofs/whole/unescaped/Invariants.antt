use Rattle.std.proofs.Common.{◌≡◌, ◌++◌, ◌-◌, ◌≤◌, length, drop}
use Rattle.kiss.proofs.Names.{option_map, unescape}
use Rattle.kiss.proofs.whole.unescaped.Given as goal

abbrev pub invariant-loop-at : goal.invariant-loop-at
invariant-loop-at l = record {
  read : option_map (λ octets. l.text.items ++ octets) (unescape (drop l.at l.piece)) ≡ unescape l.piece;
  in_range : l.at ≤ length l.piece;
}

abbrev pub decreases-loop-at : goal.decreases-loop-at
decreases-loop-at l = length l.piece - l.at
