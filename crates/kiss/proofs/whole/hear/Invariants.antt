use Rattle.std.proofs.Common.{◌≡◌, ℕ, List, [], ◌++◌, drop}
use Rattle.kiss.proofs.Names.{kiss_parts}
use Rattle.kiss.proofs.whole.hear.Given as goal

abbrev pub invariant-loop-octet : goal.invariant-loop-octet
invariant-loop-octet l = record {
  ended : (later : List ℕ) → l.parts.items ++ kiss_parts (l.reader.heard ++ (drop l.octet-index l.piece ++ later))
      ≡ l.fn.parts.items ++ kiss_parts (l.fn.reader.heard ++ (l.piece ++ later));
  no_part : kiss_parts l.reader.heard ≡ [];
}
