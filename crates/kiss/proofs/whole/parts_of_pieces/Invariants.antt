use Rattle.std.proofs.Common.{◌≡◌, ℕ, List, [], ◌++◌, take}
use Rattle.kiss.proofs.Names.{flat_map, kiss_parts}
use Rattle.kiss.proofs.whole.parts_of_pieces.Given as goal

abbrev pub invariant-loop-piece : goal.invariant-loop-piece
invariant-loop-piece l = record {
  ended : (later : List ℕ) → l.parts.items ++ kiss_parts (l.reader.heard ++ later)
      ≡ kiss_parts (flat_map (λ piece. piece) (take l.piece-index l.pieces) ++ later);
  no_part : kiss_parts l.reader.heard ≡ [];
}
