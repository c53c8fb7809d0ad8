use Rattle.std.proofs.Common.{◌≡◌, take, drop}
use Rattle.pfh_writer.proofs.Names.{flat_map, HasStamped}
use Rattle.pfh_writer.proofs.pieces.stamp_pieces.Given as goal

-- so many pieces were stamped, and the others are as they were
abbrev pub invariant-loop-piece : goal.invariant-loop-piece
invariant-loop-piece l = record {
  stamp : l.stamper.stamp ≡ l.initial.stamper.stamp;
  sum : l.stamper.sum ≡ l.initial.stamper.sum;
  passed : HasStamped l.stamper (flat_map (λ piece. piece.items) (take l.piece-index l.initial.pieces)) (flat_map (λ piece. piece.items) (take l.piece-index l.pieces));
  rest : drop l.piece-index l.pieces ≡ drop l.piece-index l.initial.pieces;
}
