use Rattle.std.proofs.Common.{◌≡◌, length, take}
use Rattle.pfh_reader.proofs.Names.{joined, HasFed, fed_len}
use Rattle.pfh_reader.proofs.pieces.check_pieces.Given as goal

-- the pieces so far were fed
abbrev pub invariant-loop-piece : goal.invariant-loop-piece
invariant-loop-piece l =
    record {
      fed : HasFed l.checker (joined (take l.piece-index l.pieces));
      len : fed_len l.checker ≡ length (joined (take l.piece-index l.pieces));
    }
