use Rattle.std.proofs.Common.{◌≡◌, ℕ, List, [], ◌++◌, take, flat_map}
use Rattle.ftl0_packets.proofs.Names.{IsOctets, TakesAll, packets_of, rest_of, under_way}
use Rattle.ftl0_packets.proofs.pieces.feed_pieces.Given as goal

-- whatever comes later, the packets so far and those that are left are those of the pieces so far
abbrev pub invariant-loop-piece : goal.invariant-loop-piece
invariant-loop-piece g l =
    record {
      packets :
          (later : List ℕ) (end : g.row.S.Denot)
          → TakesAll g.S.PacketSink.takes l.sink (packets_of (under_way l.reader ++ later)) end
          → TakesAll g.S.PacketSink.takes l.initial.sink (packets_of (flat_map (λ (piece : List ℕ). piece) (take l.piece-index l.pieces) ++ later)) end;
      rest :
          (later : List ℕ)
          → rest_of (under_way l.reader ++ later) ≡ rest_of (flat_map (λ (piece : List ℕ). piece) (take l.piece-index l.pieces) ++ later);
      none : packets_of (under_way l.reader) ≡ [];
      left : rest_of (under_way l.reader) ≡ under_way l.reader;
      octets : IsOctets (flat_map (λ (piece : List ℕ). piece) (take l.piece-index l.pieces));
    }
