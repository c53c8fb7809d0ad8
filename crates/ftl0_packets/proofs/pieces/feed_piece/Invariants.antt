use Rattle.std.proofs.Common.{◌≡◌, ℕ, List, [], ◌++◌, length}
use Rattle.ftl0_packets.proofs.Names.{TakesAll, packets_of, rest_of, under_way}
use Rattle.ftl0_packets.proofs.pieces.feed_piece.Given as goal

-- whatever comes later, the packets so far and those that are left are those of the whole piece
abbrev pub invariant-loop-octets : goal.invariant-loop-octets
invariant-loop-octets g l =
    record {
      packets :
          (later : List ℕ) (end : g.row.S.Denot)
          → TakesAll g.S.PacketSink.takes l.sink (packets_of (under_way l.reader ++ (l.octets ++ later))) end
          → TakesAll g.S.PacketSink.takes l.initial.sink (packets_of (under_way l.initial.reader ++ (l.piece ++ later))) end;
      rest : (later : List ℕ) → rest_of (under_way l.reader ++ (l.octets ++ later)) ≡ rest_of (under_way l.initial.reader ++ (l.piece ++ later));
      none : packets_of (under_way l.initial.reader) ≡ [] → packets_of (under_way l.reader) ≡ [];
      left : rest_of (under_way l.initial.reader) ≡ under_way l.initial.reader → rest_of (under_way l.reader) ≡ under_way l.reader;
    }

abbrev pub decreases-loop-octets : goal.decreases-loop-octets
decreases-loop-octets g l = length l.octets
