-- The tasks so far are counted, and nothing but reads was made.
use Rattle.air_rehearsal.proofs.Names.{map, range_with_len, CountsAcked, IsAtEnd, LooksOnly, Seat}
use Rattle.air_rehearsal.proofs.stations.Stations.count_tasks.Given as goal

abbrev pub invariant-loop-before : goal.invariant-loop-before
invariant-loop-before g l =
    record {
      looks : LooksOnly g.D.Disk l.fn.store l.store l.fn.disk l.disk;
      counts :
          (seat : Seat) → IsAtEnd g.D.Disk l.self l.party l.fn.store l.fn.disk seat
          → CountsAcked (map (λ task. record { party = seat.party; task = task }) (range_with_len 1 l.before))
          l.fn.report l.report;
    }
