-- The tasks of the clients so far are counted, and nothing but reads was made.
use Rattle.std.specs.Prelude.{◌≡◌}
use Rattle.air_rehearsal.proofs.Names.{take, flat_map, IsKnown, store_on, Sound, World, CountsAcked, LooksOnly, tasks_of, PlaysStations}
use Rattle.air_rehearsal.proofs.stations.Stations.count_all.Given as goal

abbrev pub invariant-loop-party : goal.invariant-loop-party
invariant-loop-party g l =
    record {
      looks : LooksOnly g.D.Disk l.fn.store l.store l.fn.disk l.disk;
      counts :
          (world : World) → Sound world → PlaysStations l.self world → IsKnown g.D.Disk l.fn.disk
          → store_on g.D.Disk l.fn.store l.fn.disk ≡ world.server.store
          → CountsAcked (flat_map tasks_of (take l.party-index world.parties)) l.fn.report l.report;
    }
