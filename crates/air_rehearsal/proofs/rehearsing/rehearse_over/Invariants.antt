-- What was played so far: the first of the schedule's events, so many as the loop has seen.
use Rattle.std.specs.Prelude.{◌≡◌, ◌+◌, ◌∷◌}
use Rattle.air_rehearsal.proofs.Names.{length, take, cuts_by, bench_of, AreReady, IsReadyServer, until, CanCount}
use Rattle.air_rehearsal.proofs.WholePlay.{PlayedSome}
use Rattle.air_rehearsal.proofs.rehearsing.rehearse_over.Given as goal

abbrev pub invariant-loop-event : goal.invariant-loop-event
invariant-loop-event g l =
    record {
      server : IsReadyServer g.B.Disk l.stations l.server l.disk;
      clients : AreReady g.B.Disk l.stations.parties.items l.disks;
      played :
          CanCount g.B.Disk l.disk
          → PlayedSome g.B.Disk (cuts_by g.B.CutDisk.restarts g.B.CutDisk.arming g.B.CutDisk.plain g.B.CutDisk.is_starved)
          (until (take l.event-index l.schedule.events) l.schedule) (l.fn.disk ∷ l.fn.disks)
          (bench_of l.stations l.server l.disk l.disks);
      line : l.line ≡ 2 + length l.schedule.calls + l.event-index;
    }
