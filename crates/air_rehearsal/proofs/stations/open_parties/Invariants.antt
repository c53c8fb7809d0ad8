-- The clients so far are opened, each over its disk, and ready.
use Rattle.air_rehearsal.proofs.Names.{cuts_by, OpensFirst, AreReady}
use Rattle.air_rehearsal.proofs.stations.open_parties.Given as goal

abbrev pub invariant-loop-c : goal.invariant-loop-c
invariant-loop-c g l =
    record {
      ready : AreReady g.B.Disk l.parties.items l.disks;
      opens :
          OpensFirst g.B.Disk (cuts_by g.B.CutDisk.restarts g.B.CutDisk.arming g.B.CutDisk.plain g.B.CutDisk.is_starved)
          l.server l.k l.c l.calls l.fn.disks l.disks l.parties.items;
    }
