use Rattle.air_rehearsal.proofs.Names.{cuts_by, event_value, clients_of}
use Rattle.air_rehearsal.proofs.PlayApart.{goes_taken}
use Rattle.air_rehearsal.proofs.PlayParts.{on_ok}
use Rattle.air_rehearsal.proofs.stations.Stations.go_at_client.Goals as goal

pub returns-in_ok-c-in_default : goal.returns-in_ok-c-in_default
returns-in_ok-c-in_default g c =
    record {
      clients = c.take_part.ensures.clients;
      me = c.take_part.ensures.me;
      k = c.take_part.ensures.k;
      goes =
          on_ok c.take_part.result _ _ c.take_part.ensures.took
          (goes_taken g.B.Disk
          (cuts_by g.B.CutDisk.restarts g.B.CutDisk.arming g.B.CutDisk.plain g.B.CutDisk.is_starved) c.sound_law.ensures
          g.met.B.Disk.content_is_image g.met.B.Disk.counts_now
          (clients_of c.args.self.now c.args.disks.now)
          (clients_of c.take_part.new.self c.take_part.new.disks) (event_value c.args.event.now)
          c.in_ok-c-in_default.c c.in_ok-c-in_default.part c.in_ok-c-in_default.ensures);
    }
