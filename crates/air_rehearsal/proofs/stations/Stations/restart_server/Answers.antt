-- The server that starts is a new one, over the store that its disk holds then.
use Rattle.air_rehearsal.proofs.Names.{store_on, stands-each}
use Rattle.air_rehearsal.proofs.stations.Stations.restart_server.Goals as goal

pub returns-in-Ok-clause-restarts : goal.returns-in-Ok-clause-restarts
returns-in-Ok-clause-restarts g c =
    let recovered = c.in-Ok.ensures.recovered in
    let ready = recovered.ready in
    record {
      is_new = c.in-Ok.ensures.server (store_on g.B.Disk c.in-Ok.server.store c.start.new.disk);
      stood = recovered.content;
      stands = stands-each g.B.Disk c.in-Ok.server.store c.start.new.disk ready.healthy ready.stands_on;
      again = record {
        told = c.in-Ok.ensures.runs.told;
        since = c.in-Ok.ensures.since_start;
        quiet = recovered.quiet;
        lasts = c.in-Ok.ensures.runs.lasts;
      };
    }
