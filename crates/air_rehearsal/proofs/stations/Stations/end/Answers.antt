-- The recovered store is the world's, and nothing but reads was made behind the recovery.
use Rattle.air_rehearsal.proofs.EndLemmas.{ends-so, recovered-known, recovered-store}
use Rattle.air_rehearsal.proofs.stations.Stations.end.Goals as goal

pub returns-clause-ends : goal.returns-clause-ends
returns-clause-ends g c world sound plays blocks stands =
    let recovered = c.in-Ok.ensures.recovered in
    let same =
    recovered-store g.D.Disk world c.args.disk.now c.recover.new.disk c.in-Ok.store blocks stands recovered
    in
    let known =
    recovered-known g.D.Disk world c.args.disk.now c.recover.new.disk stands c.recover.ensures.runs.told
    in
    ends-so g.D.Disk g.met.D.Disk.lasts_on g.met.D.Disk.content_is_image g.met.D.Disk.counts_now world c.args.disk.now
    c.recover.new.disk c.count_all.new.disk c.in-Ok.store c.count_all.new.store c.args.self.now.report
    c.count_all.new.report stands recovered
    (record {
      told = c.recover.ensures.runs.told;
      since = c.recover.ensures.since_start;
      quiet = recovered.quiet;
      lasts = c.recover.ensures.runs.lasts;
    })
    c.count_all.ensures.looks same (c.in_ok-count_all.ensures.counts world sound plays known same)

pub returns-in_err-count_all-clause-lasts : goal.returns-in_err-count_all-clause-lasts
returns-in_err-count_all-clause-lasts g c =
    g.met.D.Disk.lasts_on c.args.disk.now c.recover.new.disk c.count_all.new.disk c.recover.ensures.runs.lasts
    c.count_all.ensures.looks.lasts

pub returns-clause-lasts : goal.returns-clause-lasts
returns-clause-lasts g c =
    g.met.D.Disk.lasts_on c.args.disk.now c.recover.new.disk c.count_all.new.disk c.recover.ensures.runs.lasts
    c.count_all.ensures.looks.lasts
