use Rattle.std.proofs.Common.{rules}
use Rattle.ftl0_client_job.proofs.NotingLemmas.{noted-none}
use Rattle.ftl0_client_job.proofs.download.Download.end_by_error.Goals as goal

pub returns : goal.returns
returns g c =
    let none = noted-none g.D.Disk c.args.notes.now c.args.disk.now c.requires (g.met.D.Disk.lasts_same c.args.disk.now) in search rules
