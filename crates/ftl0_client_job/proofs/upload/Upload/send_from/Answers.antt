use Rattle.std.proofs.Common.{rules}
use Rattle.ftl0_client_job.proofs.NotingLemmas.{noted-none}
use Rattle.ftl0_client_job.proofs.upload.Upload.send_from.Goals as goal

pub returns-then-not-may_go : goal.returns-then-not-may_go
returns-then-not-may_go g c =
    let none = noted-none g.D.Disk c.args.notes.now c.args.disk.now c.requires.ready (g.met.D.Disk.lasts_same c.args.disk.now) in search rules
