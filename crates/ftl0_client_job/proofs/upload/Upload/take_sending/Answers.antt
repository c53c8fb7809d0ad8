use Rattle.std.proofs.Common.{rules}
use Rattle.ftl0_client_job.proofs.NotingLemmas.{noted-none}
use Rattle.ftl0_client_job.proofs.upload.Upload.take_sending.Goals as goal

pub returns-in_default : goal.returns-in_default
returns-in_default g c =
    let none = noted-none g.D.Disk c.args.notes.now c.args.disk.now c.requires.may.ready (g.met.D.Disk.lasts_same c.args.disk.now) in search rules
