use Rattle.std.proofs.Common.{rules}
use Rattle.ftl0_client_job.proofs.NotingLemmas.{noted-none}
use Rattle.ftl0_client_job.proofs.upload.Upload.note_number.Goals as goal

pub returns-else-is_new : goal.returns-else-is_new
returns-else-is_new g c =
    let none = noted-none g.D.Disk c.args.notes.now c.args.disk.now c.requires.go.ready (g.met.D.Disk.lasts_same c.args.disk.now) in search rules
