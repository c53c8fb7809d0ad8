use Rattle.std.proofs.Common.{rules}
use Rattle.ftl0_client_job.proofs.NotingLemmas.{noted-none}
use Rattle.ftl0_client_job.proofs.download.note_rest.Goals as goal

pub returns-then-is_empty : goal.returns-then-is_empty
returns-then-is_empty g c =
    let none = noted-none g.D.Disk c.args.notes.now c.args.disk.now c.requires.ready (g.met.D.Disk.lasts_same c.args.disk.now) in search rules
