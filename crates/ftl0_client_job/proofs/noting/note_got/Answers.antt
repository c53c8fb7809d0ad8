use Rattle.ftl0_client_job.proofs.Names.{got}
use Rattle.ftl0_client_job.proofs.NotingLemmas.{noting-noted}
use Rattle.ftl0_client_job.proofs.noting.note_got.Goals as goal

pub returns : goal.returns
returns g c =
    noting-noted g.D.Disk c.args.notes.now c.got.new.self c.args.disk.now c.got.new.disk (got c.args.server c.args.number c.args.octets.now) c.got.result c.answer_of_noting.result c.requires.ready
    (g.met.D.Disk.lasts_same c.args.disk.now) c.got.ensures c.answer_of_noting.ensures
