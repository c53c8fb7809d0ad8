use Rattle.ftl0_client_job.proofs.Names.{acked}
use Rattle.ftl0_client_job.proofs.NotingLemmas.{answers-at-once}
use Rattle.ftl0_client_job.proofs.noting.note_acked.Goals as goal

pub returns : goal.returns
returns g c = answers-at-once g.D.Disk c.args.notes.now c.acked.new.self c.args.disk.now c.acked.new.disk (acked c.args.task) c.acked.result c.answer_of.result c.acked.ensures c.answer_of.ensures
