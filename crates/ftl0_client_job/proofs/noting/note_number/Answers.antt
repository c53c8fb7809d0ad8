use Rattle.ftl0_client_job.proofs.Names.{numbered}
use Rattle.ftl0_client_job.proofs.NotingLemmas.{answers-at-once}
use Rattle.ftl0_client_job.proofs.noting.note_number.Goals as goal

pub returns : goal.returns
returns g c = answers-at-once g.D.Disk c.args.notes.now c.numbered.new.self c.args.disk.now c.numbered.new.disk (numbered c.args.task c.args.number) c.numbered.result c.answer_of.result c.numbered.ensures c.answer_of.ensures
