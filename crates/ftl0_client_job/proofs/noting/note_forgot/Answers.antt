use Rattle.ftl0_client_job.proofs.Names.{forgot}
use Rattle.ftl0_client_job.proofs.NotingLemmas.{answers-noted}
use Rattle.ftl0_client_job.proofs.noting.note_forgot.Goals as goal

pub returns : goal.returns
returns g c =
    answers-noted g.D.Disk c.args.notes.now c.forgot.new.self c.args.disk.now c.forgot.new.disk (forgot c.args.server c.args.number) c.forgot.result c.answer_of.result c.forgot.ensures
    c.answer_of.ensures
