use Rattle.std.proofs.Common.{◌∙◌, Err, Ok, ap, sym, subst}
use Rattle.std.proofs.lemmas.Result.{err_from_is_err_and}
use Rattle.ftl0_client_job.specs.declared.work.Work.TheVariants as work
use Rattle.ftl0_client_job.proofs.Names.{value_of, Work, packet_row, TakesRow, with_notes}
use Rattle.ftl0_client_job.proofs.JobLemmas.{takes-list, takes-no-list}
use Rattle.ftl0_client_job.proofs.work.Work.take.Goals as goal

pub returns-in_ok-take-in-Directory-clause-takes : goal.returns-in_ok-take-in-Directory-clause-takes
returns-in_ok-take-in-Directory-clause-takes g c =
    let P : Work → Type 0 = λ w. TakesRow g.D.Disk (packet_row c.args.notes.now.lists w (value_of c.args.packet.now)) (with_notes w c.args.notes.now c.args.disk.now) (with_notes (work.Directory c.take-in-Directory.new.self) c.args.notes.now c.args.disk.now) c.take-in-Directory.new.replies.items (Ok c.in_ok-take-in-Directory.field-0) in
    subst P (sym c.in-Directory.is)
    (takes-list g.D.Disk c.in-Directory.at c.take-in-Directory.new.self (value_of c.args.packet.now) c.args.notes.now c.args.disk.now c.take-in-Directory.new.replies.items
    c.in_ok-take-in-Directory.field-0 c.requires.may.ready (g.met.D.Disk.lasts_same c.args.disk.now) c.in_ok-take-in-Directory.ensures)

pub returns-in_err-take-in-Directory-clause-takes : goal.returns-in_err-take-in-Directory-clause-takes
returns-in_err-take-in-Directory-clause-takes g c =
    let P : Work → Type 0 = λ w. TakesRow g.D.Disk (packet_row c.args.notes.now.lists w (value_of c.args.packet.now)) (with_notes w c.args.notes.now c.args.disk.now) (with_notes (work.Directory c.take-in-Directory.new.self) c.args.notes.now c.args.disk.now) c.take-in-Directory.new.replies.items c.from_residual.result in
    let p = err_from_is_err_and c.from_residual.result c.from_residual.ensures.1 in
    subst P (sym c.in-Directory.is)
    (takes-no-list g.D.Disk c.in-Directory.at c.take-in-Directory.new.self (value_of c.args.packet.now) c.args.notes.now c.args.disk.now c.take-in-Directory.new.replies.items c.from_residual.result
    c.requires.may.ready (g.met.D.Disk.lasts_same c.args.disk.now) c.in_err-take-in-Directory.ensures.0 c.in_err-take-in-Directory.ensures.1 (p.1 ∙ ap Err p.2))
