-- The task of the file is begun, and then its upload is asked.
use Rattle.std.proofs.Common.{sym, subst, ap, ◌∙◌, List, ℕ}
use Rattle.ftl0_client_job.specs.declared.work.Work.TheVariants as work
use Rattle.ftl0_client_job.specs.Table.{new_job}
use Rattle.ftl0_client_job.specs.Upload.{new_upload}
use Rattle.air_rehearsal.proofs.Names.{AsksNext}
use Rattle.air_rehearsal.proofs.PartLemmas.{ok_then}
use Rattle.air_rehearsal.proofs.UploadLemmas.{begins_upload}
use Rattle.air_rehearsal.proofs.party.Party.ask_upload.Goals as goal

pub returns-clause-begins : goal.returns-clause-begins
returns-clause-begins g c =
    ok_then c.note_task.result _ _
    (λ uploads seat whole at_seat asked.
    let asked_so =
    subst (λ (file : List ℕ). AsksNext seat c.args.upload file whole) (sym c.as_slice.ensures) asked in
    begins_upload g.D.Disk c.args.self.now c.start.new.self c.note_task.new.self seat c.args.upload c.args.file whole
    c.in-Ok.task c.ask.new.self c.upload.result c.args.disk.now c.start.new.disk at_seat asked
    (c.in-Ok.ensures.touches seat whole at_seat asked_so) (c.in-Ok.ensures.starts seat whole at_seat asked_so)
    c.start.ensures.keeps c.in_ok-ask.ensures.asks
    (c.upload.ensures ∙ ap (λ (n : ℕ). new_job (work.Upload (new_upload c.in-Ok.task n c.args.file))) c.new.ensures)
    c.in_ok-ask.ensures.notes.notes
    c.note_task.ensures.keeps uploads)
    c.note_task.ensures.notes
