-- The file isn't loaded, or the recovery is refused; or the task isn't started, or the file was acknowledged before; or it
-- is uploaded.
use Rattle.std.proofs.Common.{ℕ, refl, sym, ap, ◌∙◌, subst, ◌≡◌, rules}
use Rattle.std.proofs.lemmas.Result.{err_from_is_err_and}
use Rattle.client_notes.specs.declared.answers.Begun.TheVariants as begun
use Rattle.uploader.specs.declared.stop.SendStop.TheVariants as stop
use Rattle.uploader.proofs.Names.{Result, Ok, Err, lent, seen, SendStop, Sent, HasCauses, sum_of, stop_of_start}
use Rattle.uploader.proofs.CarryLemmas.{causes-still, ok-never}
use Rattle.uploader.proofs.SendLemmas.{SendsAll, already-all, asked-is, does-first, does-going, fresh-task-for, going-task-for, made-upload, may-carry, refused-all, runs_still, started, unfit-never, upload-all}
use Rattle.uploader.proofs.StartLemmas.{refused_exactly}
use Rattle.uploader.proofs.sending.send.Goals as goal

pub returns-in_err-file-clause-causes : goal.returns-in_err-file-clause-causes
returns-in_err-file-clause-causes g c =
    let see = seen g.D.Disk g.A.Air g.C.Clock.given in
    let old = lent c.args.disk.now c.args.air.now c.args.clock.now in
    let why = c.in_err-file.field-0.0 in
    let left = err_from_is_err_and c.from_residual.result c.from_residual.ensures.1 in
    let other = unfit-never (g.S.Shelf.held c.args.shelf.now) c.args.name.now why in
    let unfit = c.in_err-file.ensures.loads in
    subst (λ (r : Result Sent SendStop). HasCauses see old old r) (sym (left.1 ∙ ap Err left.2))
    (causes-still see old old (Err why) (other stop.AirRead unfit (λ no. no)) (other stop.AirWrite unfit (λ no. no)) refl
    (runs_still g.D.Disk _ c.args.disk.now (other stop.Disk unfit (λ no. no)) (g.met.D.Disk.lasts_same c.args.disk.now)))

pub returns-in-Already : goal.returns-in-Already
returns-in-Already g c =
    let see = seen g.D.Disk g.A.Air g.C.Clock.given in
    let h = c.in-Ok.ensures in
    let s = started g.D.Disk c.args.terms.now c.args.name.now c.in_ok-file.file c.args.disk.now c.recover_client.new.disk c.start_task.new.disk c.in_ok-client.client c.start_task.new.self c.in_ok-client.ensures.recovers h.same h.starts
    c.sum_of_file-sum.result (c.sum_of_file-sum.ensures ∙ ap sum_of c.as_slice.ensures) (Ok c.in-Ok.begun) (Ok (begun.Already c.in-Already.number)) (ap Ok c.in-Already.is) (record { answers = h.answers; untouched = h.untouched; does = h.does }) in
    let all = subst (λ (n : ℕ). SendsAll see (lent c.args.disk.now c.args.air.now c.args.clock.now) (lent c.start_task.new.disk c.args.air.now c.args.clock.now) (g.S.Shelf.held c.args.shelf.now) (g.S.Shelf.faults c.args.shelf.now)
    (g.S.Shelf.faults c.load_file.new.shelf) c.args.terms.now c.args.name.now (Ok (record { number = n }))) (sym refl) (already-all see g.met.D.Disk.lasts_same g.met.D.Disk.lasts_on (lent c.args.disk.now c.args.air.now c.args.clock.now) c.args.terms.now c.args.name.now c.in_ok-file.file (g.S.Shelf.held c.args.shelf.now) (g.S.Shelf.faults c.args.shelf.now)
    (g.S.Shelf.faults c.load_file.new.shelf) c.in_ok-file.ensures.loads c.in_ok-file.ensures.sendable (c.in_ok-file.ensures.cause.same (ok-never _ stop.Shelf)) c.start_task.new.disk (record { number = c.in-Already.number }) s) in
    record { file = all.file_is; notes = all.notes; ends = all.ends; held = c.in_ok-file.ensures.held; shelf = all.shelf; causes = all.causes_are }

pub returns-in-Err : goal.returns-in-Err
returns-in-Err g c =
    let see = seen g.D.Disk g.A.Air g.C.Clock.given in
    let h = c.in-Err.ensures in
    let s = started g.D.Disk c.args.terms.now c.args.name.now c.in_ok-file.file c.args.disk.now c.recover_client.new.disk c.start_task.new.disk c.in_ok-client.client c.start_task.new.self c.in_ok-client.ensures.recovers h.same h.starts
    c.sum_of_file-sum.result (c.sum_of_file-sum.ensures ∙ ap sum_of c.as_slice.ensures) (Err c.in-Err.refusal) (Err c.in-Err.refusal) (refl) (record { answers = h.answers; untouched = h.untouched; does = h.does }) in
    let why = c.stop_of_refusal.ensures ∙ ap (λ s. stop_of_start s c.in-Err.refusal) (c.sum_of_file-sum.ensures ∙ ap sum_of c.as_slice.ensures) in
    let all = subst (λ w. SendsAll see (lent c.args.disk.now c.args.air.now c.args.clock.now) (lent c.start_task.new.disk c.args.air.now c.args.clock.now) (g.S.Shelf.held c.args.shelf.now) (g.S.Shelf.faults c.args.shelf.now)
    (g.S.Shelf.faults c.load_file.new.shelf) c.args.terms.now c.args.name.now (Err w)) (sym why) (refused-all see g.met.D.Disk.lasts_same g.met.D.Disk.lasts_on (lent c.args.disk.now c.args.air.now c.args.clock.now) c.args.terms.now c.args.name.now c.in_ok-file.file (g.S.Shelf.held c.args.shelf.now) (g.S.Shelf.faults c.args.shelf.now)
    (g.S.Shelf.faults c.load_file.new.shelf) c.in_ok-file.ensures.loads c.in_ok-file.ensures.sendable (c.in_ok-file.ensures.cause.same (ok-never _ stop.Shelf)) c.start_task.new.disk c.in-Err.refusal s) in
    record { file = all.file_is; notes = all.notes; ends = all.ends; held = c.in_ok-file.ensures.held; shelf = all.shelf; causes = all.causes_are }

pub returns-in-Fresh : goal.returns-in-Fresh
returns-in-Fresh g c =
    let see = seen g.D.Disk g.A.Air g.C.Clock.given in
    let h = c.in-Ok.ensures in
    let s = started g.D.Disk c.args.terms.now c.args.name.now c.in_ok-file.file c.args.disk.now c.recover_client.new.disk c.start_task.new.disk c.in_ok-client.client c.start_task.new.self c.in_ok-client.ensures.recovers h.same h.starts
    c.sum_of_file-sum.result (c.sum_of_file-sum.ensures ∙ ap sum_of c.as_slice.ensures) (Ok c.in-Ok.begun) (Ok (begun.Fresh c.in-Fresh.task)) (ap Ok c.in-Fresh.is) (record { answers = h.answers; untouched = h.untouched; does = h.does }) in
    let all = upload-all see g.met.D.Disk.lasts_same g.met.D.Disk.lasts_on (lent c.args.disk.now c.args.air.now c.args.clock.now) c.args.terms.now c.args.name.now c.in_ok-file.file (g.S.Shelf.held c.args.shelf.now) (g.S.Shelf.faults c.args.shelf.now)
    (g.S.Shelf.faults c.load_file.new.shelf) c.in_ok-file.ensures.loads c.in_ok-file.ensures.sendable (c.in_ok-file.ensures.cause.same (ok-never _ stop.Shelf)) c.start_task.new.disk
    (lent c.upload-client.new.disk c.upload-client.new.air c.upload-client.new.clock) (Ok (begun.Fresh c.in-Fresh.task)) s c.in-Fresh.task 0 _ (does-first g.D.Disk g.met.D.Disk.lasts_same c.args.terms.now c.args.name.now c.in_ok-file.file c.args.disk.now c.start_task.new.disk c.in-Fresh.task s) (fresh-task-for g.D.Disk g.met.D.Disk.lasts_same c.args.terms.now c.args.name.now c.in_ok-file.file c.args.disk.now c.start_task.new.disk c.in-Fresh.task s)
    c.upload-client.result.0 c.upload-job.result (made-upload _ c.in-Fresh.task 0 _ _ c.in_ok-file.file c.upload-job.ensures refl c.new.ensures) c.upload-client.result.1 (c.upload-client.ensures.uploaded _ (asked-is g.D.Disk g.met.D.Disk.lasts_same c.args.terms.now c.args.name.now c.in_ok-file.file c.args.disk.now c.start_task.new.disk (Ok (begun.Fresh c.in-Fresh.task)) s)) in
    record { file = all.file_is; notes = all.notes; ends = all.ends; held = c.in_ok-file.ensures.held; shelf = all.shelf; causes = all.causes_are }

pub upload-client-requires-clause-may : goal.upload-client-requires-clause-may
upload-client-requires-clause-may g c =
    let h = c.in-Ok.ensures in
    let s = started g.D.Disk c.args.terms.now c.args.name.now c.in_ok-file.file c.args.disk.now c.recover_client.new.disk c.start_task.new.disk c.in_ok-client.client c.start_task.new.self c.in_ok-client.ensures.recovers h.same h.starts
    c.sum_of_file-sum.result (c.sum_of_file-sum.ensures ∙ ap sum_of c.as_slice.ensures) (Ok c.in-Ok.begun) (Ok c.in-Ok.begun) (refl) (record { answers = h.answers; untouched = h.untouched; does = h.does }) in
    may-carry g.D.Disk g.met.D.Disk.lasts_same c.args.terms.now c.args.name.now c.in_ok-file.file c.args.disk.now c.start_task.new.disk (Ok c.in-Ok.begun) s (h.may (λ e. cc e))

pub returns-in-Going : goal.returns-in-Going
returns-in-Going g c =
    let see = seen g.D.Disk g.A.Air g.C.Clock.given in
    let h = c.in-Ok.ensures in
    let s = started g.D.Disk c.args.terms.now c.args.name.now c.in_ok-file.file c.args.disk.now c.recover_client.new.disk c.start_task.new.disk c.in_ok-client.client c.start_task.new.self c.in_ok-client.ensures.recovers h.same h.starts
    c.sum_of_file-sum.result (c.sum_of_file-sum.ensures ∙ ap sum_of c.as_slice.ensures) (Ok c.in-Ok.begun) (Ok (begun.Going c.in-Going.task c.in-Going.number)) (ap Ok c.in-Going.is) (record { answers = h.answers; untouched = h.untouched; does = h.does }) in
    let all = upload-all see g.met.D.Disk.lasts_same g.met.D.Disk.lasts_on (lent c.args.disk.now c.args.air.now c.args.clock.now) c.args.terms.now c.args.name.now c.in_ok-file.file (g.S.Shelf.held c.args.shelf.now) (g.S.Shelf.faults c.args.shelf.now)
    (g.S.Shelf.faults c.load_file.new.shelf) c.in_ok-file.ensures.loads c.in_ok-file.ensures.sendable (c.in_ok-file.ensures.cause.same (ok-never _ stop.Shelf)) c.start_task.new.disk
    (lent c.upload-client-in-Going.new.disk c.upload-client-in-Going.new.air c.upload-client-in-Going.new.clock) (Ok (begun.Going c.in-Going.task c.in-Going.number)) s c.in-Going.task c.in-Going.number _ (does-going g.D.Disk g.met.D.Disk.lasts_same c.args.terms.now c.args.name.now c.in_ok-file.file c.args.disk.now c.start_task.new.disk c.in-Going.task c.in-Going.number s) (going-task-for g.D.Disk g.met.D.Disk.lasts_same c.args.terms.now c.args.name.now c.in_ok-file.file c.args.disk.now c.start_task.new.disk c.in-Going.task c.in-Going.number s)
    c.upload-client-in-Going.result.0 c.upload-job-in-Going.result (made-upload _ c.in-Going.task c.in-Going.number _ _ c.in_ok-file.file c.upload-job-in-Going.ensures refl refl) c.upload-client-in-Going.result.1 (c.upload-client-in-Going.ensures.uploaded _ (asked-is g.D.Disk g.met.D.Disk.lasts_same c.args.terms.now c.args.name.now c.in_ok-file.file c.args.disk.now c.start_task.new.disk (Ok (begun.Going c.in-Going.task c.in-Going.number)) s)) in
    record { file = all.file_is; notes = all.notes; ends = all.ends; held = c.in_ok-file.ensures.held; shelf = all.shelf; causes = all.causes_are }

pub upload-client-requires-in-Going-clause-may : goal.upload-client-requires-in-Going-clause-may
upload-client-requires-in-Going-clause-may g c =
    let h = c.in-Ok.ensures in
    let s = started g.D.Disk c.args.terms.now c.args.name.now c.in_ok-file.file c.args.disk.now c.recover_client.new.disk c.start_task.new.disk c.in_ok-client.client c.start_task.new.self c.in_ok-client.ensures.recovers h.same h.starts
    c.sum_of_file-sum.result (c.sum_of_file-sum.ensures ∙ ap sum_of c.as_slice.ensures) (Ok c.in-Ok.begun) (Ok c.in-Ok.begun) (refl) (record { answers = h.answers; untouched = h.untouched; does = h.does }) in
    may-carry g.D.Disk g.met.D.Disk.lasts_same c.args.terms.now c.args.name.now c.in_ok-file.file c.args.disk.now c.start_task.new.disk (Ok c.in-Ok.begun) s (h.may (λ e. cc e))

pub returns-in_err-client-clause-notes : goal.returns-in_err-client-clause-notes
returns-in_err-client-clause-notes g c =
    let stopped : c.from_residual-in_err-client.result ≡ Err c.in_err-client.field-0.0 = search rules in
    λ past. refused_exactly g.D.Disk c.args.disk.now c.recover_client.new.disk c.in_err-client.field-0.0 c.from_residual-in_err-client.result stopped c.in_err-client.ensures.stops
