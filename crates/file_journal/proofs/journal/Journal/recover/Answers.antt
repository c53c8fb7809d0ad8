use Rattle.std.proofs.Common.{◌≡◌, inl, ◌+◌, ◌≤◌, Err, Ok, ◌∙◌, ap, arith}
use Rattle.file_journal.specs.declared.faults.RecoverFault.TheVariants as fault
use Rattle.file_journal.specs.declared.found.Found.{Found}
use Rattle.file_journal.proofs.Names.{IsRecovering, err_from_is_err_and, quiet_by_sync, alike_same, at_told, if_told, told_weaker}
use Rattle.file_journal.proofs.RecoverLemmas.{recovering_same, refuses_alike}
use Rattle.file_journal.proofs.BoundLemmas.{recovers_behind, recovers_none, recovery_stays, stays_on, stays_reads, stays_sync}
use Rattle.file_journal.proofs.LookingLemmas.{leaves_same, settled_calls, synced_calls, synced_first, synced_start}
use Rattle.file_journal.proofs.journal.Journal.recover.Goals as goal

pub returns-in_err-found-clause-since_sync : goal.returns-in_err-found-clause-since_sync
returns-in_err-found-clause-since_sync g c =
    let D = g.D.Disk in
    let old = c.args.disk.now in
    let synced = c.sync.new.self in
    let rest = quiet_by_sync D old synced c.sync.ensures.content c.in_ok-sync.ensures.durable c.in_ok-sync.ensures.moment.one c.sync.ensures.since_now in
    told_weaker (D.content old) _ _ (λ before told first. inl first)
    (synced_first D old synced c.look.new.disk c.look.new.disk (IsRecovering c.args.magic c.args.layout c.args.blocks) c.sync.ensures.content c.in_ok-sync.ensures.moment.one rest c.look.ensures.reads.only
    (recovering_same c.args.magic c.args.layout c.args.blocks) (leaves_same D c.look.new.disk _))

pub returns-in_err-journal-clause-since_sync : goal.returns-in_err-journal-clause-since_sync
returns-in_err-journal-clause-since_sync g c =
    let D = g.D.Disk in
    let old = c.args.disk.now in
    let synced = c.sync.new.self in
    let rest = quiet_by_sync D old synced c.sync.ensures.content c.in_ok-sync.ensures.durable c.in_ok-sync.ensures.moment.one c.sync.ensures.since_now in
    told_weaker (D.content old) _ _ (λ before told first. inl first)
    (synced_first D old synced c.look.new.disk c.settle.new.disk (IsRecovering c.args.magic c.args.layout c.args.blocks) c.sync.ensures.content c.in_ok-sync.ensures.moment.one rest c.look.ensures.reads.only
    (recovering_same c.args.magic c.args.layout c.args.blocks) c.settle.ensures.since)

pub returns-clause-since_sync : goal.returns-clause-since_sync
returns-clause-since_sync g c =
    let D = g.D.Disk in
    let old = c.args.disk.now in
    let synced = c.sync.new.self in
    let rest = quiet_by_sync D old synced c.sync.ensures.content c.in_ok-sync.ensures.durable c.in_ok-sync.ensures.moment.one c.sync.ensures.since_now in
    told_weaker (D.content old) _ _ (λ before told first. inl first)
    (synced_first D old synced c.look.new.disk c.settle.new.disk (IsRecovering c.args.magic c.args.layout c.args.blocks) c.sync.ensures.content c.in_ok-sync.ensures.moment.one rest c.look.ensures.reads.only
    (recovering_same c.args.magic c.args.layout c.args.blocks) c.settle.ensures.since)

pub returns-in_err-found-clause-refuses : goal.returns-in_err-found-clause-refuses
returns-in_err-found-clause-refuses g c healthy =
    let p = err_from_is_err_and c.from_residual-in_err-found.result c.from_residual-in_err-found.ensures.1 in
    let e = c.in_err-found.field-0.0 in
    let is : c.from_residual-in_err-found.result ≡ Err e = p.1 ∙ ap Err p.2 in
    if_told (g.D.Disk.content c.args.disk.now) _
    (λ before told. refuses_alike c.args.magic c.args.layout before {T = Found} (Err e) _
    (λ other. (λ same. let here : e ≡ other = cc same in is ∙ ap Err here, λ same. let here : e ≡ other = cc (is, same) in ap Err here))
    (at_told _ before (c.sync.ensures.content ∙ told) (c.in_err-found.ensures.refuses (λ disk. let here : e ≡ fault.Disk = cc disk in healthy (is ∙ ap Err here)))))

pub returns-clause-refuses : goal.returns-clause-refuses
returns-clause-refuses g c healthy =
    if_told (g.D.Disk.content c.args.disk.now) _ (λ before told.
    refuses_alike c.args.magic c.args.layout before (Ok c.in_ok-found.found) _ (λ e. (λ is. cc, λ is. cc))
    (at_told _ before (c.sync.ensures.content ∙ told) (c.in_ok-found.ensures.refuses (λ is. cc is))))

pub returns-in_err-sync-clause-within : goal.returns-in_err-sync-clause-within
returns-in_err-sync-clause-within g c =
    let disk = g.met.D.Disk in
    let old = c.args.disk.now in
    let synced = c.sync.new.self in
    recovers_none g.D.Disk c.args.layout c.args.blocks old synced (λ most.
    stays_sync g.D.Disk disk.counts_now disk.earlier disk.content_is_image most old synced (alike_same _ _ c.sync.ensures.content) c.sync.ensures.images c.sync.ensures.past)

pub returns-in_err-found-clause-within : goal.returns-in_err-found-clause-within
returns-in_err-found-clause-within g c =
    let disk = g.met.D.Disk in
    let old = c.args.disk.now in
    let synced = c.sync.new.self in
    let mid = c.look.new.disk in
    recovers_none g.D.Disk c.args.layout c.args.blocks old mid (λ most.
    stays_on g.D.Disk most old synced mid
    (stays_sync g.D.Disk disk.counts_now disk.earlier disk.content_is_image most old synced (alike_same _ _ c.sync.ensures.content) c.sync.ensures.images c.sync.ensures.past)
    (stays_reads g.D.Disk most synced mid c.look.ensures.reads.only))

pub returns-in_err-journal-clause-within : goal.returns-in_err-journal-clause-within
returns-in_err-journal-clause-within g c =
    let disk = g.met.D.Disk in
    let old = c.args.disk.now in
    let synced = c.sync.new.self in
    let mid = c.look.new.disk in
    recovers_behind g.D.Disk c.args.layout c.args.blocks old mid c.settle.new.disk (c.look.ensures.reads.only.same_content ∙ c.sync.ensures.content)
    (λ most.
    stays_on g.D.Disk most old synced mid
    (stays_sync g.D.Disk disk.counts_now disk.earlier disk.content_is_image most old synced (alike_same _ _ c.sync.ensures.content) c.sync.ensures.images c.sync.ensures.past)
    (stays_reads g.D.Disk most synced mid c.look.ensures.reads.only))
    (recovery_stays g.D.Disk disk.counts_now disk.earlier disk.content_is_image mid c.settle.new.disk c.settle.ensures.puts.told c.args.magic c.args.layout c.args.blocks c.settle.ensures.since)

pub returns-clause-within : goal.returns-clause-within
returns-clause-within g c =
    let disk = g.met.D.Disk in
    let old = c.args.disk.now in
    let synced = c.sync.new.self in
    let mid = c.look.new.disk in
    recovers_behind g.D.Disk c.args.layout c.args.blocks old mid c.settle.new.disk (c.look.ensures.reads.only.same_content ∙ c.sync.ensures.content)
    (λ most.
    stays_on g.D.Disk most old synced mid
    (stays_sync g.D.Disk disk.counts_now disk.earlier disk.content_is_image most old synced (alike_same _ _ c.sync.ensures.content) c.sync.ensures.images c.sync.ensures.past)
    (stays_reads g.D.Disk most synced mid c.look.ensures.reads.only))
    (recovery_stays g.D.Disk disk.counts_now disk.earlier disk.content_is_image mid c.settle.new.disk c.settle.ensures.puts.told c.args.magic c.args.layout c.args.blocks c.settle.ensures.since)

pub returns-in_err-sync-clause-calls : goal.returns-in_err-sync-clause-calls
returns-in_err-sync-clause-calls g c = synced_calls g.D.Disk c.args.magic c.args.layout c.args.blocks c.args.disk.now c.sync.new.self c.sync.ensures.moment.at_most

pub returns-in_err-found-clause-calls : goal.returns-in_err-found-clause-calls
returns-in_err-found-clause-calls g c =
    synced_calls g.D.Disk c.args.magic c.args.layout c.args.blocks c.args.disk.now c.look.new.disk (omega (arith, c.sync.ensures.moment.at_most, c.look.ensures.reads.only.same_moment))

pub returns-in_err-journal-clause-calls : goal.returns-in_err-journal-clause-calls
returns-in_err-journal-clause-calls g c =
    settled_calls g.D.Disk c.args.magic c.args.layout c.args.blocks c.args.disk.now c.sync.new.self c.look.new.disk c.settle.new.disk c.in_ok-found.found c.sync.ensures.moment.at_most c.sync.ensures.content c.look.ensures.reads.only
    c.in_ok-found.ensures.found c.settle.ensures.calls

pub returns-clause-calls : goal.returns-clause-calls
returns-clause-calls g c =
    settled_calls g.D.Disk c.args.magic c.args.layout c.args.blocks c.args.disk.now c.sync.new.self c.look.new.disk c.settle.new.disk c.in_ok-found.found c.sync.ensures.moment.at_most c.sync.ensures.content c.look.ensures.reads.only
    c.in_ok-found.ensures.found c.settle.ensures.calls

pub returns-clause-since_start : goal.returns-clause-since_start
returns-clause-since_start g c =
    synced_start g.D.Disk c.args.disk.now c.sync.new.self c.look.new.disk c.settle.new.disk _ c.sync.ensures.content c.in_ok-sync.ensures.durable c.sync.ensures.past c.look.ensures.reads.only
    (recovering_same c.args.magic c.args.layout c.args.blocks) c.settle.ensures.since
