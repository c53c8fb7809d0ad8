use Rattle.std.proofs.Common.{Result, Err, Ok, refl, ◌∙◌, ap}
use Rattle.file_journal.specs.declared.faults.ReadFault.TheVariants as read
use Rattle.file_journal.proofs.Names.{⊤, ReadFault, err_from_is_err_and, reads_none, told_weaker}
use Rattle.file_journal.proofs.RestoringLemmas.{answers_read, answers_refused, restored, restored_at}
use Rattle.file_journal.proofs.LookingLemmas.{calls_reads}
use Rattle.file_journal.proofs.kept.Kept.recover.Goals as goal

pub returns-in_err-journal-clause-answers : goal.returns-in_err-journal-clause-answers
returns-in_err-journal-clause-answers g c =
    let p = err_from_is_err_and c.from_residual.result c.from_residual.ensures.1 in
    let made = rw c.magic.ensures at (rw c.layout.ensures at c.in_err-journal.ensures) in
    let ledger = g.L.Ledger in
    answers_refused g.D.Disk ledger.steps ledger.seen ledger.form g.met.L.Ledger.is_seen c.args.blocks c.args.disk.now c.recover.new.disk c.in_err-journal.field-0.0 _ (p.1 ∙ ap Err p.2)
    made.refuses made.untouched made.runs made.since_start made.since_sync made.within

pub returns-in_err-ledger-clause-answers : goal.returns-in_err-ledger-clause-answers
returns-in_err-ledger-clause-answers g c =
    let p = err_from_is_err_and c.from_residual-in_err-ledger.result c.from_residual-in_err-ledger.ensures.1 in
    let made = rw c.magic.ensures at (rw c.layout.ensures at c.in_ok-journal.ensures) in
    let ledger = g.L.Ledger in
    let reading : Result ⊤ ReadFault = Err read.OutOfMemory in
    answers_read g.D.Disk ledger.steps ledger.seen ledger.form g.met.L.Ledger.is_seen c.args.blocks g.met.D.Disk.lasts_on g.met.D.Disk.lasts_same c.args.disk.now c.recover.new.disk c.recover.new.disk c.in_ok-journal.journal
    (ledger.steps.fresh c.in_ok-journal.journal.blocks) (ledger.steps.fresh c.in_ok-journal.journal.blocks) reading _ (p.1 ∙ ap Err p.2) refl
    made.recovered made.refuses made.runs made.since_start made.since_sync made.within (λ healthy memory. absurd (memory refl)) (reads_none g.D.Disk c.recover.new.disk _ (λ was. cc was) (g.met.D.Disk.lasts_same c.recover.new.disk))

pub returns-in_err-read_into-clause-answers : goal.returns-in_err-read_into-clause-answers
returns-in_err-read_into-clause-answers g c =
    let p = err_from_is_err_and c.from_residual-in_err-read_into.result c.from_residual-in_err-read_into.ensures.1 in
    let made = rw c.magic.ensures at (rw c.layout.ensures at c.in_ok-journal.ensures) in
    let ledger = g.L.Ledger in
    answers_read g.D.Disk ledger.steps ledger.seen ledger.form g.met.L.Ledger.is_seen c.args.blocks g.met.D.Disk.lasts_on g.met.D.Disk.lasts_same c.args.disk.now c.recover.new.disk c.read_into.new.disk c.in_ok-journal.journal _ _
    (Err c.in_err-read_into.field-0.0) _ (p.1 ∙ ap Err p.2) (c.in_ok-ledger.ensures.state ∙ ap ledger.steps.fresh c.blocks-2.ensures.value)
    made.recovered made.refuses made.runs made.since_start made.since_sync made.within c.in_err-read_into.ensures.all c.in_err-read_into.ensures.reads

pub returns-clause-answers : goal.returns-clause-answers
returns-clause-answers g c =
    let made = rw c.magic.ensures at (rw c.layout.ensures at c.in_ok-journal.ensures) in
    let ledger = g.L.Ledger in
    answers_read g.D.Disk ledger.steps ledger.seen ledger.form g.met.L.Ledger.is_seen c.args.blocks g.met.D.Disk.lasts_on g.met.D.Disk.lasts_same c.args.disk.now c.recover.new.disk c.read_into.new.disk c.in_ok-journal.journal _ _
    (Ok c.in_ok-read_into.field-0) _ (_, refl) (c.in_ok-ledger.ensures.state ∙ ap ledger.steps.fresh c.blocks-2.ensures.value)
    made.recovered made.refuses made.runs made.since_start made.since_sync made.within c.in_ok-read_into.ensures.all c.in_ok-read_into.ensures.reads

pub returns-clause-restored : goal.returns-clause-restored
returns-clause-restored g c =
    let made = rw c.magic.ensures at (rw c.layout.ensures at c.in_ok-journal.ensures) in
    let ledger = g.L.Ledger in
    let all = c.in_ok-read_into.ensures in
    restored g.D.Disk ledger.steps ledger.seen ledger.form g.met.L.Ledger.is_seen c.args.blocks c.args.disk.now c.recover.new.disk c.read_into.new.disk c.in_ok-journal.journal _ made.recovered (λ failed. cc failed) made.runs
    (c.in_ok-ledger.ensures.state ∙ ap ledger.steps.fresh c.blocks-2.ensures.value) all.reads _ _ (told_weaker (g.D.Disk.content c.recover.new.disk) _ _ (λ octets told applies. applies.ok) (all.all (λ failed. cc failed) (λ failed. cc failed)))
    all.stands_on all.journal all.ended all.number (g.met.L.Ledger.reached _ all.by_records)

pub returns-clause-stands_at : goal.returns-clause-stands_at
returns-clause-stands_at g c =
    let made = rw c.magic.ensures at (rw c.layout.ensures at c.in_ok-journal.ensures) in
    let ledger = g.L.Ledger in
    let all = c.in_ok-read_into.ensures in
    restored_at g.D.Disk ledger.steps ledger.seen ledger.form g.met.L.Ledger.is_seen c.args.blocks c.args.disk.now c.recover.new.disk c.read_into.new.disk c.in_ok-journal.journal _ made.recovered (λ failed. cc failed) made.runs
    (c.in_ok-ledger.ensures.state ∙ ap ledger.steps.fresh c.blocks-2.ensures.value) all.reads _ _ (told_weaker (g.D.Disk.content c.recover.new.disk) _ _ (λ octets told applies. applies.ok) (all.all (λ failed. cc failed) (λ failed. cc failed)))
    all.stands_on all.journal all.ended all.number (g.met.L.Ledger.reached _ all.by_records)

pub returns-in_err-journal-clause-calls : goal.returns-in_err-journal-clause-calls
returns-in_err-journal-clause-calls g c =
    let made = rw c.magic.ensures at (rw c.layout.ensures at c.in_err-journal.ensures) in
    made.calls

pub returns-in_err-ledger-clause-calls : goal.returns-in_err-ledger-clause-calls
returns-in_err-ledger-clause-calls g c =
    let made = rw c.magic.ensures at (rw c.layout.ensures at c.in_ok-journal.ensures) in
    made.calls

pub returns-in_err-read_into-clause-calls : goal.returns-in_err-read_into-clause-calls
returns-in_err-read_into-clause-calls g c =
    let made = rw c.magic.ensures at (rw c.layout.ensures at c.in_ok-journal.ensures) in
    calls_reads g.D.Disk g.L.Ledger.form.magic g.L.Ledger.form.layout c.args.blocks c.args.disk.now c.recover.new.disk c.read_into.new.disk made.calls c.read_into.ensures.reads.only

pub returns-clause-calls : goal.returns-clause-calls
returns-clause-calls g c =
    let made = rw c.magic.ensures at (rw c.layout.ensures at c.in_ok-journal.ensures) in
    calls_reads g.D.Disk g.L.Ledger.form.magic g.L.Ledger.form.layout c.args.blocks c.args.disk.now c.recover.new.disk c.read_into.new.disk made.calls c.read_into.ensures.reads.only
