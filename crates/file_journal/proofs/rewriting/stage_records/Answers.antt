use Rattle.std.proofs.Common.{rules, ◌+◌, [], ◌∷◌, length, Ok, refl, arith, length-append}
use Rattle.file_journal.proofs.Names.{Result, DiskFault, records_text, Lays, anew_text, makes_failed, puts_once, alike_same}
use Rattle.file_journal.proofs.CoverLemmas.{covers_failed, covers_makes, covers_next, covers_synced, makes_ok}
use Rattle.file_journal.proofs.rewriting.stage_records.Goals as goal

pub returns-in_err-end-clause-makes : goal.returns-in_err-end-clause-makes
returns-in_err-end-clause-makes g c =
    let D = g.D.Disk in
    let entries = g.R.Records.left c.args.records.now in
    let count = length entries in
    let new = c.write_records.new.disk in
    covers_makes D c.from_residual.result c.from_residual.result count c.args.gate (anew_text entries) c.args.disk.now new (Lays c.args.gate (anew_text entries)) (search rules) (search rules)
    (covers_failed D c.write_records.result c.from_residual.result count count c.args.gate (records_text entries) (anew_text entries) c.args.disk.now new (omega arith)
    (omega (arith, length-append (records_text entries) (0 ∷ []))) (search rules) (search rules) c.write_records.ensures.covers)

pub returns-in_err-write_at-clause-makes : goal.returns-in_err-write_at-clause-makes
returns-in_err-write_at-clause-makes g c =
    let D = g.D.Disk in
    let entries = g.R.Records.left c.args.records.now in
    let count = length entries in
    let mid = c.write_records.new.disk in
    let new = c.write_at.new.self in
    let written = c.write_at.ensures in
    covers_makes D c.write_at.result c.from_residual-in_err-write_at.result (count + 1) c.args.gate (anew_text entries) c.args.disk.now new (Lays c.args.gate (anew_text entries)) (search rules) (search rules)
    (covers_next D g.met.D.Disk.lasts_on c.in_ok-end.end c.write_at.result count c.args.gate (records_text entries) (0 ∷ []) c.args.disk.now mid new c.in_ok-end.end (count + 1) (anew_text entries) c.in_ok-end.ensures.end
    refl refl c.in_ok-end.ensures.covers written.written written.torn written.moment written.past
    (puts_once D c.write_at.result mid new (g.met.D.Disk.lasts_same mid) (written.untold, written.told) written.read_faults written.write_faults written.moment.at_most written.past written.lasts))

pub returns-in_err-sync-clause-makes : goal.returns-in_err-sync-clause-makes
returns-in_err-sync-clause-makes g c =
    let D = g.D.Disk in
    let put_there : Result (Unit {0}) DiskFault = Ok c.in_ok-write_at.field-0 in
    let entries = g.R.Records.left c.args.records.now in
    let count = length entries in
    let mid = c.write_records.new.disk in
    let staged = c.write_at.new.self in
    let new = c.sync.new.self in
    let written = c.in_ok-write_at.ensures in
    let synced = c.sync.ensures in
    let same = g.met.D.Disk.lasts_same in
    makes_failed D c.sync.result c.from_residual-in_err-sync.result c.args.disk.now new _ _ (Lays c.args.gate (anew_text entries)) _ (search rules) (λ before image told torn. torn)
    (covers_synced D g.met.D.Disk.lasts_on c.in_ok-write_at.field-0 c.sync.result (count + 1) c.args.gate (anew_text entries) c.args.disk.now staged new
    (covers_next D g.met.D.Disk.lasts_on c.in_ok-end.end put_there count c.args.gate (records_text entries) (0 ∷ []) c.args.disk.now mid staged c.in_ok-end.end (count + 1) (anew_text entries) c.in_ok-end.ensures.end refl
    refl c.in_ok-end.ensures.covers written.written written.torn written.moment written.past
    (puts_once D put_there mid staged (same mid) (written.untold, written.told) written.read_faults written.write_faults written.moment.at_most written.past written.lasts))
    synced.content synced.durable synced.images synced.moment synced.past synced.since_now
    (puts_once D c.sync.result staged new (same staged) (alike_same _ _ synced.content) synced.read_faults synced.write_faults synced.moment.at_most synced.past synced.lasts)).0
    (search rules)

pub returns-clause-makes : goal.returns-clause-makes
returns-clause-makes g c =
    let D = g.D.Disk in
    let put_there : Result (Unit {0}) DiskFault = Ok c.in_ok-write_at.field-0 in
    let synced_there : Result (Unit {0}) DiskFault = Ok c.in_ok-sync.field-0 in
    let entries = g.R.Records.left c.args.records.now in
    let count = length entries in
    let mid = c.write_records.new.disk in
    let staged = c.write_at.new.self in
    let new = c.sync.new.self in
    let written = c.in_ok-write_at.ensures in
    let synced = c.in_ok-sync.ensures in
    let same = g.met.D.Disk.lasts_same in
    makes_ok D c.in_ok-sync.field-0 c.in_ok-end.end c.args.disk.now new (Lays c.args.gate (anew_text entries)) _
    (covers_synced D g.met.D.Disk.lasts_on c.in_ok-write_at.field-0 synced_there (count + 1) c.args.gate (anew_text entries) c.args.disk.now staged new
    (covers_next D g.met.D.Disk.lasts_on c.in_ok-end.end put_there count c.args.gate (records_text entries) (0 ∷ []) c.args.disk.now mid staged c.in_ok-end.end (count + 1) (anew_text entries) c.in_ok-end.ensures.end refl
    refl c.in_ok-end.ensures.covers written.written written.torn written.moment written.past
    (puts_once D put_there mid staged (same mid) (written.untold, written.told) written.read_faults written.write_faults written.moment.at_most written.past written.lasts))
    synced.content synced.durable synced.images synced.moment synced.past synced.since_now
    (puts_once D synced_there staged new (same staged) (alike_same _ _ synced.content) synced.read_faults synced.write_faults synced.moment.at_most synced.past synced.lasts)).0
