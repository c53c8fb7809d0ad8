use Rattle.std.proofs.Common.{rules, [], ◌∷◌, ℕ, Ok, subst}
use Rattle.file_journal.proofs.Names.{Result, Writes, DiskFault, IsTornFrom, Makes, selector_of, Chooses, IsChoosing, Lays, anew_text, makes_failed}
use Rattle.file_journal.proofs.CoverLemmas.{chooses_failed, chooses_on, makes_ok}
use Rattle.file_journal.proofs.rewriting.write_half.Goals as goal

pub returns-in_err-end-clause-makes : goal.returns-in_err-end-clause-makes
returns-in_err-end-clause-makes g c =
    let text = anew_text (g.R.Records.left c.args.records.now) in
    chooses_failed g.D.Disk c.args.disk.now g.met.D.Disk.counts_now c.requires.quiet c.args.gate text (selector_of c.args.half) c.stage_records.result c.from_residual.result c.stage_records.new.disk (Lays c.args.gate text)
    (search rules) (search rules) c.stage_records.ensures.makes

pub returns-in_err-write_synced-clause-makes : goal.returns-in_err-write_synced-clause-makes
returns-in_err-write_synced-clause-makes g c =
    let D = g.D.Disk in
    let text = anew_text (g.R.Records.left c.args.records.now) in
    let old = c.args.disk.now in
    let mid = c.stage_records.new.disk in
    let new = c.write_synced.new.disk in
    makes_failed D c.write_synced.result c.from_residual-in_err-write_synced.result old new (Chooses c.args.gate text (selector_of c.args.half)) (IsChoosing c.args.gate text) _ _
    (search rules) (λ before image told choosing. choosing)
    (chooses_on D old g.met.D.Disk.counts_now c.requires.quiet c.args.gate text (selector_of c.args.half) g.met.D.Disk.lasts_on c.in_ok-end.end c.write_synced.result mid new c.in_ok-end.ensures.makes
    (subst (λ (n : ℕ). Makes D c.write_synced.result mid new (Writes 15 (n ∷ [])) (λ _. IsTornFrom (D.images mid) 15 1)) c.selector.ensures c.write_synced.ensures.makes))
    (search rules)

pub returns-clause-makes : goal.returns-clause-makes
returns-clause-makes g c =
    let D = g.D.Disk in
    let chosen_there : Result (Unit {0}) DiskFault = Ok c.in_ok-write_synced.field-0 in
    let text = anew_text (g.R.Records.left c.args.records.now) in
    let old = c.args.disk.now in
    let mid = c.stage_records.new.disk in
    let new = c.write_synced.new.disk in
    makes_ok D c.in_ok-write_synced.field-0 c.in_ok-end.end old new (Chooses c.args.gate text (selector_of c.args.half)) (IsChoosing c.args.gate text)
    (chooses_on D old g.met.D.Disk.counts_now c.requires.quiet c.args.gate text (selector_of c.args.half) g.met.D.Disk.lasts_on c.in_ok-end.end chosen_there mid new c.in_ok-end.ensures.makes
    (subst (λ (n : ℕ). Makes D chosen_there mid new (Writes 15 (n ∷ [])) (λ _. IsTornFrom (D.images mid) 15 1)) c.selector.ensures c.in_ok-write_synced.ensures.makes))
