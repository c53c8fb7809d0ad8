-- The rest is noted, and the whole checked.
use Rattle.std.proofs.Common.{◌≡◌, ℕ, List, [], Ok, None, Some, rules, sym, ◌∙◌, ap, subst}
use Rattle.ftl0_client_job.specs.declared.phases.DownloadPhase.TheVariants as phase
use Rattle.ftl0_client_job.specs.Download.{in_phase}
use Rattle.ftl0_client_job.proofs.Names.{⊤, Option, Result, Err, fault_code, got_of, Ending, Halt, Download, data_end_row, with_rest, HasGot, TakesRow, with_notes}
use Rattle.ftl0_client_job.proofs.EndLemmas.{end-bad, end-bad-stopped, end-good, end-stopped}
use Rattle.ftl0_client_job.proofs.download.Download.take_end.Goals as goal

pub returns-in_err-note_rest : goal.returns-in_err-note_rest
returns-in_err-note_rest g c =
    let inside = c.self.inside in
    let at : Download = record { server = inside.server; number = inside.number; rest = inside.rest.items; phase = inside.phase } in
    let old = c.args.notes.now in
    let has = subst (λ (d : Download). HasGot old.lists d) (sym c.self.view_is) c.requires.may.got in
    let why = c.in_err-note_rest.field-0.0 in
    let stops : c.from_residual.result ≡ Err why = search rules in
    let P : Download → Result (Option Ending) Halt → Type 0 = λ d r. TakesRow g.D.Disk (data_end_row (got_of old.lists d.server d.number) d) (with_notes d old c.args.disk.now)
    (with_notes d c.note_rest.new.notes c.note_rest.new.disk) c.args.replies.now.items r in
    subst (λ (d : Download). P d c.from_residual.result) c.self.view_is
    (subst (P at) (sym stops)
    (end-stopped g.D.Disk g.met.D.Disk.lasts_on at old c.note_rest.new.notes c.args.disk.now c.note_rest.new.disk c.self.invariant.0 c.self.invariant.1 has ⊤ why c.args.replies.now.items c.requires.empty
    c.in_err-note_rest.ensures))

pub returns-in_default : goal.returns-in_default
returns-in_default g c =
    let inside = c.self.inside in
    let at : Download = record { server = inside.server; number = inside.number; rest = inside.rest.items; phase = inside.phase } in
    let old = c.args.notes.now in
    let has = subst (λ (d : Download). HasGot old.lists d) (sym c.self.view_is) c.requires.may.got in
    let none : None ≡ fault_code (got_of c.note_rest.new.notes.lists at.server at.number) = sym c.in_default.is ∙ c.fault_in.ensures ∙ ap fault_code c.got_octets.ensures.octets in
    let P : Download → List ℕ → Type 0 = λ d rest. TakesRow g.D.Disk (data_end_row (got_of old.lists d.server d.number) d) (with_notes d old c.args.disk.now)
    (with_notes (in_phase (with_rest at rest) phase.Done) c.note_rest.new.notes c.note_rest.new.disk) c.write_packet.new.out.items (Ok None) in
    subst (λ (d : Download). P d c.clear.new.self.items) c.self.view_is
    (subst (P at) (sym c.clear.ensures)
    (end-good g.D.Disk g.met.D.Disk.lasts_on at old c.note_rest.new.notes c.args.disk.now c.note_rest.new.disk c.self.invariant.0 c.self.invariant.1 has c.in_ok-note_rest.ensures
    c.write_packet.new.out.items none c.write_packet.ensures.text))

pub returns-in_err-note_forgot : goal.returns-in_err-note_forgot
returns-in_err-note_forgot g c =
    let inside = c.self.inside in
    let at : Download = record { server = inside.server; number = inside.number; rest = inside.rest.items; phase = inside.phase } in
    let old = c.args.notes.now in
    let has = subst (λ (d : Download). HasGot old.lists d) (sym c.self.view_is) c.requires.may.got in
    let some : Some c.in-Some.code ≡ fault_code (got_of c.note_rest.new.notes.lists at.server at.number) = sym c.in-Some.is ∙ c.fault_in.ensures ∙ ap fault_code c.got_octets.ensures.octets in
    let why = c.in_err-note_forgot.field-0.0 in
    let stops : c.from_residual-in_err-note_forgot.result ≡ Err why = search rules in
    let P : Download → Result (Option Ending) Halt → Type 0 = λ d r. TakesRow g.D.Disk (data_end_row (got_of old.lists d.server d.number) d) (with_notes d old c.args.disk.now)
    (with_notes d c.note_forgot.new.notes c.note_forgot.new.disk) c.args.replies.now.items r in
    subst (λ (d : Download). P d c.from_residual-in_err-note_forgot.result) c.self.view_is
    (subst (P at) (sym stops)
    (end-bad-stopped g.D.Disk g.met.D.Disk.lasts_on at old c.note_rest.new.notes c.args.disk.now c.note_rest.new.disk c.self.invariant.0 c.self.invariant.1 has c.in_ok-note_rest.ensures
    c.note_forgot.new.notes c.note_forgot.new.disk c.in-Some.code some ⊤ why c.args.replies.now.items c.requires.empty c.in_err-note_forgot.ensures))

pub returns : goal.returns
returns g c =
    let inside = c.self.inside in
    let at : Download = record { server = inside.server; number = inside.number; rest = inside.rest.items; phase = inside.phase } in
    let old = c.args.notes.now in
    let has = subst (λ (d : Download). HasGot old.lists d) (sym c.self.view_is) c.requires.may.got in
    let some : Some c.in-Some.code ≡ fault_code (got_of c.note_rest.new.notes.lists at.server at.number) = sym c.in-Some.is ∙ c.fault_in.ensures ∙ ap fault_code c.got_octets.ensures.octets in
    let P : Download → List ℕ → Ending → Type 0 = λ d rest e. TakesRow g.D.Disk (data_end_row (got_of old.lists d.server d.number) d) (with_notes d old c.args.disk.now)
    (with_notes (with_rest at rest) c.note_forgot.new.notes c.note_forgot.new.disk) c.write_packet-2.new.out.items (Ok (Some e)) in
    subst (λ (d : Download). P d c.clear-2.new.self.items c.later.result) c.self.view_is
    (subst (λ (rest : List ℕ). P at rest c.later.result) (sym c.clear-2.ensures)
    (subst (P at []) (sym c.later.ensures)
    (end-bad g.D.Disk g.met.D.Disk.lasts_on at old c.note_rest.new.notes c.args.disk.now c.note_rest.new.disk c.self.invariant.0 c.self.invariant.1 has c.in_ok-note_rest.ensures
    c.note_forgot.new.notes c.note_forgot.new.disk c.in-Some.code some c.write_packet-2.new.out.items c.in_ok-note_forgot.ensures c.write_packet-2.ensures.text)))
