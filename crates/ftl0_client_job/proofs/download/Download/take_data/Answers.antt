-- Each whole 512 octets are noted.
use Rattle.std.proofs.Common.{◌≡◌, [], ◌++◌, rules, sym, subst, refl, arith}
use Rattle.ftl0_client_job.proofs.Names.{common_steps, ⊤, Option, Some, Result, Ok, Err, got_of, Ending, Halt, Download, data_row, unnoted, whole_gots, with_rest, HasNoted, Row, goes_on, strange, Gives, TakesRow, with_notes}
use Rattle.ftl0_client_job.proofs.NotingLemmas.{noted-none}
use Rattle.ftl0_client_job.proofs.download.Download.take_data.Goals as goal

pub returns-in_err-self-inside : goal.returns-in_err-self-inside
returns-in_err-self-inside g c =
    let at : Download = c.args.self.now in
    let old = c.args.notes.now in
    let octets = at.rest ++ c.args.octets.now in
    let why = c.in_err-self-inside.field-0.0 in
    let stops : c.from_residual.result ≡ Err why = search rules in
    let few : data_row (got_of old.lists at.server at.number) at c.args.octets.now ≡ goes_on (with_rest at (unnoted octets)) (whole_gots at.server at.number octets) [] = grind (arith, common_steps) in
    let P : Row Download → Result (Option Ending) Halt → Type 0 = λ row r. TakesRow g.D.Disk row (with_notes at old c.args.disk.now) (with_notes at c.note_blocks.new.notes c.note_blocks.new.disk) [] r in
    let noted : Download → Type 0 = λ d. HasNoted {T = ⊤} g.D.Disk old c.note_blocks.new.notes c.args.disk.now c.note_blocks.new.disk (whole_gots d.server d.number (d.rest ++ c.args.octets.now)) (Err why) in
    subst (λ (r : Result (Option Ending) Halt). P (data_row (got_of old.lists at.server at.number) at c.args.octets.now) r) (sym stops)
    (subst (λ (row : Row Download). P row (Err why)) (sym few) (record { answers = (refl, refl); noted = subst noted c.self.view_is c.in_err-self-inside.ensures.noted }))

pub returns-then-held-len : goal.returns-then-held-len
returns-then-held-len g c =
    let at : Download = c.args.self.now in
    let old = c.args.notes.now in
    let none = noted-none g.D.Disk old c.args.disk.now c.requires (g.met.D.Disk.lasts_same c.args.disk.now) in
    let far : data_row (got_of old.lists at.server at.number) at c.args.octets.now ≡ strange at 0 = grind (arith, common_steps) in
    let ends : Gives (strange at 0) at [] (Some c.strange.result) = search rules in
    subst (λ (row : Row Download). TakesRow g.D.Disk row (with_notes at old c.args.disk.now) (with_notes at old c.args.disk.now) [] (Ok (Some c.strange.result))) (sym far)
    (record { answers = ends; noted = none })
