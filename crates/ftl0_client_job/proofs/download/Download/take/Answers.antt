-- The row by how far the download has come.
use Rattle.std.proofs.Common.{ℕ, List, Ok, sym, ◌∙◌, ap, subst}
use Rattle.ftl0_client_job.specs.declared.phases.DownloadPhase.TheVariants as phase
use Rattle.ftl0_client_job.proofs.Names.{value_of, got_of, Download, done_row, login_row, Row, Gives, TakesRow, with_notes}
use Rattle.ftl0_client_job.proofs.NotingLemmas.{takes-still}
use Rattle.ftl0_client_job.proofs.RowLemmas.{done-silent, download-in, fetch-silent}
use Rattle.ftl0_client_job.proofs.download.Download.take.Goals as goal

pub returns-in-Login : goal.returns-in-Login
returns-in-Login g c =
    let self = c.args.self.now in
    let packet = value_of c.args.packet.now in
    let held = got_of c.args.notes.now.lists self.server self.number in
    let is = download-in held self packet phase.Login (ap (λ (d : Download). d.phase) (sym c.self.view_is) ∙ c.in-Login.is) in
    subst (λ (r : Row Download). TakesRow g.D.Disk r (with_notes self c.args.notes.now c.args.disk.now) (with_notes c.take_login.new.self c.args.notes.now c.args.disk.now) c.take_login.new.replies.items (Ok c.take_login.result))
    (sym is)
    (takes-still g.D.Disk (login_row held self packet) self c.take_login.new.self c.args.notes.now c.args.disk.now c.take_login.new.replies.items c.take_login.result (fetch-silent held self packet)
    c.requires.may.ready (g.met.D.Disk.lasts_same c.args.disk.now) c.take_login.ensures)

pub returns-in-Fetching : goal.returns-in-Fetching
returns-in-Fetching g c =
    let self = c.args.self.now in
    let packet = value_of c.args.packet.now in
    let held = got_of c.args.notes.now.lists self.server self.number in
    let is = download-in held self packet phase.Fetching (ap (λ (d : Download). d.phase) (sym c.self.view_is) ∙ c.in-Fetching.is) in
    subst (λ (r : Row Download). TakesRow g.D.Disk r (with_notes self c.args.notes.now c.args.disk.now) (with_notes c.take_fetching.new.self c.take_fetching.new.notes c.take_fetching.new.disk) c.take_fetching.new.replies.items c.take_fetching.result) (sym is) c.take_fetching.ensures

pub returns-in-Done : goal.returns-in-Done
returns-in-Done g c =
    let self = c.args.self.now in
    let packet = value_of c.args.packet.now in
    let held = got_of c.args.notes.now.lists self.server self.number in
    let is = download-in held self packet phase.Done (ap (λ (d : Download). d.phase) (sym c.self.view_is) ∙ c.in-Done.is) in
    let gives = subst (λ (os : List ℕ). Gives (done_row self packet) self os c.take_done.result) (sym c.requires.empty) c.take_done.ensures in
    subst (λ (r : Row Download). TakesRow g.D.Disk r (with_notes self c.args.notes.now c.args.disk.now) (with_notes self c.args.notes.now c.args.disk.now) c.args.replies.now.items (Ok c.take_done.result)) (sym is)
    (takes-still g.D.Disk (done_row self packet) self self c.args.notes.now c.args.disk.now c.args.replies.now.items c.take_done.result (done-silent self packet)
    c.requires.may.ready (g.met.D.Disk.lasts_same c.args.disk.now) gives)
