-- The row by how far the upload has come.
use Rattle.std.proofs.Common.{ℕ, List, [], Ok, sym, ◌∙◌, ap, subst}
use Rattle.ftl0_client_job.specs.declared.phases.UploadPhase.TheVariants as phase
use Rattle.ftl0_client_job.specs.Upload.{login_row}
use Rattle.ftl0_client_job.proofs.Names.{value_of, Row, TakesRow, with_notes, Upload, upload_row}
use Rattle.ftl0_client_job.proofs.NotingLemmas.{takes-still}
use Rattle.ftl0_client_job.proofs.RowLemmas.{login-silent, upload-in}
use Rattle.ftl0_client_job.proofs.upload.Upload.take.Goals as goal

pub returns-in-Login : goal.returns-in-Login
returns-in-Login g c =
    let self = c.args.self.now in
    let packet = value_of c.args.packet.now in
    let is = upload-in self packet phase.Login (ap (λ (u : Upload). u.phase) (sym c.self.view_is) ∙ c.in-Login.is) in
    record {
      takes =
          subst (λ (r : Row Upload). TakesRow g.D.Disk r (with_notes self c.args.notes.now c.args.disk.now) (with_notes c.take_login.new.self c.args.notes.now c.args.disk.now) c.take_login.new.replies.items (Ok c.take_login.result))
          (sym is)
          (takes-still g.D.Disk (login_row self packet) self c.take_login.new.self c.args.notes.now c.args.disk.now c.take_login.new.replies.items c.take_login.result (login-silent self packet)
          c.requires.may.ready (g.met.D.Disk.lasts_same c.args.disk.now) c.take_login.ensures);
      memory = λ is. cc is;
    }

pub returns-in-Go : goal.returns-in-Go
returns-in-Go g c =
    let self = c.args.self.now in
    let packet = value_of c.args.packet.now in
    let is = upload-in self packet phase.Go (ap (λ (u : Upload). u.phase) (sym c.self.view_is) ∙ c.in-Go.is) in
    record {
      takes =
          subst (λ (os : List ℕ). TakesRow g.D.Disk (upload_row self packet) (with_notes self c.args.notes.now c.args.disk.now) (with_notes c.take_go.new.self c.take_go.new.notes c.take_go.new.disk) os c.take_go.result) (sym c.requires.empty)
          (subst (λ (r : Row Upload). TakesRow g.D.Disk r (with_notes self c.args.notes.now c.args.disk.now) (with_notes c.take_go.new.self c.take_go.new.notes c.take_go.new.disk) [] c.take_go.result) (sym is) c.take_go.ensures.takes);
      memory = c.take_go.ensures.memory;
    }

pub returns-in-Sending : goal.returns-in-Sending
returns-in-Sending g c =
    let self = c.args.self.now in
    let packet = value_of c.args.packet.now in
    let is = upload-in self packet (phase.Sending c.in-Sending.number c.in-Sending.place) (ap (λ (u : Upload). u.phase) (sym c.self.view_is) ∙ c.in-Sending.is) in
    record {
      takes =
          subst (λ (r : Row Upload). TakesRow g.D.Disk r (with_notes self c.args.notes.now c.args.disk.now) (with_notes self c.take_sending.new.notes c.take_sending.new.disk) c.take_sending.new.replies.items c.take_sending.result) (sym is)
          c.take_sending.ensures.takes;
      memory = c.take_sending.ensures.memory;
    }

pub returns-in-Ack : goal.returns-in-Ack
returns-in-Ack g c =
    let self = c.args.self.now in
    let packet = value_of c.args.packet.now in
    let is = upload-in self packet (phase.Ack c.in-Ack.number) (ap (λ (u : Upload). u.phase) (sym c.self.view_is) ∙ c.in-Ack.is) in
    record {
      takes =
          subst (λ (os : List ℕ). TakesRow g.D.Disk (upload_row self packet) (with_notes self c.args.notes.now c.args.disk.now) (with_notes self c.take_ack.new.notes c.take_ack.new.disk) os c.take_ack.result) (sym c.requires.empty)
          (subst (λ (r : Row Upload). TakesRow g.D.Disk r (with_notes self c.args.notes.now c.args.disk.now) (with_notes self c.take_ack.new.notes c.take_ack.new.disk) [] c.take_ack.result) (sym is) c.take_ack.ensures.takes);
      memory = c.take_ack.ensures.memory;
    }
