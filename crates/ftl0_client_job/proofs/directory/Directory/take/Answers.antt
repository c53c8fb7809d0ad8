-- The row by how far the list has come.
use Rattle.std.proofs.Common.{sym, ◌∙◌, ap, subst}
use Rattle.ftl0_client_job.specs.declared.phases.DirectoryPhase.TheVariants as phase
use Rattle.ftl0_client_job.proofs.Names.{value_of, Directory, Row, AnswersAlone, Gives}
use Rattle.ftl0_client_job.proofs.RowLemmas.{directory-in}
use Rattle.ftl0_client_job.proofs.directory.Directory.take.Goals as goal

pub returns-in-Login : goal.returns-in-Login
returns-in-Login c =
    let is = directory-in c.args.self.now (value_of c.args.packet.now) phase.Login (ap (λ (d : Directory). d.phase) (sym c.self.view_is) ∙ c.in-Login.is) in
    subst (λ (r : Row Directory). Gives r c.take_login.new.self c.take_login.new.replies.items c.take_login.result) (sym is) c.take_login.ensures

pub returns-in-Selecting : goal.returns-in-Selecting
returns-in-Selecting c =
    let is = directory-in c.args.self.now (value_of c.args.packet.now) phase.Selecting (ap (λ (d : Directory). d.phase) (sym c.self.view_is) ∙ c.in-Selecting.is) in
    subst (λ (r : Row Directory). Gives r c.take_selecting.new.self c.take_selecting.new.replies.items c.take_selecting.result) (sym is) c.take_selecting.ensures

pub returns-in-Listing : goal.returns-in-Listing
returns-in-Listing c =
    let is = directory-in c.args.self.now (value_of c.args.packet.now) phase.Listing (ap (λ (d : Directory). d.phase) (sym c.self.view_is) ∙ c.in-Listing.is) in
    subst (λ (r : Row Directory). AnswersAlone r c.args.self.now c.take_listing.new.self c.take_listing.new.replies.items c.take_listing.result) (sym is) c.take_listing.ensures
