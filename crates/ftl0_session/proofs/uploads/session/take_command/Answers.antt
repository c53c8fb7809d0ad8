-- Each packet in Command, by its row.
use Rattle.std.proofs.Common.{refl}
use Rattle.ftl0_session.specs.declared.uploads.phase.Phase.TheVariants as phase
use Rattle.ftl0_session.proofs.Names.{Ok, upload_cmd, packet_of, command}
use Rattle.ftl0_session.proofs.uploads.DoesLemmas.{answered-alone}
use Rattle.ftl0_session.proofs.uploads.Rows.{alone-refused, error-command}
use Rattle.ftl0_session.proofs.uploads.session.take_command.Goals as goal

pub returns-in-Upload : goal.returns-in-Upload
returns-in-Upload g c = λ item is.
    let same = rw c.in-Upload.is at is in
    let resumed = rw c.new-number.ensures at (c.resume.ensures c.args.moment) in
    rw same
    (answered-alone g.D.Disk (packet_of c.args.caller c.args.moment (Ok (upload_cmd c.in-Upload.number c.in-Upload.length))) command c.args.store.now c.args.disk.now c.requires.ready c.resume.new.store _ _
    (g.met.D.Disk.lasts_same c.args.disk.now) resumed)

pub returns-in_default : goal.returns-in_default
returns-in_default g c = λ item is.
    answered-alone g.D.Disk (packet_of c.args.caller c.args.moment item) command c.args.store.now c.args.disk.now c.requires.ready c.args.store.now _ _
    (g.met.D.Disk.lasts_same c.args.disk.now)
    (alone-refused c.args.caller c.args.moment command item c.args.store.now phase.Command 1 _ _
    (λ files. error-command c.args.caller c.args.moment files item _ c.in_default.not-Upload is) refl c.refuse.ensures.taken c.refuse.ensures.text tt c.requires.only)
