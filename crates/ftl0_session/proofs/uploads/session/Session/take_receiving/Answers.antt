-- Each packet in Receiving, by its row.
use Rattle.std.proofs.Common.{refl, ap, sym}
use Rattle.file_store.specs.Upload.{waiting}
use Rattle.ftl0_session.specs.declared.uploads.phase.Phase.TheVariants as phase
use Rattle.ftl0_session.proofs.Names.{packet_of, SessionState, receiving_of}
use Rattle.ftl0_session.proofs.uploads.DoesLemmas.{answered-alone}
use Rattle.ftl0_session.proofs.uploads.Rows.{alone-refused, error-receiving}
use Rattle.ftl0_session.proofs.uploads.session.Session.take_receiving.Goals as goal

pub returns-in-Part : goal.returns-in-Part
returns-in-Part g c = λ item is.
    let same = rw c.in-Part.is at is in
    rw (same, sym (ap (λ (s : SessionState). s.caller) c.self.view_is)) (c.take_data.ensures c.args.moment)

pub returns-in_default : goal.returns-in_default
returns-in_default g c = λ item is.
    answered-alone g.D.Disk (packet_of c.args.self.now.caller c.args.moment item) (receiving_of c.args.store.now c.args.up) c.args.store.now c.args.disk.now c.requires.ready c.args.store.now _ _
    (g.met.D.Disk.lasts_same c.args.disk.now)
    (alone-refused c.args.self.now.caller c.args.moment (receiving_of c.args.store.now c.args.up) item c.args.store.now (phase.Receiving c.args.up) 1 _ _
    (λ files. error-receiving c.args.self.now.caller c.args.moment files c.args.up.number (waiting c.args.store.now c.args.up) item _ c.in_default.not-Part c.in_default.not-End is) refl c.refuse.ensures.taken
    c.refuse.ensures.text c.requires.held c.requires.only)
