-- What is asked in each phase, by what is asked in its state.
use Rattle.std.proofs.Common.{ap, sym}
use Rattle.ftl0_session.proofs.Names.{aborting, packet_of, SessionState}
use Rattle.ftl0_session.proofs.uploads.DoesLemmas.{answered-alone}
use Rattle.ftl0_session.proofs.uploads.session.Session.take_asked.Goals as goal

pub returns-in-Command : goal.returns-in-Command
returns-in-Command g c =
    rw (sym (ap (λ (s : SessionState). s.caller) c.self.view_is), c.in-Command.is) c.take_command.ensures

pub returns-in-Receiving : goal.returns-in-Receiving
returns-in-Receiving g c = rw c.in-Receiving.is c.take_receiving.ensures

pub returns-in-Aborting : goal.returns-in-Aborting
returns-in-Aborting g c = λ item is.
    let only = rw c.in-Aborting.is at c.requires.only in
    rw c.in-Aborting.is
    (answered-alone g.D.Disk (packet_of c.args.self.now.caller c.args.moment item) aborting c.args.store.now c.args.disk.now c.requires.ready c.args.store.now _ _
    (g.met.D.Disk.lasts_same c.args.disk.now) (c.take_aborting.ensures c.args.self.now.caller c.args.moment c.args.store.now item only is))
