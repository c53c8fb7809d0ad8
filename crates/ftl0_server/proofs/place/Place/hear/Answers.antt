-- If the session is over, its upload is parked; else the connection goes on.
use Rattle.std.proofs.Common.{subst, sym}
use Rattle.ftl0_server.proofs.Names.{in_parked, Store, AreComplete}
use Rattle.ftl0_server.proofs.PlaceLemmas.{hears-on, hears-over, talks-as, works-over}
use Rattle.ftl0_server.proofs.connection.HearLemmas.{parks-same}
use Rattle.ftl0_server.proofs.place.Place.hear.Goals as goal

pub returns-in-Ends-clause-hears : goal.returns-in-Ends-clause-hears
returns-in-Ends-clause-hears g c w d is seen =
    let gives_up = parks-same c.hear-fate.new.store c.leave.new.store c.hear-fate.new.self.session.uploads.phase c.leave.ensures.0.parks in
    let heard = c.hear-fate.ensures.hears w d (talks-as w c.args.store.now c.args.self.now c.in-Talking.connection d c.in-Talking.is is) seen in
    let link = c.leave.ensures.1 in
    rw link.1 (hears-over g.D.Disk w _ _ _ _ _ _ _ c.hear-fate.new.self link.0 link.2 c.hear-fate.result gives_up c.in-Ends.is heard)

pub returns-in-Ends-clause-works : goal.returns-in-Ends-clause-works
returns-in-Ends-clause-works g c =
    let link = c.leave.ensures.1 in
    let fit = c.hear-fate.ensures.fit in
    rw (c.in-Talking.is, link.1)
    (works-over c.args.store.now c.hear-fate.new.store c.leave.new.store c.in-Talking.connection c.hear-fate.new.self link.0 fit.caller fit.others fit.fit.only c.leave.ensures.0 link.2 fit.stations (fit.down c.in-Ends.is))

pub returns-in-Ends-clause-complete : goal.returns-in-Ends-clause-complete
returns-in-Ends-clause-complete g c =
    let gives_up = parks-same c.hear-fate.new.store c.leave.new.store c.hear-fate.new.self.session.uploads.phase c.leave.ensures.0.parks in
    subst (λ (s : Store). AreComplete s c.hear-fate.new.lists) (sym (in_parked c.hear-fate.new.store c.leave.new.store gives_up.entries)) c.hear-fate.ensures.fit.fit.complete

pub returns-in_default-clause-hears : goal.returns-in_default-clause-hears
returns-in_default-clause-hears g c w d is seen =
    let heard = c.hear-fate.ensures.hears w d (talks-as w c.args.store.now c.args.self.now c.in-Talking.connection d c.in-Talking.is is) seen in
    hears-on g.D.Disk w _ _ _ _ _ _ c.hear-fate.new.self c.hear-fate.result c.in_default.is heard
