-- What the link reported decides what becomes of the connection.
use Rattle.std.proofs.Common.{arith, ◌⊎◌, [], ◌++◌, inl, inr, ap, sym, ◌∙◌, refl, subst}
use Rattle.ftl0_server.specs.Connection.Inside.{connection_state}
use Rattle.ftl0_server.proofs.Names.{common_steps, value_of, Heard, Reopened, Bytes, Closed, Kept, after_frame, packets_of, under_way, IsKnown, store_on, has_left, session_over, caller_of, working_on, command, greeted, IsConnection, LooksAtNoneAs, with_end, LookAtNone, stations-then}
use Rattle.ftl0_server.proofs.connection.FeedLemmas.{fit-anew, fit-heard}
use Rattle.ftl0_server.proofs.connection.HearLemmas.{anew-at, gives-nothing, parks-same, parts-bytes, parts-on, parts-over, parts-quiet, parts-told, same-peer}
use Rattle.ftl0_server.proofs.connection.OctetsLemmas.{hears-all, seen-octets}
use Rattle.ftl0_server.proofs.connection.connection.Connection.take_frame.Goals as goal

pub returns-in-Nothing-clause-hears : goal.returns-in-Nothing-clause-hears
returns-in-Nothing-clause-hears g c =
    rw (sym c.self.view_is) (λ w d is seen.
    parts-told g.D.Disk w _ _ _ _ _ _ _ c.take.result c.take.ensures.heard d is
    (parts-quiet g.D.Disk w _ (value_of c.args.frame.now) _ _ _ _ c.take.result d _ _ c.in-Nothing.is
    (parts-on g.D.Disk g.met.D.Disk.lasts_same w d.rest _ d.state _ _ _ c.requires.may.ready (gives-nothing c.args.store.now)
    (record { link = c.take.ensures.after w d.end is.link; rest = ap under_way c.take.ensures.keeps.reader ∙ is.rest; state = is.state }))))

pub returns-in-Nothing-clause-fit : goal.returns-in-Nothing-clause-fit
returns-in-Nothing-clause-fit g c = grind (arith, common_steps, fit-heard)

pub returns-in-Reopened-clause-hears : goal.returns-in-Reopened-clause-hears
returns-in-Reopened-clause-hears g c =
    let a = c.self.inside in
    let parked = parks-same c.args.store.now c.begin_anew.new.store a.session.uploads.phase c.begin_anew.ensures.parks in
    rw (sym c.self.view_is) (λ w d is seen.
    let end = after_frame w d.end (value_of c.args.frame.now) in
    parts-told g.D.Disk w _ _ _ _ _ _ _ Reopened c.in-Reopened.ensures.heard d is
    (parts-on g.D.Disk g.met.D.Disk.lasts_same w [] (greeted end c.args.moment (has_left c.args.lists.now d.end.peer)) command _ _ _
    c.requires.may.ready parked
    (anew-at w c.begin_anew.new.store c.begin_anew.new.self end c.args.moment c.args.lists.now (caller_of a.session) d.end.peer
    (sym c.self.invariant.peer ∙ ap (λ (k : Kept). k.peer) is.link.kept) (c.begin_anew.ensures.begins w end (c.in-Reopened.ensures.after w d.end is.link)))))

pub returns-in-Reopened-clause-fit : goal.returns-in-Reopened-clause-fit
returns-in-Reopened-clause-fit g c =
    let a = c.self.inside in
    let parked = parks-same c.args.store.now c.begin_anew.new.store a.session.uploads.phase c.begin_anew.ensures.parks in
    rw (sym c.self.view_is)
    (fit-anew g.D.Disk _ _ _ _ _ _ (g.met.D.Disk.lasts_same c.args.disk.now) (rw (sym c.self.view_is) at c.requires.may) parked c.begin_anew.ensures.session c.begin_anew.ensures.only
    c.begin_anew.ensures.others c.begin_anew.ensures.up (stations-then a.link.link c.take.new.self.link c.begin_anew.new.self.link c.take.ensures.keeps.stations c.begin_anew.ensures.stations))

pub returns-in-Bytes-clause-hears : goal.returns-in-Bytes-clause-hears
returns-in-Bytes-clause-hears g c =
    let a = c.self.inside in
    let frame = value_of c.args.frame.now in
    let mid = connection_state (record { link = c.take.new.self; session = a.session }) in
    rw (sym c.self.view_is) (λ w d is seen.
    let end = after_frame w d.end frame in
    let stands = c.in-Bytes.ensures.after w d.end is.link in
    let same = same-peer w a.link.link c.take.new.self.link d.end end is.link stands c.take.ensures.keeps.stations.peer in
    let peer = sym (ap (λ (k : Kept). k.peer) stands.kept) ∙ c.take.ensures.keeps.stations.peer ∙ c.self.invariant.peer in
    let looks : IsKnown g.D.Disk c.args.disk.now ⊎ LookAtNone end.peer c.args.moment (session_over (store_on g.D.Disk c.args.store.now c.args.disk.now) c.args.lists.now d.state) (packets_of (d.rest ++ frame.kind.information)) =
    elim seen [
      | inl known ↦ inl known
      | inr none ↦
          inr
          (rw same
          (subst (λ (t : Heard). LooksAtNoneAs t c.args.moment (store_on g.D.Disk c.args.store.now c.args.disk.now) c.args.lists.now d end frame.kind.information) (sym (c.in-Bytes.ensures.heard w d.end is.link)) none).0)
    ] in
    let octets = c.information.ensures (c.in-Bytes.ensures.bytes refl) in
    let there : IsConnection w c.args.store.now mid (with_end d end) = record { link = stands; rest = ap under_way c.in-Bytes.ensures.keeps.reader ∙ is.rest; state = is.state } in
    parts-told g.D.Disk w _ _ _ _ _ _ _ Bytes c.in-Bytes.ensures.heard d is
    (parts-bytes g.D.Disk w _ frame _ _ _ _ d end c.information.result.now frame.kind.information
    same octets
    (hears-all g.D.Disk g.met.D.Disk.lasts_on _ mid _ c.information.result.now _ _ _ (c.take.ensures.keeps.stations.peer ∙ c.self.invariant.peer)
    (seen-octets g.D.Disk c.args.moment mid (working_on c.args.store.now c.args.lists.now c.args.disk.now) w (with_end d end) c.information.result.now frame.kind.information there peer octets looks) w (with_end d end) there
    c.take_packets.ensures.feeds)))

pub returns-in-Bytes-clause-fit : goal.returns-in-Bytes-clause-fit
returns-in-Bytes-clause-fit g c = grind (arith, common_steps, stations-then)

pub returns-in-Closed-clause-hears : goal.returns-in-Closed-clause-hears
returns-in-Closed-clause-hears g c =
    rw (sym c.self.view_is) (λ w d is seen.
    parts-told g.D.Disk w _ _ _ _ _ _ _ (Closed c.in-Closed._why) c.in-Closed.ensures.heard d is
    (parts-over g.D.Disk g.met.D.Disk.lasts_same w d.rest _ d.state _ _ _ c.requires.may.ready (gives-nothing c.args.store.now) (c.in-Closed.ensures.after w d.end is.link)))

pub returns-in-Closed-clause-fit : goal.returns-in-Closed-clause-fit
returns-in-Closed-clause-fit g c = grind (arith, common_steps, fit-heard)
