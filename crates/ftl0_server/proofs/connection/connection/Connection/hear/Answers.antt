-- After the packets of a frame what is due is queued, if the connection goes on.
use Rattle.std.proofs.Common.{◌≡◌, ◌⊎◌, inl, inr, refl, sym, subst, true, false}
use Rattle.ftl0_server.proofs.Names.{value_of, after_frame, heard_of, known_on, IsKnown, store_on, state_in, NoneDue, parts_of_frame}
use Rattle.ftl0_server.proofs.connection.DueLemmas.{hears-going, hears-stop}
use Rattle.ftl0_server.proofs.connection.FailureLemmas.{writes-none}
use Rattle.ftl0_server.proofs.connection.FeedLemmas.{fit-queued}
use Rattle.ftl0_server.proofs.connection.HearLemmas.{looks-due}
use Rattle.ftl0_server.proofs.connection.connection.Connection.hear.Goals as goal

pub returns-then-goes_on-clause-hears : goal.returns-then-goes_on-clause-hears
returns-then-goes_on-clause-hears g c w d is seen =
    let going = c.goes_on.ensures.0 c.if-goes_on.true in
    let keeps = c.queue_due.ensures.keeps in
    let frame = value_of c.args.frame.now in
    let heard = rw going at c.take_frame-told.ensures.hears w d is seen in
    let then_is = heard.hears.by.1.1 in
    let due : IsKnown g.D.Disk c.take_frame-told.new.disk ⊎ NoneDue (state_in c.take_frame-told.new.store c.take_frame-told.new.self.session) =
    elim seen [
      | inl known ↦ inl (known_on g.D.Disk c.args.disk.now c.take_frame-told.new.disk c.take_frame-told.ensures.fit.puts.told known)
      | inr looks ↦
          inr
          (subst NoneDue (sym then_is.1.state)
          (looks-due (heard_of w d.end frame) c.args.moment (store_on g.D.Disk c.args.store.now c.args.disk.now) c.args.lists.now d (after_frame w d.end frame) frame.kind.information _ (writes-none heard.hears.parts) looks then_is.0))
    ] in
    rw going
    (hears-going g.D.Disk g.met.D.Disk.lasts_same g.met.D.Disk.lasts_on w _ (parts_of_frame w c.args.moment (store_on g.D.Disk c.args.store.now c.args.disk.now) c.args.lists.now d frame)
    _ _ _ c.take_frame-told.new.self _ due heard keeps.same refl keeps.octets c.queue_due.ensures.queues)

pub returns-then-goes_on-clause-fit : goal.returns-then-goes_on-clause-fit
returns-then-goes_on-clause-fit g c =
    let going = c.goes_on.ensures.0 c.if-goes_on.true in
    rw going
    (fit-queued g.D.Disk g.met.D.Disk.lasts_on _ _ _ _ _ c.take_frame-told.new.self _ refl (rw going at c.take_frame-told.ensures.fit) c.queue_due.ensures.keeps)

pub returns-else-goes_on-clause-hears : goal.returns-else-goes_on-clause-hears
returns-else-goes_on-clause-hears g c w d is seen =
    hears-stop g.D.Disk g.met.D.Disk.lasts_same g.met.D.Disk.lasts_on w _ (parts_of_frame w c.args.moment (store_on g.D.Disk c.args.store.now c.args.disk.now) c.args.lists.now d (value_of c.args.frame.now)) _ _ _ _
    (λ going. (let told : c.goes_on.result ≡ true = c.goes_on.ensures.1 going in let not_told : c.goes_on.result ≡ false = c.if-goes_on.false in absurd cc)) (c.take_frame-told.ensures.hears w d is seen)
