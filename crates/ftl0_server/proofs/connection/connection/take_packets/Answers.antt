-- A packet that is found is answered, and the loop stops if that stops.
use Rattle.std.proofs.Common.{arith, ◌≡◌, ◌++◌, true, false, sym}
use Rattle.ftl0_server.proofs.Names.{common_steps, read_item, octets_in, carrying}
use Rattle.ftl0_server.proofs.connection.FeedLemmas.{fit-all, taking-next, taking-start, taking-stops}
use Rattle.ftl0_server.proofs.connection.connection.take_packets.Goals as goal

pub loop-left-init : goal.loop-left-init
loop-left-init g c = grind (arith, common_steps, taking-start)

pub returns-then-not-goes_on-clause-feeds : goal.returns-then-not-goes_on-clause-feeds
returns-then-not-goes_on-clause-feeds g c =
    taking-stops g.D.Disk g.met.D.Disk.lasts_on c.args.moment _ _ _ (carrying c.answer-told.new.link.link (octets_in c.next_packet.new.self ++ c.in-Some.left.now) c.answer-told.new.session) _ _ _
    (read_item c.next_packet.new.self.reader) (rw (sym c.in-Some.ensures.link) at c.loop-left.invariant) c.in-Some.ensures.found.front c.answer-told.ensures.takes (octets_in c.answer-told.new.link)
    (λ going. (let told : c.goes_on.result ≡ true = c.goes_on.ensures.1 going in let not_told : c.goes_on.result ≡ false = c.if-not-goes_on.true in cc))

pub returns-then-not-goes_on-clause-fit : goal.returns-then-not-goes_on-clause-fit
returns-then-not-goes_on-clause-fit g c =
    fit-all g.D.Disk g.met.D.Disk.lasts_on c.args.moment _ _ _ (carrying c.answer-told.new.link.link (octets_in c.next_packet.new.self ++ c.in-Some.left.now) c.answer-told.new.session) _ _ _
    (read_item c.next_packet.new.self.reader) (rw (sym c.in-Some.ensures.link) at c.loop-left.invariant) c.in-Some.ensures.found.front c.answer-told.ensures.takes c.answer-told.ensures.fit

pub loop-left-preserved : goal.loop-left-preserved
loop-left-preserved g c =
    rw c.answer-told.ensures.reader
    (taking-next g.D.Disk g.met.D.Disk.lasts_on c.args.moment _ _ _ (carrying c.answer-told.new.link.link (octets_in c.next_packet.new.self ++ c.in-Some.left.now) c.answer-told.new.session) _ _ _
    (read_item c.next_packet.new.self.reader) (rw (sym c.in-Some.ensures.link) at c.loop-left.invariant) c.in-Some.ensures.found.front c.answer-told.ensures.takes c.answer-told.ensures.fit
    (c.goes_on.ensures.0 c.if-not-goes_on.false))
