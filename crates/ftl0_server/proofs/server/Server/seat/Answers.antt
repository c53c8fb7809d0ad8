-- The place has no session, and no place has the caller.
use Rattle.std.proofs.Common.{sym}
use Rattle.ftl0_server.proofs.Names.{server_state}
use Rattle.ftl0_server.proofs.SeatLemmas.{begun-server, begun-settled, may-begin}
use Rattle.ftl0_server.proofs.server.Server.seat.Goals as goal

pub begin-requires : goal.begin-requires
begin-requires c = may-begin (server_state c.self.inside) c.args.caller c.args.place c.index-places-place.result (rw (sym c.self.view_is) at c.requires.empty) (rw (sym c.self.view_is) at c.requires.awaits) c.self.invariant.settled

pub invariant_of-self : goal.invariant_of-self
invariant_of-self c =
    let settled = begun-settled (server_state c.self.inside) c.args.caller c.args.place c.index-places-place.result (rw (sym c.self.view_is) at c.requires.empty) (rw (sym c.self.view_is) at c.requires.awaits)
    c.self.invariant.settled c.args.poll c.args.moment c.begin.new.self c.begin.ensures in
    record { settled = settled; complete = c.self.invariant.complete }

pub returns-clause-heard : goal.returns-clause-heard
returns-clause-heard c = λ over server is.
    begun-server (server_state c.self.inside) c.args.caller c.args.place c.index-places-place.result (rw (sym c.self.view_is) at c.requires.empty) (rw (sym c.self.view_is) at c.requires.awaits)
    c.self.invariant.settled c.args.poll c.args.moment c.begin.new.self c.begin.ensures over server (rw (sym c.self.view_is) at is)
