-- A session takes a packet as its parts do.
use Rattle.std.proofs.Common.{ap}
use Rattle.ftl0_session.proofs.Names.{caller_of}
use Rattle.ftl0_session.proofs.session.Session.take.Goals as goal

pub take_packet-requires-clause-may : goal.take_packet-requires-clause-may
take_packet-requires-clause-may g c = rw c.self.view_is c.requires

pub returns : goal.returns
returns g c = rw (c.self.view_is, ap caller_of c.self.view_is) at c.take_packet.ensures.taken
