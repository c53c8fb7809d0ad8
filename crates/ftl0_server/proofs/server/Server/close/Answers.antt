-- Each place may be ended: the store holds its session's upload, and no caller has two.
use Rattle.ftl0_server.proofs.EndLemmas.{may-all}
use Rattle.ftl0_server.proofs.server.Server.close.Goals as goal

pub end_all-requires : goal.end_all-requires
end_all-requires c = let settled = c.self.invariant.settled in may-all c.self.inside.store c.self.inside.places ((λ i connection at. (settled.seated i connection at).held), settled.distinct)
