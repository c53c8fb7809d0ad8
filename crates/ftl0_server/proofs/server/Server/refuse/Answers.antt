-- The DM to be sent is another, and all else stays.
use Rattle.std.proofs.Common.{sym, arith}
use Rattle.ftl0_server.proofs.Names.{common_steps}
use Rattle.ftl0_server.proofs.server.Server.refuse.Goals as goal

pub returns-clause-refuses : goal.returns-clause-refuses
returns-clause-refuses c = λ store server is. let was = rw (sym c.self.view_is) at is in grind (arith, common_steps)
