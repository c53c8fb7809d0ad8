use Rattle.ftl0_server.proofs.connection.QueuingLemmas.{queued-law}
use Rattle.ftl0_server.proofs.connection.laws.queued_law.Goals as goal

pub returns : goal.returns
returns c = queued-law
