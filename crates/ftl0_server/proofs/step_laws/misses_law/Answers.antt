-- From the laws of the session's table.
use Rattle.ftl0_server.proofs.step_laws.MissesLemmas.{misses-law}
use Rattle.ftl0_server.proofs.step_laws.misses_law.Goals as goal

pub returns : goal.returns
returns c = misses-law c.reads_law.ensures.rows c.reads_law.ensures.due
