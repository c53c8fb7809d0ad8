use Rattle.ftl0_client.proofs.step_laws.EntryLemmas.{ticking-law}
use Rattle.ftl0_client.proofs.step_laws.ticking_law.Goals as goal

pub returns : goal.returns
returns c = ticking-law
