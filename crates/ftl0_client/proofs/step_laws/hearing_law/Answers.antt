use Rattle.ftl0_client.proofs.step_laws.EntryLemmas.{hearing-law}
use Rattle.ftl0_client.proofs.step_laws.hearing_law.Goals as goal

pub returns : goal.returns
returns c = hearing-law
