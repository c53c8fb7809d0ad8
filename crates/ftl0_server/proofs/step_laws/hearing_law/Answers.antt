use Rattle.ftl0_server.proofs.step_laws.HearingLemmas.{hearing-law}
use Rattle.ftl0_server.proofs.step_laws.hearing_law.Goals as goal

pub returns : goal.returns
returns c = hearing-law
