use Rattle.ftl0_server.proofs.step_laws.FrontLemmas.{front-of-event}
use Rattle.ftl0_server.proofs.step_laws.front_of_event_law.Goals as goal

pub returns : goal.returns
returns c = front-of-event
