use Rattle.ftl0_client.proofs.step_laws.StopLemmas.{front-of-event}
use Rattle.ftl0_client.proofs.step_laws.front_of_event_law.Goals as goal

pub returns : goal.returns
returns c = front-of-event
