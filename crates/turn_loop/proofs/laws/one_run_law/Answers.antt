use Rattle.turn_loop.proofs.EventLemmas.{events-one}
use Rattle.turn_loop.proofs.laws.one_run_law.Goals as goal

pub returns : goal.returns
returns c = events-one c.one_frame.ensures
