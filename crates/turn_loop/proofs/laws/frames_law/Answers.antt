use Rattle.turn_loop.proofs.EventLemmas.{events-frames}
use Rattle.turn_loop.proofs.laws.frames_law.Goals as goal

pub returns : goal.returns
returns c = events-frames
