-- From the lemmas on runs.
use Rattle.air_world.proofs.RunLemmas.{no-cuts-law}
use Rattle.air_world.proofs.laws.no_cuts_law.Goals as goal

pub returns : goal.returns
returns c = no-cuts-law c.schedule_law.ensures
