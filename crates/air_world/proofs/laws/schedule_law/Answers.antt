-- From the lemmas on runs.
use Rattle.air_world.proofs.RunLemmas.{schedule-law}
use Rattle.air_world.proofs.laws.schedule_law.Goals as goal

pub returns : goal.returns
returns c = schedule-law c.sound_law.ensures c.parts_law.ensures c.prefixes_law.ensures
