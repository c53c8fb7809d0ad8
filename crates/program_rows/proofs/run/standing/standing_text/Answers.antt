-- A store that was recovered is ready on its disk.
use Rattle.program_rows.proofs.run.standing.standing_text.Goals as goal

pub store_text-requires : goal.store_text-requires
store_text-requires c = c.in-Ok.ensures.recovered.ready
