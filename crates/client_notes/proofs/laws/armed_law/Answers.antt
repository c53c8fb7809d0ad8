use Rattle.std.proofs.Common.{arith}
use Rattle.client_notes.proofs.Names.{common_steps}
use Rattle.client_notes.proofs.laws.armed_law.Goals as goal

pub returns : goal.returns
returns g c self old new nothing stands = grind (arith, common_steps)
