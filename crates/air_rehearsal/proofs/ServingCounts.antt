-- Arming counts no failed write.
use Rattle.std.proofs.Common.{◌≡◌, Option, None, Some, ap}
use Rattle.air_rehearsal.proofs.Names.{Cuts, Ghosts, ArmsFor, Cut}

pub arms-count : {B : Type 0} (g : Ghosts B) (cuts : Cuts B) (cut : Option Cut) (disk armed : B)
    → ArmsFor g cuts cut disk armed → g.write_faults armed ≡ g.write_faults disk
arms-count g cuts None disk armed arms = ap (λ d. g.write_faults d) arms
arms-count g cuts (Some cut) disk armed arms = arms.writes
