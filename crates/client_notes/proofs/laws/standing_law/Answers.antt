use Rattle.client_notes.proofs.StandingLemmas.{standing-back, standing-forth}
use Rattle.client_notes.proofs.laws.standing_law.Goals as goal

pub returns : goal.returns
returns c octets lists are = (standing-forth octets lists are, λ is. standing-back octets lists is.0 is.1)
