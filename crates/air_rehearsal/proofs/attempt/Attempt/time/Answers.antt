-- Octets of a frame are read.
use Rattle.air_rehearsal.proofs.attempt.Attempt.time.Goals as goal

pub returns-in_default : goal.returns-in_default
returns-in_default c lanes frame has text = absurd (c.in_default.ensures.only frame text)
