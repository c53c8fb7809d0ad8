use Rattle.kiss.proofs.FrameOctets as octets
use Rattle.kiss.proofs.laws.frames_have_octets.Goals as goal

pub returns : goal.returns
returns c = octets.frames_have_octets
