use Rattle.kiss.proofs.LawProofs.{reads_back}
use Rattle.kiss.proofs.laws.frame_reads_back.Goals as goal

pub returns : goal.returns
returns c = reads_back
