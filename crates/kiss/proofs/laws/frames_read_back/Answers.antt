use Rattle.kiss.proofs.LawProofs.{all_read_back, all_frames_read_back}
use Rattle.kiss.proofs.laws.frames_read_back.Goals as goal

pub returns-clause-parts : goal.returns-clause-parts
returns-clause-parts c = all_read_back

pub returns-clause-frames : goal.returns-clause-frames
returns-clause-frames c = all_frames_read_back
