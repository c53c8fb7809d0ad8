use Rattle.kiss.proofs.LawProofs as law
use Rattle.kiss.proofs.laws.parts_go_on.Goals as goal

pub returns-clause-parts : goal.returns-clause-parts
returns-clause-parts c = law.parts_go_on

pub returns-clause-frames : goal.returns-clause-frames
returns-clause-frames c = law.frames_go_on
