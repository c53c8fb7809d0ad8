use Rattle.kiss.proofs.LawProofs as law
use Rattle.kiss.proofs.laws.escapes_one_way.Goals as goal

pub returns : goal.returns
returns c = law.escapes_one_way
