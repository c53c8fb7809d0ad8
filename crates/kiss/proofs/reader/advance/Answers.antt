use Rattle.kiss.proofs.Steps.{spoilt-other}
use Rattle.kiss.proofs.Splitting.{kiss_parts-before}
use Rattle.kiss.proofs.reader.advance.Goals as goal

pub returns-in-Waiting-clause-parts : goal.returns-in-Waiting-clause-parts
returns-in-Waiting-clause-parts c = λ later. rw c.in-Waiting.is (kiss_parts-before c.args.octet later c.requires)

pub returns-in-Spoilt-clause-parts : goal.returns-in-Spoilt-clause-parts
returns-in-Spoilt-clause-parts c = λ later. rw c.in-Spoilt.is (spoilt-other c.args.octet later c.requires)
