use Rattle.std.proofs.Common.{ap, ◌++◌, ◌∷◌, List, sym, ◌∙◌}
use Rattle.kiss.proofs.Names.{Part, fend, kiss_parts}
use Rattle.kiss.proofs.Steps.{escaped-end, spoilt-end, within-end, fend_again}
use Rattle.kiss.proofs.reader.verdict.Goals as goal

pub returns-in-Framed-clause-parts : goal.returns-in-Framed-clause-parts
returns-in-Framed-clause-parts c = λ later. rw c.in-Framed.is (fend_again later)

pub returns-in-Escaped-clause-parts : goal.returns-in-Escaped-clause-parts
returns-in-Escaped-clause-parts c = λ later. rw c.in-Escaped.is (escaped-end c.args.text.now.items later)

pub returns-in-Spoilt-clause-parts : goal.returns-in-Spoilt-clause-parts
returns-in-Spoilt-clause-parts c = λ later. rw c.in-Spoilt.is (spoilt-end later)

pub returns-in-Within-clause-parts : goal.returns-in-Within-clause-parts
returns-in-Within-clause-parts c = λ later.
    rw c.in-Within.is (within-end c.args.text.now.items later ∙ ap (λ (parts : List Part). parts ++ kiss_parts (fend ∷ later)) (sym (rw c.deref.ensures.0 at c.verdict_on.ensures.parts)))
