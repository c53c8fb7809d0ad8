use Rattle.kiss.proofs.Steps.{escaped-ill}
use Rattle.std.proofs.Common.{rules}
use Rattle.kiss.proofs.reader.advance_escaped.Goals as goal

pub returns-in_default-clause-parts : goal.returns-in_default-clause-parts
returns-in_default-clause-parts c = λ later. escaped-ill c.args.text.now.items c.args.octet later c.requires (search rules) (search rules)
