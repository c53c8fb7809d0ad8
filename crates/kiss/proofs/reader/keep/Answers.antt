use Rattle.kiss.proofs.Steps.{too_long}
use Rattle.std.proofs.Common.{arith}
use Rattle.kiss.proofs.reader.keep.Goals as goal

pub returns-then-is_full-clause-parts : goal.returns-then-is_full-clause-parts
returns-then-is_full-clause-parts c = λ later. too_long c.args.text.now.items c.args.octet later (grind arith)
