use Rattle.kiss.proofs.Escapes.{first-plain}
use Rattle.kiss.proofs.whole.first_octet.Goals as goal

pub returns-then-piece-clause-found : goal.returns-then-piece-clause-found
returns-then-piece-clause-found c = first-plain c.args.piece.now c.requires c.if-piece.true
