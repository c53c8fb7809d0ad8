use Rattle.std.proofs.Common.{refl, ◌∙◌, []}
use Rattle.kiss.proofs.Names.{take_all}
use Rattle.kiss.proofs.Splitting.{ends_with}
use Rattle.kiss.proofs.whole.parts_of_pieces.Goals as goal

pub returns : goal.returns
returns c =
    ends_with c.loop-piece.parts.items c.loop-piece.reader.heard _ c.loop-piece.invariant.no_part (c.loop-piece.invariant.ended [])
    ∙ rw (take_all c.loop-piece.piece-index c.args.pieces.now c.loop-piece-test.false) refl
