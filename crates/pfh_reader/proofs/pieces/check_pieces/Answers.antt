-- The next piece fits.
use Rattle.std.proofs.Common.{◌≡◌, ℕ, List, length, get_or, sym, ap, ◌∙◌, arith}
use Rattle.std.proofs.lemmas.List.Folds.{length-flat_map-take}
use Rattle.pfh_reader.proofs.pieces.check_pieces.Goals as goal

pub feed-requires : goal.feed-requires
feed-requires c =
    let some = length-flat_map-take (λ (piece : List ℕ). piece) c.args.pieces.now c.loop-piece.piece-index c.piece-item.result (omega arith) in
    let same : length (get_or c.args.pieces.now c.loop-piece.piece-index c.piece-item.result) ≡ length c.as_slice.result.now = ap length (sym c.piece-item.is ∙ sym c.as_slice.ensures) in
    omega (arith, c.loop-piece.invariant.len)
