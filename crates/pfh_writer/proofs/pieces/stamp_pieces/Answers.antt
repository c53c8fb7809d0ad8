use Rattle.std.proofs.Common.{◌≡◌, ℕ, ◌+◌, ◌<◌, List, ◌++◌, length, take, get_or, slice_set, Vec, Global, sym, ap, ◌∙◌, subst}
use Rattle.std.specs.Vec.{with_items}
use Rattle.pfh_writer.proofs.Names.{flat_map, with_items_is, HasStamped}
use Rattle.pfh_writer.proofs.PieceLemmas.{fed_more, given_more, rest_more}
use Rattle.pfh_writer.proofs.pieces.stamp_pieces.Goals as goal

abbrev octets_of : Vec ℕ Global → List ℕ
octets_of piece = piece.items

pub loop-piece-preserved : goal.loop-piece-preserved
loop-piece-preserved c =
    let invariant = c.loop-piece.invariant in
    let next : Vec ℕ Global = with_items (get_or c.loop-piece.pieces c.loop-piece.piece-index c.piece-item.result) c.feed.new.piece in
    let within : c.loop-piece.piece-index < length c.args.pieces.now = c.loop-piece-test.true in
    let new_is : (with_items (get_or c.loop-piece.pieces c.loop-piece.piece-index c.piece-item.result) c.feed.new.piece).items ≡ c.feed.new.piece =
    with_items_is (get_or c.loop-piece.pieces c.loop-piece.piece-index c.piece-item.result) c.feed.new.piece (c.feed.auto.piece ∙ c.as_mut_slice.ensures.len) in
    record {
      stamp = c.feed.ensures.stamp ∙ invariant.stamp;
      sum = c.feed.ensures.sum ∙ invariant.sum;
      passed =
          subst (λ (t : List ℕ). HasStamped c.feed.new.self t (flat_map (λ piece. piece.items) (take (c.loop-piece.piece-index + 1) (slice_set c.loop-piece.pieces c.loop-piece.piece-index (with_items (get_or c.loop-piece.pieces c.loop-piece.piece-index c.piece-item.result) c.feed.new.piece)))))
          (ap (λ (t : List ℕ). flat_map octets_of (take c.loop-piece.piece-index c.args.pieces.now) ++ t) c.as_mut_slice.ensures.value
          ∙ fed_more octets_of c.args.pieces.now c.loop-piece.pieces c.loop-piece.piece-index c.piece-item.result next within c.loop-piece.auto.pieces invariant.rest)
          (subst (λ (t : List ℕ). HasStamped c.feed.new.self (flat_map octets_of (take c.loop-piece.piece-index c.args.pieces.now) ++ c.as_mut_slice.result.now) t)
          (ap (λ (t : List ℕ). flat_map octets_of (take c.loop-piece.piece-index c.loop-piece.pieces) ++ t) (sym new_is)
          ∙ given_more octets_of c.args.pieces.now c.loop-piece.pieces c.loop-piece.piece-index c.piece-item.result
          (with_items (get_or c.loop-piece.pieces c.loop-piece.piece-index c.piece-item.result) c.feed.new.piece) within c.loop-piece.auto.pieces invariant.rest)
          (c.feed.ensures.fed (flat_map octets_of (take c.loop-piece.piece-index c.args.pieces.now)) (flat_map octets_of (take c.loop-piece.piece-index c.loop-piece.pieces)) invariant.passed));
      rest =
          rest_more octets_of c.args.pieces.now c.loop-piece.pieces c.loop-piece.piece-index c.piece-item.result
          (with_items (get_or c.loop-piece.pieces c.loop-piece.piece-index c.piece-item.result) c.feed.new.piece) within c.loop-piece.auto.pieces invariant.rest;
    }
