-- One more piece, and the whole run.
use Rattle.std.proofs.Common.{◌≡◌, ◌+◌, ◌<◌, ℕ, List, [], ◌++◌, length, take, get_or, flat_map, refl, sym, ap, ◌∙◌, subst, arith, append_assoc}
use Rattle.ftl0_packets.proofs.Names.{append-nil, flat_map_more, take_more, take_all, IsOctets, Item, TakesAll, packets_of, rest_of, under_way, Stream}
use Rattle.ftl0_packets.proofs.OctetLemmas.{IsOctets-append}
use Rattle.ftl0_packets.proofs.StreamLemmas.{stream_of}
use Rattle.ftl0_packets.proofs.pieces.feed_pieces.Goals as goal

joined : List (List ℕ) → List ℕ
joined pieces = flat_map (λ (piece : List ℕ). piece) pieces

-- the pieces so far and one more, whatever comes later
joined_more : (pieces : List (List ℕ)) (i : ℕ) (piece octets : List ℕ) → i < length pieces → piece ≡ get_or pieces i piece → octets ≡ piece
    → joined (take (i + 1) pieces) ≡ joined (take i pieces) ++ octets
unfolding joined
joined_more pieces i piece octets below is same =
    ap joined (take_more pieces i piece below)
    ∙ sym (flat_map_more (λ (x : List ℕ). x) [] (take i pieces) (get_or pieces i piece))
    ∙ ap (λ (x : List ℕ). joined (take i pieces) ++ x) (sym is ∙ sym same)

pub loop-piece-preserved : goal.loop-piece-preserved
unfolding joined
loop-piece-preserved g c =
    let before : List ℕ = joined (take c.loop-piece.piece-index c.args.pieces.now) in
    let more : joined (take (c.loop-piece.piece-index + 1) c.args.pieces.now) ≡ before ++ c.as_slice.result.now =
    joined_more c.args.pieces.now c.loop-piece.piece-index c.piece-item.result c.as_slice.result.now (omega arith) c.piece-item.is c.as_slice.ensures in
    let with_later : (later : List ℕ) → before ++ (c.as_slice.result.now ++ later) ≡ joined (take (c.loop-piece.piece-index + 1) c.args.pieces.now) ++ later =
    λ later. sym (append_assoc before c.as_slice.result.now later) ∙ ap (λ (x : List ℕ). x ++ later) (sym more) in
    record {
      packets = λ later end taken.
          subst (λ (x : List ℕ). TakesAll g.S.PacketSink.takes c.args.sink.now (packets_of x) end) (with_later later)
          (c.loop-piece.invariant.packets (c.as_slice.result.now ++ later) end (c.feed_piece.ensures.packets later end taken));
      rest = λ later.
          c.feed_piece.ensures.rest later
          ∙ c.loop-piece.invariant.rest (c.as_slice.result.now ++ later)
          ∙ ap rest_of (with_later later);
      none = c.feed_piece.ensures.none c.loop-piece.invariant.none;
      left = c.feed_piece.ensures.left c.loop-piece.invariant.left;
      octets = subst IsOctets (sym more) (IsOctets-append before c.as_slice.result.now c.loop-piece.invariant.octets c.feed_piece.ensures.octets);
    }

pub returns : goal.returns
unfolding joined
returns g c =
    let all : List ℕ = joined c.args.pieces.now in
    let whole : joined (take c.loop-piece.piece-index c.args.pieces.now) ++ [] ≡ all =
    append-nil (joined (take c.loop-piece.piece-index c.args.pieces.now))
    ∙ ap joined (take_all c.loop-piece.piece-index c.args.pieces.now (omega arith)) in
    let octets : IsOctets all =
    subst IsOctets (ap joined (take_all c.loop-piece.piece-index c.args.pieces.now (omega arith))) c.loop-piece.invariant.octets in
    let rest : rest_of all ≡ under_way c.loop-piece.reader =
    ap rest_of (sym whole)
    ∙ sym (c.loop-piece.invariant.rest [])
    ∙ ap rest_of (append-nil (under_way c.loop-piece.reader))
    ∙ c.loop-piece.invariant.left in
    let none : packets_of (under_way c.loop-piece.reader ++ []) ≡ [] =
    ap packets_of (append-nil (under_way c.loop-piece.reader)) ∙ c.loop-piece.invariant.none in (
      packets_of all,
      subst (λ (x : List ℕ). Stream all (packets_of all) x) rest (stream_of all octets),
      subst (λ (x : List ℕ). TakesAll g.S.PacketSink.takes c.args.sink.now (packets_of x) c.loop-piece.sink) whole
          (c.loop-piece.invariant.packets [] c.loop-piece.sink
          (subst (λ (x : List Item). TakesAll g.S.PacketSink.takes c.loop-piece.sink x c.loop-piece.sink) (sym none) refl)),
    )
