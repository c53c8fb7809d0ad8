use Rattle.std.proofs.Common.{sym, ap, ◌∙◌, ◌++◌, ◌∷◌, List, append-nil, rules}
use Rattle.kiss.proofs.Names.{Part, fend, kiss_parts}
use Rattle.kiss.proofs.Splitting.{no_part, no_part_after, kiss_parts-first}
use Rattle.kiss.proofs.Steps.{piece_more, piece_empty}
use Rattle.kiss.proofs.whole.parts.Goals as goal

pub returns-in_default : goal.returns-in_default
returns-in_default c = c.new-parts.ensures.items ∙ sym (no_part c.args.octets.now c.in_default.ensures.none)

pub loop-piece-init : goal.loop-piece-init
loop-piece-init c =
    ap (λ (front : List Part). front ++ kiss_parts (fend ∷ c.in-Some.rest.now)) c.new-parts.ensures.items
    ∙ sym (kiss_parts-first c.in-Some.field-0-0.now (fend ∷ c.in-Some.rest.now) c.in-Some.ensures.found.0)
    ∙ sym (ap kiss_parts c.in-Some.ensures.found.1)

pub loop-piece-preserved-in_ok-push : goal.loop-piece-preserved-in_ok-push
loop-piece-preserved-in_ok-push c =
    piece_more c.loop-piece.parts.items _ _ c.loop-piece.rest.now c.in-Some-at_fend.piece.now c.in-Some-at_fend.after.now c.in_ok-part_between.field-0
    c.loop-piece.invariant c.in-Some-at_fend.ensures.found.0 c.in-Some-at_fend.ensures.found.1 (search rules) c.in_ok-part_between.ensures c.in_ok-push.ensures.items

pub loop-piece-preserved : goal.loop-piece-preserved
loop-piece-preserved c =
    piece_empty c.loop-piece.parts.items _ c.loop-piece.rest.now c.in-Some-at_fend.piece.now c.in-Some-at_fend.after.now
    c.loop-piece.invariant c.in-Some-at_fend.ensures.found.1 (search rules)

pub returns : goal.returns
returns c =
    sym (ap (λ (back : List Part). c.loop-piece.parts.items ++ back) (no_part_after c.loop-piece.rest.now c.in_default-at_fend.ensures.none) ∙ append-nil c.loop-piece.parts.items)
    ∙ c.loop-piece.invariant
