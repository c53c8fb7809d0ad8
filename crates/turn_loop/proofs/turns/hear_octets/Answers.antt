-- The loop goes on behind what was taken.
use Rattle.std.proofs.Common.{List, [], ◌++◌, Ok, Err, take, drop, refl, sym, subst}
use Rattle.turn_loop.proofs.Names.{AllByRecursion, octets_from_fits, at, Input, IsInput, octets_at, Takes}
use Rattle.turn_loop.proofs.InputLemmas.{inputs-behind, octets-inputs, octets-parts, octets_at-append, split-more}
use Rattle.turn_loop.proofs.SayingLemmas.{at_exit, takes-before, takes-none, takes-then}
use Rattle.turn_loop.proofs.turns.hear_octets.Goals as goal

pub loop-piece-init : goal.loop-piece-init
loop-piece-init g c = ([], refl, takes-none g.P.Party.course g.A.Air c.is_lawful.ensures c.args.air.now (at c.args.party.now c.args.disk.now) c.requires)

pub returns-in_err-taken : goal.returns-in_err-taken
returns-in_err-taken g c =
    let moment = c.args.moment in
    let h = c.loop-piece.invariant in
    let k = c.in_err-taken.ensures in
    let old = at c.args.party.now c.args.disk.now in
    let new = at c.hear_piece.new.party c.hear_piece.new.disk in
    let parts = octets-parts moment c.args.octets.now h.0 c.loop-piece.piece.now k.0 h.1 in
    let first = octets_at moment h.0 in
    let then_are = octets_at moment (take k.0 c.loop-piece.piece.now) in
    let others = octets_at moment (drop k.0 c.loop-piece.piece.now) in
    at_exit (λ r. Takes g.P.Party.course g.A.Air c.args.air.now c.hear_piece.new.air old new (octets_at moment c.args.octets.now) r)
    c.from_residual.result c.in_err-taken.field-0.0 c.from_residual.ensures.1
    (subst (λ (is : List Input). Takes g.P.Party.course g.A.Air c.args.air.now c.hear_piece.new.air old new is (Err c.in_err-taken.field-0.0)) (sym parts)
    (takes-before g.P.Party.course g.A.Air c.is_lawful.ensures c.args.air.now c.hear_piece.new.air old new (first ++ then_are) others c.in_err-taken.field-0.0
    (inputs-behind (first ++ then_are) others (subst (AllByRecursion IsInput) parts (octets-inputs moment c.args.octets.now (octets_from_fits c.args.octets.now c.type_inv.octets))))
    (takes-then g.P.Party.course g.A.Air c.is_lawful.ensures c.args.air.now c.loop-piece.air c.hear_piece.new.air old (at c.loop-piece.party c.loop-piece.disk) new first then_are
    (Err c.in_err-taken.field-0.0) h.2 k.3)))

pub loop-piece-preserved : goal.loop-piece-preserved
loop-piece-preserved g c =
    let moment = c.args.moment in
    let h = c.loop-piece.invariant in
    let k = c.in_ok-taken.ensures in
    let taken = c.in_ok-taken.taken in
    let piece = c.loop-piece.piece.now in
    let old = at c.args.party.now c.args.disk.now in
    let new = at c.hear_piece.new.party c.hear_piece.new.disk in (
      h.0 ++ take taken piece,
      split-more c.args.octets.now h.0 piece c.split_at.result.1.now taken h.1 c.split_at.ensures.back,
      subst (λ (is : List Input). Takes g.P.Party.course g.A.Air c.args.air.now c.hear_piece.new.air old new is (Ok tt)) (sym (octets_at-append moment h.0 (take taken piece)))
          (takes-then g.P.Party.course g.A.Air c.is_lawful.ensures c.args.air.now c.loop-piece.air c.hear_piece.new.air old (at c.loop-piece.party c.loop-piece.disk) new
          (octets_at moment h.0) (octets_at moment (take taken piece)) (Ok tt) h.2 k.2),
    )
