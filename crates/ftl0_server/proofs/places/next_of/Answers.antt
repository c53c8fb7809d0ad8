-- The first place that has a frame gives it out, or none has one.
use Rattle.std.proofs.Common.{◌≡◌, List, get_or, false, sym, subst, arith}
use Rattle.std.proofs.lemmas.List.{take_all}
use Rattle.ftl0_server.proofs.Names.{common_steps, slice_get-get_or, Place, AllPlaces, SendsAs, any_pending}
use Rattle.ftl0_server.proofs.NextLemmas.{most-at, next-at, quiet-places, same-at-place, same_places}
use Rattle.ftl0_server.proofs.places.next_of.Goals as goal

pub returns-then-next_out-clause-fewer : goal.returns-then-next_out-clause-fewer
returns-then-next_out-clause-fewer c = grind (arith, common_steps, slice_get-get_or, most-at)

pub returns-then-next_out-clause-gives : goal.returns-then-next_out-clause-gives
returns-then-next_out-clause-gives c = λ w slots all.
    let at = slice_get-get_or c.loop-i.places c.loop-i.i c.index-places-i.result (omega arith) in
    let here = subst (λ (ps : List Place). AllPlaces (SendsAs w) ps slots) (sym c.loop-i.invariant.places) all in
    next-at w c.next_out.new.self c.loop-i.out.items c.next_out.new.out.items c.loop-i.places slots c.loop-i.i (get_or c.loop-i.places c.loop-i.i c.index-places-i.result) here at c.loop-i.invariant.none
    (λ slot sends. c.if-next_out.ensures.gives w slot sends)

pub returns-then-next_out-clause-same : goal.returns-then-next_out-clause-same
returns-then-next_out-clause-same c = grind (arith, common_steps, slice_get-get_or, same-at-place)

pub returns-clause-gives : goal.returns-clause-gives
returns-clause-gives c = λ w slots all.
    let here = subst (λ (ps : List Place). AllPlaces (SendsAs w) ps slots) (sym c.loop-i.invariant.places) all in
    let none : any_pending c.loop-i.places ≡ false = grind (arith, common_steps, take_all) in
    rw (quiet-places w c.loop-i.places slots here none)

pub returns-clause-same : goal.returns-clause-same
returns-clause-same c = grind (arith, common_steps, same_places)
