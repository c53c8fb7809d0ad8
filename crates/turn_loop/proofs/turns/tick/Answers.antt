-- Saying what the party gives ends it.
use Rattle.std.proofs.Common.{◌≡◌, List, [], ◌∷◌, None, Some, Bool, true, false, ◌&&◌, refl, subst, sym, ◌∙◌}
use Rattle.std.specs.Prelude.{◌==◌}
use Rattle.turn_loop.proofs.Names.{at, Input, tick, tick_after, Takes}
use Rattle.turn_loop.proofs.InputLemmas.{tick-there}
use Rattle.turn_loop.specs.declared.stop.NodeStop.TheVariants as stop
use Rattle.turn_loop.proofs.SayingLemmas.{at_exit, taken-unsaid}
use Rattle.turn_loop.proofs.turns.tick.Goals as goal

-- two moments differ as numbers do: their kind is one
other-number : (b : Bool) → (b && true) ≡ false → b ≡ false
other-number false h = refl
other-number true h = h

pub returns-in_err-put_all-in-Ok : goal.returns-in_err-put_all-in-Ok
returns-in_err-put_all-in-Ok g c =
    at_exit (λ r. Takes g.P.Party.course g.A.Air c.args.air.now c.put_all.new.air (at c.args.party.now c.args.disk.now) (at c.put_all.new.party c.put_all.new.disk) (tick_after c.args.last c.args.moment) r)
    c.from_residual.result stop.AirWrite c.from_residual.ensures.1
    (taken-unsaid g.P.Party.course g.A.Air c.args.air.now c.put_all.new.air (at c.args.party.now c.args.disk.now) (at c.tick.new.self c.tick.new.disk) (at c.put_all.new.party c.put_all.new.disk)
    (tick_after c.args.last c.args.moment) c.in_err-put_all-in-Ok.field-0.0
    (subst (λ (is : List Input). g.P.Party.course.owes (at c.args.party.now c.args.disk.now) is None [] (at c.tick.new.self c.tick.new.disk)) (tick-there c.args.last c.args.moment (other-number (c.args.moment == c.args.last) (sym c.eq.ensures ∙ c.if-eq.false)))
    c.in-Ok.ensures.takes) c.in_err-put_all-in-Ok.ensures)

pub put_all-requires : goal.put_all-requires
put_all-requires g c = (at c.args.party.now c.args.disk.now, tick c.args.moment ∷ [], None, [], c.in-Ok.ensures.takes)

pub put_all-requires-in-Err : goal.put_all-requires-in-Err
put_all-requires-in-Err g c =
    let h = c.in-Err.ensures.takes in
    (at c.args.party.now c.args.disk.now, tick c.args.moment ∷ [], Some h.0, [], h.2)
