-- The loop over turns.
use Rattle.std.proofs.Common.{refl, sym, ◌∙◌, arith, [], None}
use Rattle.turn_loop.specs.declared.stop.NodeStop.TheVariants as stop
use Rattle.turn_loop.proofs.Names.{at, AreHandedOver, TookTurns, lent_party}
use Rattle.turn_loop.proofs.SayingLemmas.{at_exit}
use Rattle.turn_loop.proofs.TurnsLemmas.{turns-closed, turns-more, turns-over, turns-spent, turns-start, turns-stopped, turns-unsaid}
use Rattle.turn_loop.proofs.turns.take_turns.Goals as goal

pub loop-turn-init : goal.loop-turn-init
loop-turn-init g c = (
  turns-start g.P.Party.course g.A.Air g.C.Clock.given (lent_party c.args.party.now c.args.disk.now c.args.air.now c.args.clock.now) c.args.terms.now
      (lent_party c.put_all.new.party c.put_all.new.disk c.put_all.new.air c.args.clock.now) refl c.requires c.in_ok-put_all.ensures,
  λ asked. refl,
)

pub put_all-requires : goal.put_all-requires
put_all-requires g c = (at c.args.party.now c.args.disk.now, [], None, [], c.requires)

pub returns-in_err-put_all-clause-turns : goal.returns-in_err-put_all-clause-turns
returns-in_err-put_all-clause-turns g c =
    let old = lent_party c.args.party.now c.args.disk.now c.args.air.now c.args.clock.now in
    let now = lent_party c.put_all.new.party c.put_all.new.disk c.put_all.new.air c.args.clock.now in
    at_exit (λ r. TookTurns AreHandedOver g.P.Party.course g.A.Air g.C.Clock.given old now c.args.terms.now r) c.from_residual.result stop.AirWrite c.from_residual.ensures.1
    (turns-unsaid g.P.Party.course g.A.Air g.C.Clock.given old c.args.terms.now now refl c.requires c.in_err-put_all.field-0.0 c.in_err-put_all.ensures)

pub returns-then-is_over-clause-turns : goal.returns-then-is_over-clause-turns
returns-then-is_over-clause-turns g c =
    turns-over g.P.Party.course g.A.Air g.C.Clock.given (lent_party c.args.party.now c.args.disk.now c.args.air.now c.args.clock.now) c.args.terms.now
    (lent_party c.loop-turn.party c.loop-turn.disk c.loop-turn.air c.loop-turn.clock) c.loop-turn.last c.loop-turn.turn c.loop-turn.invariant.0 (sym c.if-is_over.ensures) c.loop-turn.turn refl c.loop-turn.auto.turn-end

pub take_turn-requires : goal.take_turn-requires
take_turn-requires g c = c.loop-turn.invariant.0.fit

pub returns-in_err-take_turn-clause-turns : goal.returns-in_err-take_turn-clause-turns
returns-in_err-take_turn-clause-turns g c =
    let old = lent_party c.args.party.now c.args.disk.now c.args.air.now c.args.clock.now in
    let mid = lent_party c.loop-turn.party c.loop-turn.disk c.loop-turn.air c.loop-turn.clock in
    let now = lent_party c.take_turn.new.party c.take_turn.new.disk c.take_turn.new.air c.moment_of_turn-moment.new.clock in
    let moment = c.moment_of_turn-moment.result in
    let why = c.in_err-take_turn.field-0.0 in
    at_exit (λ r. TookTurns AreHandedOver g.P.Party.course g.A.Air g.C.Clock.given old now c.args.terms.now r) (c.from_residual-in_err-take_turn).result why (c.from_residual-in_err-take_turn).ensures.1
    (turns-stopped g.P.Party.course g.A.Air g.C.Clock.given old c.args.terms.now mid c.loop-turn.last c.loop-turn.turn c.loop-turn.invariant.0 c.is_lawful.ensures (sym c.if-is_over.ensures)
    c.loop-turn-test.true moment c.unwrap_or.result c.unwrap_or.ensures now c.moment_of_turn-moment.ensures.moment why c.in_err-take_turn.ensures)

pub returns-then-not-branch-clause-turns : goal.returns-then-not-branch-clause-turns
returns-then-not-branch-clause-turns g c =
    let old = lent_party c.args.party.now c.args.disk.now c.args.air.now c.args.clock.now in
    let mid = lent_party c.loop-turn.party c.loop-turn.disk c.loop-turn.air c.loop-turn.clock in
    let now = lent_party c.take_turn.new.party c.take_turn.new.disk c.take_turn.new.air c.moment_of_turn-moment.new.clock in
    let moment = c.moment_of_turn-moment.result in
    turns-closed g.P.Party.course g.A.Air g.C.Clock.given old c.args.terms.now mid c.loop-turn.last c.loop-turn.turn c.loop-turn.invariant.0 c.is_lawful.ensures (sym c.if-is_over.ensures)
    c.loop-turn-test.true moment c.unwrap_or.result c.unwrap_or.ensures now c.moment_of_turn-moment.ensures.moment c.in_ok-take_turn.field-0 c.if-not-branch.true c.in_ok-take_turn.ensures

pub loop-turn-preserved : goal.loop-turn-preserved
loop-turn-preserved g c =
    let old = lent_party c.args.party.now c.args.disk.now c.args.air.now c.args.clock.now in
    let mid = lent_party c.loop-turn.party c.loop-turn.disk c.loop-turn.air c.loop-turn.clock in
    let now = lent_party c.take_turn.new.party c.take_turn.new.disk c.take_turn.new.air c.moment_of_turn-moment.new.clock in
    let moment = c.moment_of_turn-moment.result in (
      turns-more g.P.Party.course g.A.Air g.C.Clock.given old c.args.terms.now mid c.loop-turn.last c.loop-turn.turn c.loop-turn.invariant.0 c.is_lawful.ensures (sym c.if-is_over.ensures)
          c.loop-turn-test.true moment c.unwrap_or.result c.unwrap_or.ensures now c.moment_of_turn-moment.ensures.moment c.in_ok-take_turn.field-0 c.if-not-branch.false c.in_ok-take_turn.ensures,
      λ asked. c.moment_of_turn-moment.ensures.clock asked ∙ c.loop-turn.invariant.1 asked,
    )

pub returns-then-is_over-2-clause-turns : goal.returns-then-is_over-2-clause-turns
returns-then-is_over-2-clause-turns g c =
    turns-over g.P.Party.course g.A.Air g.C.Clock.given (lent_party c.args.party.now c.args.disk.now c.args.air.now c.args.clock.now) c.args.terms.now
    (lent_party c.loop-turn.party c.loop-turn.disk c.loop-turn.air c.loop-turn.clock) c.loop-turn.last c.loop-turn.turn c.loop-turn.invariant.0 (sym (c.if-is_over-2).ensures)
    c.args.terms.now.polls (omega (arith, c.loop-turn.auto.turn-end, c.loop-turn-test.false)) c.loop-turn.auto.turn-end

pub returns-else-is_over-2-clause-turns : goal.returns-else-is_over-2-clause-turns
returns-else-is_over-2-clause-turns g c =
    turns-spent g.P.Party.course g.A.Air g.C.Clock.given (lent_party c.args.party.now c.args.disk.now c.args.air.now c.args.clock.now) c.args.terms.now
    (lent_party c.loop-turn.party c.loop-turn.disk c.loop-turn.air c.loop-turn.clock) c.loop-turn.last c.loop-turn.turn c.loop-turn.invariant.0 (sym (c.if-is_over-2).ensures)
    (omega (arith, c.loop-turn.auto.turn-end, c.loop-turn-test.false))
