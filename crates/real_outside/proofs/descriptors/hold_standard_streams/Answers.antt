use Rattle.std.proofs.Common.{◌≡◌, ◌+◌, length, arith, true, false, Ok, Err, inr}
use Rattle.real_outside.proofs.Names.{asks_as, asks_more, AreHeld, HoldsLowest}
use Rattle.real_outside.proofs.Errors.{handed_on}
use Rattle.real_outside.proofs.Held.{are_standard, length_more, opened_failed, opened_held, opened_last}
use Rattle.real_outside.proofs.descriptors.hold_standard_streams.Goals as goal

pub returns-then-not-branch : goal.returns-then-not-branch
returns-then-not-branch g c =
    let number = g.N.NullDevice.descriptor in
    let answers_of = g.N.NullDevice.answers in
    let made = c.hold_next.ensures in
    let no : c.hold_next.result ≡ Ok false = cc (c.in_ok-hold_next.was, c.if-not-branch.true) in
    asks_more (λ answers. AreHeld number c.loop.streams answers × (length answers ≡ c.loop.counter)) (HoldsLowest number (Ok c.hold_next.new.streams))
    (answers_of c.args.null.now) (answers_of c.loop.null) (answers_of c.hold_next.new.null) made.0 made.1
    (λ answers before. opened_last number c.loop.streams c.hold_next.new.streams made.0 c.hold_next.result answers made.2 no before.0)
    c.loop.invariant

pub returns-in_err-hold_next : goal.returns-in_err-hold_next
returns-in_err-hold_next g c =
    let number = g.N.NullDevice.descriptor in
    let made = c.in_err-hold_next.ensures in
    let error = c.in_err-hold_next.field-0.0 in
    let result = c.from_residual.result in
    asks_more (λ answers. AreHeld number c.loop.streams answers × (length answers ≡ c.loop.counter))
    (HoldsLowest number result) _ _ _ made.0 made.1
    (λ answers before.
    opened_failed number c.loop.streams c.hold_next.new.streams made.0 error result answers made.2
    (handed_on result error c.from_residual.ensures))
    c.loop.invariant

pub loop-preserved : goal.loop-preserved
loop-preserved g c =
    let number = g.N.NullDevice.descriptor in
    let answers_of = g.N.NullDevice.answers in
    let made = c.hold_next.ensures in
    let yes : c.hold_next.result ≡ Ok true = cc (c.in_ok-hold_next.was, c.if-not-branch.false) in
    asks_more (λ answers. AreHeld number c.loop.streams answers × (length answers ≡ c.loop.counter))
    (λ answers. AreHeld number c.hold_next.new.streams answers × (length answers ≡ c.loop.counter + 1))
    (answers_of c.args.null.now) (answers_of c.loop.null) (answers_of c.hold_next.new.null) made.0 made.1
    (λ answers before. (
      opened_held number c.loop.streams c.hold_next.new.streams made.0 c.hold_next.result answers made.2 yes before.0,
      length_more answers made.0 c.loop.counter before.1,
    ))
    c.loop.invariant

pub returns : goal.returns
returns g c =
    let number = g.N.NullDevice.descriptor in
    let answers_of = g.N.NullDevice.answers in
    let four : c.loop.counter ≡ 4 = omega arith in
    asks_as (λ answers. AreHeld number c.loop.streams answers × (length answers ≡ c.loop.counter)) (HoldsLowest number (Err c.from.result))
    (answers_of c.args.null.now) (answers_of c.loop.null)
    (λ answers before. inr (cc (before.1, four), are_standard number c.loop.streams answers before.0))
    c.loop.invariant
