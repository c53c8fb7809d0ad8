-- A turn's octets are handed over, and then it ticks; or one of the two stops it.
use Rattle.std.proofs.Common.{take, Ok, Err}
use Rattle.px_base.specs.declared.air.Turn.TheVariants as turn
use Rattle.turn_loop.proofs.Names.{at, octets_at, tick_after, turn_inputs, TookTurn}
use Rattle.turn_loop.proofs.InputLemmas.{tick-inputs}
use Rattle.turn_loop.proofs.SayingLemmas.{at_exit, takes-before, takes-then}
use Rattle.turn_loop.proofs.TurnLemmas.{turn-closed, turn-failed, turn-stopped, turn-taken}
use Rattle.turn_loop.proofs.turns.take_turn.Goals as goal

pub returns-in_err-hear_octets-in-Ok-Bytes : goal.returns-in_err-hear_octets-in-Ok-Bytes
returns-in_err-hear_octets-in-Ok-Bytes g c =
    let p = c.in-Ok-Bytes.ensures in
    let heard = rw c.in-Ok-Bytes.field-0-is at p.heard in
    let octets = take c.in-Ok-Bytes.count c.poll.new.room in
    let old = at c.args.party.now c.args.disk.now in
    let new = at c.hear_octets.new.party c.hear_octets.new.disk in
    let why = (c.in_err-hear_octets-in-Ok-Bytes).field-0.0 in
    at_exit (λ r. TookTurn g.P.Party.course g.A.Air c.args.air.now c.hear_octets.new.air old new (λ next. turn_inputs next c.args.last c.args.moment) r)
    c.from_residual.result why c.from_residual.ensures.1
    (turn-stopped g.P.Party.course g.A.Air c.args.air.now c.poll.new.self old c.args.last c.args.moment p.said p.read_faults.same p.write_faults c.hear_octets.new.air new (turn.Bytes octets) why heard tt
    (takes-before g.P.Party.course g.A.Air c.is_lawful.ensures c.poll.new.self c.hear_octets.new.air old new (octets_at c.args.moment octets) (tick_after c.args.last c.args.moment) why
    (tick-inputs c.args.last c.args.moment) (c.in_err-hear_octets-in-Ok-Bytes).ensures))

pub returns-in_err-tick-in-Ok-Bytes : goal.returns-in_err-tick-in-Ok-Bytes
returns-in_err-tick-in-Ok-Bytes g c =
    let p = c.in-Ok-Bytes.ensures in
    let heard = rw c.in-Ok-Bytes.field-0-is at p.heard in
    let octets = take c.in-Ok-Bytes.count c.poll.new.room in
    let old = at c.args.party.now c.args.disk.now in
    let new = at c.tick.new.party c.tick.new.disk in
    let why = (c.in_err-tick-in-Ok-Bytes).field-0.0 in
    at_exit (λ r. TookTurn g.P.Party.course g.A.Air c.args.air.now c.tick.new.air old new (λ next. turn_inputs next c.args.last c.args.moment) r)
    (c.from_residual-in_err-tick-in-Ok-Bytes).result why (c.from_residual-in_err-tick-in-Ok-Bytes).ensures.1
    (turn-stopped g.P.Party.course g.A.Air c.args.air.now c.poll.new.self old c.args.last c.args.moment p.said p.read_faults.same p.write_faults c.tick.new.air new (turn.Bytes octets) why heard tt
    (takes-then g.P.Party.course g.A.Air c.is_lawful.ensures c.poll.new.self c.hear_octets.new.air c.tick.new.air old (at c.hear_octets.new.party c.hear_octets.new.disk) new
    (octets_at c.args.moment octets) (tick_after c.args.last c.args.moment) (Err why) (c.in_ok-hear_octets-in-Ok-Bytes).ensures (c.in_err-tick-in-Ok-Bytes).ensures))

pub returns-in_err-tick-in-Ok-Quiet : goal.returns-in_err-tick-in-Ok-Quiet
returns-in_err-tick-in-Ok-Quiet g c =
    let p = c.in-Ok-Quiet.ensures in
    let heard = rw c.in-Ok-Quiet.field-0-is at p.heard in
    let old = at c.args.party.now c.args.disk.now in
    let now = (c.tick-in-Ok-Quiet).new in
    let new = at now.party now.disk in
    let why = (c.in_err-tick-in-Ok-Quiet).field-0.0 in
    at_exit (λ r. TookTurn g.P.Party.course g.A.Air c.args.air.now now.air old new (λ next. turn_inputs next c.args.last c.args.moment) r)
    (c.from_residual-in_err-tick-in-Ok-Quiet).result why (c.from_residual-in_err-tick-in-Ok-Quiet).ensures.1
    (turn-stopped g.P.Party.course g.A.Air c.args.air.now c.poll.new.self old c.args.last c.args.moment p.said p.read_faults.same p.write_faults now.air new turn.Quiet why heard tt
    (c.in_err-tick-in-Ok-Quiet).ensures)

pub returns-in_ok-tick-in-Ok-Bytes : goal.returns-in_ok-tick-in-Ok-Bytes
returns-in_ok-tick-in-Ok-Bytes g c =
    let p = c.in-Ok-Bytes.ensures in
    let heard = rw c.in-Ok-Bytes.field-0-is at p.heard in
    let octets = take c.in-Ok-Bytes.count c.poll.new.room in
    let old = at c.args.party.now c.args.disk.now in
    let new = at c.tick.new.party c.tick.new.disk in
    turn-taken g.P.Party.course g.A.Air c.args.air.now c.poll.new.self old c.args.last c.args.moment p.said p.read_faults.same p.write_faults c.tick.new.air new (turn.Bytes octets) heard tt
    (takes-then g.P.Party.course g.A.Air c.is_lawful.ensures c.poll.new.self c.hear_octets.new.air c.tick.new.air old (at c.hear_octets.new.party c.hear_octets.new.disk) new
    (octets_at c.args.moment octets) (tick_after c.args.last c.args.moment) (Ok tt) (c.in_ok-hear_octets-in-Ok-Bytes).ensures (c.in_ok-tick-in-Ok-Bytes).ensures)

pub returns-in_ok-tick-in-Ok-Quiet : goal.returns-in_ok-tick-in-Ok-Quiet
returns-in_ok-tick-in-Ok-Quiet g c =
    let p = c.in-Ok-Quiet.ensures in
    let heard = rw c.in-Ok-Quiet.field-0-is at p.heard in
    let now = (c.tick-in-Ok-Quiet).new in
    turn-taken g.P.Party.course g.A.Air c.args.air.now c.poll.new.self (at c.args.party.now c.args.disk.now) c.args.last c.args.moment p.said p.read_faults.same p.write_faults now.air
    (at now.party now.disk) turn.Quiet heard tt (c.in_ok-tick-in-Ok-Quiet).ensures

pub returns-in-Ok-End : goal.returns-in-Ok-End
returns-in-Ok-End g c =
    let p = c.in-Ok-End.ensures in
    let heard = rw c.in-Ok-End.field-0-is at p.heard in
    turn-closed g.P.Party.course g.A.Air c.args.air.now c.poll.new.self (at c.args.party.now c.args.disk.now) c.args.last c.args.moment p.said p.read_faults.same p.write_faults
    c.is_lawful.ensures c.requires heard

pub returns-in-Err : goal.returns-in-Err
returns-in-Err g c =
    let p = c.in-Err.ensures in
    turn-failed g.P.Party.course g.A.Air c.args.air.now c.poll.new.self (at c.args.party.now c.args.disk.now) c.args.last c.args.moment p.said p.write_faults
    c.is_lawful.ensures c.requires p.heard p.read_faults.rose
