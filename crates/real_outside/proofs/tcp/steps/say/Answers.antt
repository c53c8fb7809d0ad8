use Rattle.std.proofs.Common.{refl}
use Rattle.real_outside.proofs.Names.{is_ok, Puts, Readies, SaysAt, asks_then}
use Rattle.real_outside.proofs.tcp.steps.say.Goals as goal

pub returns-clause-asks : goal.returns-clause-asks
returns-clause-asks g c =
    let before = c.args.stage.now in
    let ready = c.make_ready-ready.result in
    let octets = c.args.bytes.now in
    let done = is_ok c.say_at-said.result in
    asks_then (Readies before ready) (SaysAt ready octets done) (Puts before octets done c.after_saying.result) _ _ _
    (λ first later readies says. (ready, (first, later, refl, readies, (says, c.after_saying.ensures))))
    c.make_ready-ready.ensures.asks c.say_at-said.ensures.asks
