use Rattle.std.proofs.Common.{refl}
use Rattle.real_outside.proofs.Names.{turn_of, HearsAt, Polls, Readies, asks_then}
use Rattle.real_outside.proofs.tcp.steps.hear.Goals as goal

pub returns-clause-asks : goal.returns-clause-asks
returns-clause-asks g c =
    let before = c.args.stage.now in
    let ready = c.make_ready-ready.result in
    let next = turn_of c.hear_at-polled.result c.hear_at-polled.new.room in
    asks_then (Readies before ready) (HearsAt ready next) (Polls before next c.after_hearing.result) _ _ _
    (λ first later readies hears. (ready, (first, later, refl, readies, (hears, c.after_hearing.ensures c.hear_at-polled.new.room))))
    c.make_ready-ready.ensures.asks c.hear_at-polled.ensures.asks
