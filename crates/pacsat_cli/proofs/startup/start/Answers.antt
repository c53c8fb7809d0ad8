use Rattle.std.proofs.Common.{ap, sym, ◌∙◌}
use Rattle.pacsat_cli.proofs.Names.{number_of}
use Rattle.pacsat_cli.proofs.Starting.{closed, ran, refused}
use Rattle.pacsat_cli.proofs.startup.start.Goals as goal

pub returns-then-is_err : goal.returns-then-is_err
returns-then-is_err g c =
    closed (g.H.Host.calls c.args.host.now) (g.H.Host.calls c.hold_streams.new.self) (g.H.Host.calls c.end_with.new.host)
    c.hold_streams.result c.end_with.result (sym c.if-is_err.ensures.value) c.hold_streams.ensures c.end_with.ensures.call
    c.end_with.ensures.number

pub returns-in-Ok : goal.returns-in-Ok
returns-in-Ok g c =
    ran (g.H.Host.calls c.args.host.now) (g.H.Host.calls c.hold_streams.new.self) (g.H.Host.calls c.run_by.new.host)
    c.hold_streams.result c.number.result (g.H.Host.calls c.words.new.self) c.in-Ok.words c.run_by.result
    (sym c.if-is_err.ensures.value) c.hold_streams.ensures c.in-Ok.ensures (rw c.of.ensures at c.run_by.ensures) c.number.ensures

pub returns-in-Err : goal.returns-in-Err
returns-in-Err g c =
    refused (g.H.Host.calls c.args.host.now) (g.H.Host.calls c.hold_streams.new.self)
    (g.H.Host.calls c.end_with-in-Err.new.host) c.hold_streams.result c.end_with-in-Err.result
    (g.H.Host.calls c.words.new.self) c.in-Err.refusal (sym c.if-is_err.ensures.value) c.hold_streams.ensures c.in-Err.ensures
    (rw (sym c.status_of_words.ensures) c.end_with-in-Err.ensures.call)
    (c.end_with-in-Err.ensures.number ∙ ap number_of c.status_of_words.ensures)
