-- A frame is heard, and the event ends.
use Rattle.std.proofs.Common.{◌≡◌, Err, rules, refl, sym, subst}
use Rattle.ftl0_client.proofs.Names.{Result, ⊤, value_of, Halt, with_notes, Hears, PutsBy, after_hearing, packets_heard, taking}
use Rattle.ftl0_client.proofs.attempt.HearLemmas.{hears-since}
use Rattle.ftl0_client.proofs.attempt.attempt.Attempt.hear.Goals as goal

pub returns-in_err-take_frame-clause-hears : goal.returns-in_err-take_frame-clause-hears
returns-in_err-take_frame-clause-hears g c w a is =
    let frame = value_of c.args.frame.now in
    let why = c.in_err-take_frame.field-0.0 in
    let stops : c.from_residual.result ≡ Err why = search rules in
    let before = with_notes c.args.self.now c.args.notes.now c.args.disk.now in
    let now = with_notes c.take_frame.new.self c.take_frame.new.notes c.take_frame.new.disk in
    let at_result : Result ⊤ Halt → Type 0 = λ r. Hears g.D.Disk w a frame before now r in
    let by = c.in_err-take_frame.ensures.takes w a is in
    subst at_result (sym stops)
    (record {
      by = by;
      since =
          hears-since g.D.Disk g.met.D.Disk.lasts_on (after_hearing w a frame) (packets_heard w a frame) before now w (taking c.args.notes.now.lists (after_hearing w a frame) (packets_heard w a frame)) (Err why) refl by;
    })

pub returns-in_err-take_frame-clause-puts : goal.returns-in_err-take_frame-clause-puts
returns-in_err-take_frame-clause-puts g c =
    let stops : c.from_residual.result ≡ Err c.in_err-take_frame.field-0.0 = search rules in
    let at_result : Result ⊤ Halt → Type 0 = λ r. PutsBy g.D.Disk c.args.disk.now c.take_frame.new.disk r in
    subst at_result (sym stops) c.in_err-take_frame.ensures.puts

pub returns-clause-hears : goal.returns-clause-hears
returns-clause-hears g c w a is =
    let frame = value_of c.args.frame.now in
    let made = c.in_ok-take_frame.ensures.takes w a is in
    record {
      by = (c.settle.ensures.settles w (taking c.args.notes.now.lists (after_hearing w a frame) (packets_heard w a frame)).after made.0, made.1);
      since = made.1.does.since;
    }

pub returns-clause-puts : goal.returns-clause-puts
returns-clause-puts g c = c.in_ok-take_frame.ensures.puts
