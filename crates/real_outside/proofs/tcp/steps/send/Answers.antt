use Rattle.std.proofs.Common.{◌≡◌, ◌+◌, ◌<◌, List, [], ◌++◌, length, drop, false, Err, Ok, Bool, ℕ, ap, sym, subst}
use Rattle.std.proofs.Common.{arith, length-drop}
use Rattle.real_outside.specs.Tcp.Connections.{WritesOnce}
use Rattle.real_outside.proofs.Names.{is_ok, take_rest, Sends, asks_then}
use Rattle.real_outside.proofs.Errors.{not_ok}
use Rattle.real_outside.proofs.tcp.Sending.{Leads, leads_end, leads_more, write_none}
use Rattle.real_outside.proofs.tcp.steps.send.Goals as goal

pub returns-in_err-written : goal.returns-in_err-written
returns-in_err-written g c =
    let bytes = c.args.bytes.now in
    let written = c.loop-written.written in
    let down = c.in_err-written.field-0.0 in
    let left : List ℕ = drop written bytes in
    let some : 0 < length left = omega (arith, length-drop written bytes, c.loop-written-test.true) in
    asks_then (Leads bytes written) (WritesOnce left (Err down)) (Sends bytes (is_ok c.from_residual.result)) _ _ _
    (λ first later leads writes.
    subst (λ (done : Bool). Sends bytes done (first ++ later)) (sym (not_ok c.from_residual.result c.from_residual.ensures.0))
    (leads false later (write_none left down later some writes)))
    c.loop-written.invariant.asks (rw take_rest at c.in_err-written.ensures.call)

pub loop-written-preserved : goal.loop-written-preserved
loop-written-preserved g c =
    let bytes = c.args.bytes.now in
    let written = c.loop-written.written in
    let count = c.in_ok-written.field-0 in
    let left : List ℕ = drop written bytes in
    let some : 0 < length left = omega (arith, length-drop written bytes, c.loop-written-test.true) in
    record {
      within = omega (arith, c.in_ok-written.ensures.count, ap length (take_rest bytes written), length-drop written bytes, c.loop-written-test.true);
      asks =
          asks_then (Leads bytes written) (WritesOnce left (Ok count)) (Leads bytes (written + count)) _ _ _
          (λ first later leads writes. leads_more bytes written count first later some leads writes)
          c.loop-written.invariant.asks (rw take_rest at c.in_ok-written.ensures.call);
    }

pub returns : goal.returns
returns g c =
    let bytes = c.args.bytes.now in
    let written = c.loop-written.written in
    let done = is_ok c.flush.result in
    let whole : written ≡ length bytes = omega arith in
    asks_then (Leads bytes written) (Sends [] done) (Sends bytes done) _ _ _
    (λ first later leads run. leads_end bytes written done first later whole leads run)
    c.loop-written.invariant.asks c.flush.ensures
