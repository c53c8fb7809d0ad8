use Rattle.std.proofs.Common.{◌≡◌, ◌+◌, ◌≤◌, ◌<◌, List, [], ◌++◌, length, drop, false, Bool, None, Some, ℕ, refl, sym, subst, arith, length-drop, append-nil}
use Rattle.std.proofs.KnownBytes.{Appends-trans}
use Rattle.real_outside.specs.StreamCalls.{WritesAll, WritesSome}
use Rattle.real_outside.proofs.Names.{is_ok, take_rest, Writes, asks_as, asks_then}
use Rattle.real_outside.proofs.Errors.{not_ok}
use Rattle.real_outside.proofs.Written.{Leads, leads_end, leads_more, take_sum, write_none}
use Rattle.real_outside.proofs.writing.write_all.Goals as goal

pub returns-then-made-clause-asks : goal.returns-then-made-clause-asks
returns-then-made-clause-asks g c =
    let bytes = c.args.bytes.now in
    asks_as (Leads bytes c.loop-written.made c.loop-written.written) (WritesAll bytes false) _ _
    (λ calls leads.
    subst (λ l. Writes 0 bytes false l) (append-nil calls) (leads false [] (c.if-made.true, refl)))
    c.loop-written.invariant.asks

pub returns-in_err-written-clause-asks : goal.returns-in_err-written-clause-asks
returns-in_err-written-clause-asks g c =
    let bytes = c.args.bytes.now in
    let written = c.loop-written.written in
    let made = c.loop-written.made in
    let left : List ℕ = drop written bytes in
    let some : 0 < length left = omega (arith, length-drop written bytes, c.loop-written-test.true) in
    asks_then (Leads bytes made written) (WritesSome left None) (WritesAll bytes (is_ok c.from_residual.result)) _ _ _
    (λ first later leads writes.
    subst (λ (done : Bool). Writes 0 bytes done (first ++ later)) (sym (not_ok c.from_residual.result c.from_residual.ensures.0))
    (leads false later (write_none made left later some writes)))
    c.loop-written.invariant.asks (rw take_rest at c.in_err-written.ensures.call)

pub loop-written-preserved : goal.loop-written-preserved
loop-written-preserved g c =
    let bytes = c.args.bytes.now in
    let written = c.loop-written.written in
    let made = c.loop-written.made in
    let count = c.in_ok-written.field-0 in
    let left : List ℕ = drop written bytes in
    let some : 0 < length left = omega (arith, length-drop written bytes, c.loop-written-test.true) in
    let within : count ≤ length left = rw take_rest at c.in_ok-written.ensures.count in
    record {
      within = omega (arith, within, length-drop written bytes, c.loop-written-test.true);
      tries = omega (arith, c.loop-written.invariant.tries, c.if-made.false);
      contents =
          rw (← take_sum written count bytes)
          (Appends-trans _ _ _ _ _ c.loop-written.invariant.contents (rw take_rest at c.in_ok-written.ensures.contents));
      asks =
          asks_then (Leads bytes made written) (WritesSome left (Some count)) (Leads bytes (made + 1) (written + count)) _ _ _
          (λ first later leads writes. leads_more bytes made written count first later some leads writes)
          c.loop-written.invariant.asks (rw take_rest at c.in_ok-written.ensures.call);
    }

pub returns-clause-asks : goal.returns-clause-asks
returns-clause-asks g c =
    let bytes = c.args.bytes.now in
    let written = c.loop-written.written in
    let made = c.loop-written.made in
    let done = is_ok c.flush.result in
    let whole : written ≡ length bytes = omega (arith, c.loop-written.invariant.within, c.loop-written-test.false) in
    asks_then (Leads bytes made written) (Writes made [] done) (WritesAll bytes done) _ _ _
    (λ first later leads run. leads_end bytes made written done first later whole leads run)
    c.loop-written.invariant.asks (c.flush.ensures.asks made)
