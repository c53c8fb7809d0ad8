use Rattle.std.proofs.Common.{◌≡◌, Bool, ℕ, ◌+◌, ◌<◌, List, [], ◌∷◌, ◌++◌, length, true, drop, ap, sym, subst, arith, length-drop}
use Rattle.real_outside.proofs.Names.{take_rest, IsWriteOf, PutsAt, WritesAll, moved, DeviceCall, asks_as, asks_more}
use Rattle.real_outside.proofs.Errors.{not_ok}
use Rattle.real_outside.proofs.Moving.{Leads, leads_end, leads_fault, leads_more}
use Rattle.real_outside.proofs.disk.moves.put.Goals as goal

abbrev IsNext : ℕ → List ℕ → ℕ → DeviceCall → Type 0
IsNext at octets before = IsWriteOf (at + before) (drop before octets)

pub returns-in_err-written : goal.returns-in_err-written
returns-in_err-written g c =
    let at = c.args.at in
    let bytes = c.args.bytes.now in
    let done = c.loop-written.written in
    let made = c.in_err-written.ensures.call in
    let next : DeviceCall = made.0 in
    let result = c.from_residual.result in
    let is : IsNext at bytes done next = subst (λ (l : List ℕ). IsWriteOf (at + done) l next) (take_rest bytes done) made.3 in
    asks_more (Leads (IsNext at bytes) (length bytes) done) (PutsAt at bytes result) _ _ _ next made.1
    (λ calls leads.
    subst (λ (fully : Bool). WritesAll at bytes (calls ++ next ∷ []) fully) (sym (not_ok result c.from_residual.ensures.0))
    (leads_fault (IsNext at bytes) (length bytes) done calls next c.loop-written-test.true is made.2 leads))
    c.loop-written.invariant.reaches

pub loop-written-preserved : goal.loop-written-preserved
loop-written-preserved g c =
    let at = c.args.at in
    let bytes = c.args.bytes.now in
    let done = c.loop-written.written in
    let count = c.in_ok-written.field-0 in
    let made = c.in_ok-written.ensures.call in
    let next : DeviceCall = made.0 in
    let same : moved next ≡ count = made.2.1 in
    let is : IsNext at bytes done next = subst (λ (l : List ℕ). IsWriteOf (at + done) l next) (take_rest bytes done) made.3 in
    let some : 0 < moved next = omega (arith, same, made.2.0) in
    let Before = Leads (IsNext at bytes) (length bytes) in
    record {
      within = omega (arith, c.in_ok-written.ensures.count, ap length (take_rest bytes done), length-drop done bytes, c.loop-written-test.true);
      reaches =
          asks_more (Before done) (Before (done + count)) (g.V.Device.calls c.args.device.now) (g.V.Device.calls c.loop-written.device) (g.V.Device.calls c.write_some.new.device) next made.1
          (λ calls leads.
          subst (λ (n : ℕ). Before (done + n) (calls ++ next ∷ [])) same (leads_more (IsNext at bytes) (length bytes) done calls next c.loop-written-test.true is some leads))
          c.loop-written.invariant.reaches;
    }

pub returns : goal.returns
returns g c =
    let at = c.args.at in
    let bytes = c.args.bytes.now in
    let whole : c.loop-written.written ≡ length bytes = omega arith in
    asks_as (Leads (IsNext at bytes) (length bytes) c.loop-written.written) (λ calls. WritesAll at bytes calls true) (g.V.Device.calls c.args.device.now) (g.V.Device.calls c.loop-written.device)
    (λ calls leads. leads_end (IsNext at bytes) (length bytes) c.loop-written.written calls whole leads) c.loop-written.invariant.reaches
