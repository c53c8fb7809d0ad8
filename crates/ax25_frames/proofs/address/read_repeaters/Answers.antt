-- One more repeater entry, and the last one.
use Rattle.std.proofs.Common.{◌≡◌, ◌+◌, arith, ℕ, Bool, true, false, subst}
use Rattle.ax25_frames.proofs.Names.{BeginsUnended, EntryAt}
use Rattle.ax25_frames.proofs.FaultLemmas.{too_many, more_unended}
use Rattle.ax25_frames.proofs.ReadLemmas.{repeaters_more, repeaters_end}
use Rattle.ax25_frames.proofs.address.read_repeaters.Goals as goal

pub returns-then-repeater-clause-repeaters : goal.returns-then-repeater-clause-repeaters
returns-then-repeater-clause-repeaters c =
    let r = c.in_ok-repeater.repeater in
    let there : EntryAt c.args.bytes.now (2 + c.loop-via.via) r.call r.c_or_h_bit r.is_last =
    subst (λ (n : ℕ). EntryAt c.args.bytes.now (2 + n) r.call r.c_or_h_bit r.is_last) c.from.ensures c.in_ok-repeater.ensures.entry in
    let last : EntryAt c.args.bytes.now (2 + c.loop-via.via) r.call r.c_or_h_bit true =
    subst (λ (b : Bool). EntryAt c.args.bytes.now (2 + c.loop-via.via) r.call r.c_or_h_bit b) c.if-repeater.true there in
    (repeaters_end c.args.bytes.now c.loop-via.via r.call r.c_or_h_bit c.loop-via.invariant last, omega arith, omega arith)

pub loop-via-preserved : goal.loop-via-preserved
loop-via-preserved c =
    let r = c.in_ok-repeater.repeater in
    let there : EntryAt c.args.bytes.now (2 + c.loop-via.via) r.call r.c_or_h_bit r.is_last =
    subst (λ (n : ℕ). EntryAt c.args.bytes.now (2 + n) r.call r.c_or_h_bit r.is_last) c.from.ensures c.in_ok-repeater.ensures.entry in
    let open_entry : EntryAt c.args.bytes.now (2 + c.loop-via.via) r.call r.c_or_h_bit false =
    subst (λ (b : Bool). EntryAt c.args.bytes.now (2 + c.loop-via.via) r.call r.c_or_h_bit b) c.if-repeater.false there in
    repeaters_more c.args.bytes.now c.loop-via.via r.call r.c_or_h_bit c.loop-via.invariant open_entry
    (more_unended c.args.bytes.now (2 + c.loop-via.via) r.call r.c_or_h_bit c.loop-via.invariant.before open_entry)

pub returns-clause-fault : goal.returns-clause-fault
returns-clause-fault c =
    let ten : 2 + c.loop-via.via ≡ 10 = omega arith in
    too_many c.args.bytes.now (subst (BeginsUnended c.args.bytes.now) ten c.loop-via.invariant.before)
