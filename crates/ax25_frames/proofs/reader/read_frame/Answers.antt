-- The frame that was read, or the first fault.
use Rattle.std.proofs.Common.{rules, ◌<◌, ◌≡◌, ◌+◌, ◌*◌, ℕ, Bool, arith, sym, ap, ◌∙◌, subst, drop, slice_index}
use Rattle.ax25_frames.proofs.Names.{All-from_get_or, BadControl, FrameValue, FrameText, FaultAt, kind_value, poll_bit}
use Rattle.ax25_frames.proofs.FrameLemmas.{no_frame, one_frame}
use Rattle.ax25_frames.proofs.ReadLemmas.{short_at, control_fault, rest_fault_at, frame_at, octets_after}
use Rattle.ax25_frames.proofs.reader.read_frame.Goals as goal

pub returns-in_err-addresses-clause-only : goal.returns-in_err-addresses-clause-only
returns-in_err-addresses-clause-only c = λ frame t. absurd (no_frame c.in_err-addresses.field-0.0 c.args.bytes.now frame c.in_err-addresses.ensures.fault t)

pub returns-in_default-clause-fault : goal.returns-in_default-clause-fault
returns-in_default-clause-fault c =
    let a = c.in_ok-addresses.addresses in
    short_at c.args.bytes.now a.dest a.src a.via a.command (14 + 7 * a.via) c.in_ok-addresses.ensures.addresses (omega (arith, c.in_default.ensures.lookup.3))

pub returns-in_default-clause-only : goal.returns-in_default-clause-only
returns-in_default-clause-only c = λ frame t. (returns-in_default-clause-fault c).2 frame t

pub returns-in_default-read_control-clause-fault : goal.returns-in_default-read_control-clause-fault
returns-in_default-read_control-clause-fault c =
    let a = c.in_ok-addresses.addresses in
    let is : c.in-Some.octet.now ≡ slice_index c.args.bytes.now (14 + 7 * a.via) =
    c.in-Some.ensures.lookup.4 (omega arith) 0 ∙ ap (λ (n : ℕ). slice_index c.args.bytes.now (14 + 7 * n)) c.from.ensures in
    control_fault c.args.bytes.now a.dest a.src a.via a.command (14 + 7 * a.via) c.in_ok-addresses.ensures.addresses c.in-Some.octet.now is
    (omega (arith, c.in-Some.ensures.lookup.3.0)) c.in_default-read_control.ensures.none

pub returns-in_default-read_control-clause-only : goal.returns-in_default-read_control-clause-only
returns-in_default-read_control-clause-only c =
    λ frame t. no_frame (BadControl c.in-Some.octet.now) c.args.bytes.now frame (returns-in_default-read_control-clause-fault c) t

-- the fault of what follows the control octet
kind_fault : (c : goal.After-from_residual-in_err-kind) → FaultAt c.in_err-kind.field-0.0 c.args.bytes.now
kind_fault c =
    let a = c.in_ok-addresses.addresses in
    let is : c.in-Some.octet.now ≡ slice_index c.args.bytes.now (14 + 7 * a.via) =
    c.in-Some.ensures.lookup.4 (omega arith) 0 ∙ ap (λ (n : ℕ). slice_index c.args.bytes.now (14 + 7 * n)) c.from.ensures in
    let rest : c.split_at.result.1.now ≡ drop (14 + 7 * a.via + 1) c.args.bytes.now =
    c.split_at.ensures.back ∙ ap (λ (n : ℕ). drop (14 + 7 * n + 1) c.args.bytes.now) c.from.ensures in
    rest_fault_at c.args.bytes.now a.dest a.src a.via a.command (14 + 7 * a.via) c.in_ok-addresses.ensures.addresses c.in-Some.octet.now
    c.in-Some-read_control.control (poll_bit c.in-Some.octet.now) c.split_at.result.1.now c.in_err-kind.field-0.0 is (omega (arith, c.in-Some.ensures.lookup.3.0))
    c.in-Some-read_control.ensures.some.1 rest c.in-Some-read_control.ensures.some.0
    (octets_after (14 + 7 * a.via + 1) c.args.bytes.now c.split_at.result.1.now rest
    (All-from_get_or (λ (octet : ℕ). octet < 256) c.args.bytes.now 0 (λ i below. omega (arith, c.type_inv.bytes i))))
    c.in_err-kind.ensures.fault

pub returns-in_err-kind-clause-fault : goal.returns-in_err-kind-clause-fault
returns-in_err-kind-clause-fault c = let fault = kind_fault c in search rules

pub returns-in_err-kind-clause-only : goal.returns-in_err-kind-clause-only
returns-in_err-kind-clause-only c = λ frame t. absurd (no_frame c.in_err-kind.field-0.0 c.args.bytes.now frame (kind_fault c) t)

pub returns-clause-frame : goal.returns-clause-frame
returns-clause-frame c =
    let a = c.in_ok-addresses.addresses in
    let is : c.in-Some.octet.now ≡ slice_index c.args.bytes.now (14 + 7 * a.via) =
    c.in-Some.ensures.lookup.4 (omega arith) 0 ∙ ap (λ (n : ℕ). slice_index c.args.bytes.now (14 + 7 * n)) c.from.ensures in
    let rest : c.split_at.result.1.now ≡ drop (14 + 7 * a.via + 1) c.args.bytes.now =
    c.split_at.ensures.back ∙ ap (λ (n : ℕ). drop (14 + 7 * n + 1) c.args.bytes.now) c.from.ensures in
    let made : Bool → FrameValue = λ poll. record { dest = a.dest; src = a.src; via = a.via; kind = kind_value c.in_ok-kind.kind; poll = poll; command = a.command } in
    subst (λ (p : Bool). FrameText (made p) c.args.bytes.now) (sym c.poll_bit.ensures)
    (frame_at c.args.bytes.now a.dest a.src a.via a.command (14 + 7 * a.via) c.in_ok-addresses.ensures.addresses c.in-Some.octet.now
    c.in-Some-read_control.control (poll_bit c.in-Some.octet.now) c.split_at.result.1.now (kind_value c.in_ok-kind.kind) is (omega (arith, c.in-Some.ensures.lookup.3.0))
    c.in-Some-read_control.ensures.some.1 rest c.in_ok-kind.ensures.control c.in_ok-kind.ensures.rest c.in_ok-kind.ensures.fits)

pub returns-clause-only : goal.returns-clause-only
returns-clause-only c = λ frame t. one_frame _ frame c.args.bytes.now (returns-clause-frame c) t
