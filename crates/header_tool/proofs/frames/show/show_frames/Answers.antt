-- One more octet, and the line of the part that it ended, which waits or is put.
use Rattle.std.proofs.Common.{◌+◌, ◌<◌, ℕ, ap, ◌∙◌, arith, drop, slice_index}
use Rattle.kiss.specs.Hearing.{parts_ended}
use Rattle.header_tool.proofs.Names.{kiss_parts, drop_all, All-from_get_or}
use Rattle.header_tool.proofs.frames.Showing.{left_is, of_fault, showing-more, showing-end, showing-passed, showing-stops}
use Rattle.header_tool.proofs.frames.Showing.{untouched-stops}
use Rattle.header_tool.proofs.frames.show.show_frames.Goals as goal

pub returns-in_err-gather-clause-shown : goal.returns-in_err-gather-clause-shown
returns-in_err-gather-clause-shown g c =
    let recorded = c.args.recorded.now in
    let at = c.loop-count.count + c.pass-count.result in
    let passed = showing-passed g.O.Out.shown g.O.Out.faults recorded c.args.out.now c.loop-count.reader.heard c.loop-count.lines.bytes c.loop-count.count c.pass-count.result c.loop-count.out
    c.loop-count.invariant c.pass-count.new.self.heard c.pass-count.ensures.heard
    (ap kiss_parts c.pass-count.ensures.heard ∙ c.pass-count.ensures.no_part c.pass-count.result (omega arith)) in
    let stops = showing-stops g.O.Out.shown g.O.Out.faults recorded c.args.out.now c.pass-count.new.self.heard (drop at recorded) c.loop-count.lines.bytes c.loop-count.out
    passed c.gather.new.out c.in_err-gather.ensures.err
    (c.one_text.ensures.some recorded (All-from_get_or (λ (octet : ℕ). octet < 256) recorded 0 (λ i below. omega (arith, c.type_inv.recorded i)))) in
    (stops.0, stops.1, of_fault _ _ _ c.from_residual.ensures.0 stops.2)

pub returns-in_err-gather-clause-untouched : goal.returns-in_err-gather-clause-untouched
returns-in_err-gather-clause-untouched g c =
    let recorded = c.args.recorded.now in
    let at = c.loop-count.count + c.pass-count.result in
    let passed = showing-passed g.O.Out.shown g.O.Out.faults recorded c.args.out.now c.loop-count.reader.heard c.loop-count.lines.bytes c.loop-count.count c.pass-count.result c.loop-count.out
    c.loop-count.invariant c.pass-count.new.self.heard c.pass-count.ensures.heard
    (ap kiss_parts c.pass-count.ensures.heard ∙ c.pass-count.ensures.no_part c.pass-count.result (omega arith)) in
    let later = drop (at + 1) recorded in
    untouched-stops g.O.Out.shown g.O.Out.faults recorded c.args.out.now c.pass-count.new.self.heard (drop at recorded) c.loop-count.lines.bytes c.loop-count.out passed
    (slice_index recorded at) later c.feed-fed.new.self.heard (parts_ended c.feed-fed.result c.feed-fed.new.self) c.gather.new.out (left_is recorded at c.if-count-recorded.true)
    (c.feed-fed.ensures.parts later) (λ none. (c.in_err-gather.ensures.untouched none).0)

pub loop-count-preserved-in-Continue-1 : goal.loop-count-preserved-in-Continue-1
loop-count-preserved-in-Continue-1 g c =
    let recorded = c.args.recorded.now in
    let at = c.loop-count.count + c.pass-count.result in
    let passed = showing-passed g.O.Out.shown g.O.Out.faults recorded c.args.out.now c.loop-count.reader.heard c.loop-count.lines.bytes c.loop-count.count c.pass-count.result c.loop-count.out
    c.loop-count.invariant c.pass-count.new.self.heard c.pass-count.ensures.heard
    (ap kiss_parts c.pass-count.ensures.heard ∙ c.pass-count.ensures.no_part c.pass-count.result (omega arith)) in
    let later = drop (at + 1) recorded in
    showing-more g.O.Out.shown g.O.Out.faults recorded c.args.out.now c.pass-count.new.self.heard (drop at recorded) c.loop-count.lines.bytes c.loop-count.out passed
    (slice_index recorded at) later c.feed-fed.new.self.heard c.gather.new.lines.bytes (parts_ended c.feed-fed.result c.feed-fed.new.self) c.gather.new.out (left_is recorded at c.if-count-recorded.true)
    (c.feed-fed.ensures.parts later) c.feed-fed.ensures.no_part c.in_ok-gather.ensures.ok c.in_ok-gather.ensures.cause.same c.in_ok-gather.ensures.untouched

pub loop-count-preserved : goal.loop-count-preserved
loop-count-preserved g c =
    let recorded = c.args.recorded.now in
    showing-passed g.O.Out.shown g.O.Out.faults recorded c.args.out.now c.loop-count.reader.heard c.loop-count.lines.bytes c.loop-count.count c.pass-count.result c.loop-count.out
    c.loop-count.invariant c.pass-count.new.self.heard c.pass-count.ensures.heard
    (ap kiss_parts c.pass-count.ensures.heard ∙ c.pass-count.ensures.no_part c.pass-count.result (omega arith))

pub returns-clause-shown : goal.returns-clause-shown
returns-clause-shown g c =
    let recorded = c.args.recorded.now in
    let at = c.loop-count.count in
    showing-end g.O.Out.shown g.O.Out.faults recorded c.args.out.now c.put_last.result c.loop-count.reader.heard (drop at recorded) c.loop-count.lines.bytes c.loop-count.out c.put_last.new.out
    c.loop-count.invariant (drop_all at recorded c.loop-count-test.false) c.put_last.ensures.ok c.put_last.ensures.err
