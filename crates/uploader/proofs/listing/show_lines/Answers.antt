-- One line more is shown, or a front of one.
use Rattle.std.proofs.Common.{◌≡◌, ℕ, ◌+◌, ◌-◌, ◌/◌, ◌≤◌, List, [], length, take, drop, sym, ap, ◌∙◌, subst, arith, length-drop}
use Rattle.uploader.proofs.Names.{length-take-le, take_rest, Gains, GainsPrefix, file_line, first_lines, listing_lines, short_len}
use Rattle.uploader.proofs.LineLemmas.{IsShowing, header-there, lines-end, lines-step, on_err, showing-end, showing-more, showing-stops}
use Rattle.uploader.proofs.listing.show_lines.Goals as goal

pub slice_bounds-line_of_header-end : goal.slice_bounds-line_of_header-end
slice_bounds-line_of_header-end g c =
    sym (length-take-le 73 c.loop.left.now (header-there c.args.listing.now c.loop.left.now c.loop.counter c.loop.invariant.left c.loop-test.true))

pub line_of_header-line-requires : goal.line_of_header-line-requires
line_of_header-line-requires g c =
    length-take-le 73 c.loop.left.now (header-there c.args.listing.now c.loop.left.now c.loop.counter c.loop.invariant.left c.loop-test.true)

pub returns-in_err-put-clause-err : goal.returns-in_err-put-clause-err
returns-in_err-put-clause-err g c =
    let left = c.loop.left.now in
    let n = length c.args.listing.now / 73 in
    let line = c.as_bytes.ensures.value ∙ c.as_str.ensures.value ∙ c.line_of_header-line.ensures in
    on_err _ (showing-stops g.O.Out.shown g.O.Out.faults c.args.out.now (listing_lines c.args.listing.now) c.loop.out c.put.new.self (file_line (take short_len left))
    (first_lines (n - (c.loop.counter + 1)) (drop short_len left)) _ c.loop.invariant.showing (lines-step n c.loop.counter left c.loop-test.true)
    (subst (GainsPrefix (g.O.Out.shown c.loop.out) (g.O.Out.shown c.put.new.self)) line c.in_err-put.ensures.err))

pub loop-preserved : goal.loop-preserved
loop-preserved g c =
    let left = c.loop.left.now in
    let n = length c.args.listing.now / 73 in
    let all = c.loop.invariant.left in
    let there : 73 ≤ length left = header-there c.args.listing.now left c.loop.counter all c.loop-test.true in
    let rest : length (take (length left - 73) (drop 73 left)) ≡ length left - 73 = ap length (take_rest left 73) ∙ length-drop 73 left in
    let line = c.as_bytes.ensures.value ∙ c.as_str.ensures.value ∙ c.line_of_header-line.ensures in
    let P : List ℕ → Type 0 =
    λ t. IsShowing g.O.Out.shown g.O.Out.faults c.args.out.now c.put.new.self (listing_lines c.args.listing.now) (first_lines (n - (c.loop.counter + 1)) t) in
    record {
      showing =
          subst P (sym (take_rest left 73))
          (showing-more g.O.Out.shown g.O.Out.faults c.args.out.now (listing_lines c.args.listing.now) c.loop.out c.put.new.self (file_line (take short_len left))
          (first_lines (n - (c.loop.counter + 1)) (drop short_len left)) _ c.loop.invariant.showing (lines-step n c.loop.counter left c.loop-test.true)
          (subst (Gains (g.O.Out.shown c.loop.out) (g.O.Out.shown c.put.new.self)) line c.in_ok-put.ensures.ok) c.in_ok-put.ensures.faults.same);
      left = omega (arith, rest, there, all);
    }

pub returns-clause-ok : goal.returns-clause-ok
returns-clause-ok g c =
    let last : length c.args.listing.now / 73 - c.loop.counter ≡ 0 = omega arith in
    let none : first_lines (length c.args.listing.now / 73 - c.loop.counter) c.loop.left.now ≡ [] = ap (λ (k : ℕ). first_lines k c.loop.left.now) last ∙ lines-end c.loop.left.now in
    showing-end g.O.Out.shown g.O.Out.faults c.args.out.now (listing_lines c.args.listing.now) c.loop.out _ c.loop.invariant.showing none
