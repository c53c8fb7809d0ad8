use Rattle.std.proofs.Common.{◌≡◌, ℕ, ◌+◌, ◌-◌, ◌/◌, ◌≤◌, length, take, drop, rules, sym, ap, ◌∙◌, arith, length-drop}
use Rattle.std.specs.Prelude.{◌==◌}
use Rattle.ftl0_client_job.proofs.Names.{length-take-le, are_headers}
use Rattle.ftl0_client_job.proofs.ShortLemmas.{header-there, headers-end, headers-none, headers-on, rest-is}
use Rattle.ftl0_client_job.proofs.short.are_short_headers.Goals as goal

pub slice_bounds-is_short_header-end : goal.slice_bounds-is_short_header-end
slice_bounds-is_short_header-end c =
    sym (length-take-le 73 c.loop.left.now (header-there c.args.octets.now c.loop.left.now c.loop.counter c.loop.invariant.left c.loop-test.true))

pub returns-then-not-is_short_header : goal.returns-then-not-is_short_header
returns-then-not-is_short_header c =
    sym (headers-none (length c.args.octets.now / 73) c.loop.counter c.loop.left.now c.loop-test.true (sym c.is_short_header.ensures ∙ c.if-not-is_short_header.true)) ∙ c.loop.invariant.headers

pub loop-preserved : goal.loop-preserved
loop-preserved c =
    let left = c.loop.left.now in
    let n = length c.args.octets.now / 73 in
    let all = c.loop.invariant.left in
    let there : 73 ≤ length left = header-there c.args.octets.now left c.loop.counter all c.loop-test.true in
    let rest : length (take (length left - 73) (drop 73 left)) ≡ length left - 73 = ap length (rest-is left 73) ∙ length-drop 73 left in
    record {
      headers = ap (are_headers (n - (c.loop.counter + 1))) (rest-is left 73)
          ∙ headers-on n c.loop.counter left c.loop-test.true (sym c.is_short_header.ensures ∙ c.if-not-is_short_header.false) ∙ c.loop.invariant.headers;
      left = omega (arith, rest, there, all);
    }

pub returns : goal.returns
returns c =
    let left = c.loop.left.now in
    let n = length c.args.octets.now / 73 in
    let test : c.is_empty.result ≡ (length left == 0) = search rules in
    let last : 0 ≡ n - c.loop.counter = omega arith in
    test ∙ sym (headers-end left) ∙ ap (λ (k : ℕ). are_headers k left) last ∙ c.loop.invariant.headers
