use Rattle.std.proofs.Common.{◌≡◌, length, arith}
use Rattle.px_base.proofs.Names.{nat_tests, CallSign}
use Rattle.px_base.proofs.Calls.{split_made, split_length, split_fails_at_once, split_fails_after, split_is_call, call_valid}
use Rattle.px_base.proofs.call.Call.read.Goals as goal

pub returns-then-is_empty-clause-bad : goal.returns-then-is_empty-clause-bad
returns-then-is_empty-clause-bad c =
    let split = split_made _ _ _ _ _ c.as_bytes-octets.ensures.value c.base_length-length.ensures c.split_at.ensures.front c.split_at.ensures.back in
    let none : length c.split_at.result.0.now ≡ 0 = grind (arith, nat_tests) in
    split_fails_at_once c.args.text.now _ _ _ split none

pub padded-requires : goal.padded-requires
padded-requires c =
    let split = split_made _ _ _ _ _ c.as_bytes-octets.ensures.value c.base_length-length.ensures c.split_at.ensures.front c.split_at.ensures.back in
    let l = split_length c.args.text.now _ _ _ split in
    omega (arith, l.0, l.1)

pub invariant_of-result : goal.invariant_of-result
invariant_of-result c =
    let call : CallSign = record { chars = c.padded.result; ssid = c.in-Some.ssid } in
    let split = split_made _ _ _ _ _ c.as_bytes-octets.ensures.value c.base_length-length.ensures c.split_at.ensures.front c.split_at.ensures.back in
    let some : length c.split_at.result.0.now ≡ 0 → ⊥ = λ k. grind (arith, nat_tests) in
    call_valid call c.args.text.now (split_is_call c.args.text.now _ _ _ call split some c.padded.ensures c.in-Some.ensures.some)

pub returns-in-Some-clause-call : goal.returns-in-Some-clause-call
returns-in-Some-clause-call c =
    let call : CallSign = record { chars = c.padded.result; ssid = c.in-Some.ssid } in
    let split = split_made _ _ _ _ _ c.as_bytes-octets.ensures.value c.base_length-length.ensures c.split_at.ensures.front c.split_at.ensures.back in
    let some : length c.split_at.result.0.now ≡ 0 → ⊥ = λ k. grind (arith, nat_tests) in
    split_is_call c.args.text.now _ _ _ call split some c.padded.ensures c.in-Some.ensures.some

pub returns-in-None-clause-bad : goal.returns-in-None-clause-bad
returns-in-None-clause-bad c =
    let split = split_made _ _ _ _ _ c.as_bytes-octets.ensures.value c.base_length-length.ensures c.split_at.ensures.front c.split_at.ensures.back in
    let some : length c.split_at.result.0.now ≡ 0 → ⊥ = λ k. grind (arith, nat_tests) in
    split_fails_after c.args.text.now _ _ _ _ split some c.in-None.ensures.none c.reach_in_ssid.ensures
