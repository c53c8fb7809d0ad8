-- One more digit would pass 2 ^ 64, and so would all digits.
use Rattle.std.proofs.Common.{arith}
use Rattle.command_words.proofs.Digits.{number_after-past}
use Rattle.command_words.proofs.number.number_after.Goals as goal

pub returns-in_default-clause-none : goal.returns-in_default-clause-none
returns-in_default-clause-none c = λ _. number_after-past c.args.digits.now c.loop-digit.digit-index c.loop-digit.number 18446744073709551616 _ c.loop-digit-test.true c.loop-digit.invariant.0 (omega (arith, c.in_default.ensures))
