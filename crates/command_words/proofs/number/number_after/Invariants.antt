-- The number so far and the digits to come write the number of all digits, and those passed are digits.
use Rattle.std.proofs.Common.{◌≡◌, drop}
use Rattle.command_words.proofs.Names.{AllByRecursion, IsDigit, number_after as digits_after}
use Rattle.command_words.proofs.number.number_after.Given as goal

abbrev pub invariant-loop-digit : goal.invariant-loop-digit
invariant-loop-digit l =
    (digits_after l.number (drop l.digit-index l.digits) ≡ digits_after l.before l.digits)
    × (AllByRecursion IsDigit (drop l.digit-index l.digits) → AllByRecursion IsDigit l.digits)
    × (AllByRecursion IsDigit l.digits → AllByRecursion IsDigit (drop l.digit-index l.digits))
