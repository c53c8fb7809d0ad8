-- The number that is read is the one that the word writes.
use Rattle.std.proofs.Common.{◌≡◌, decimal, inl, inr, arith}
use Rattle.air_schedule.proofs.Names.{decimal_injective}
use Rattle.air_schedule.proofs.number.read_ranged.Goals as goal

pub returns-then-number-low : goal.returns-then-number-low
returns-then-number-low c = λ number least most h.
    let written : decimal c.in_ok-number.number ≡ decimal number = cc (h, c.in_ok-number.ensures.one_word) in
    let same : c.in_ok-number.number ≡ number = decimal_injective c.in_ok-number.number number (omega arith) (omega arith) written in
    elim c.then-number-low.either [ inl low ↦ omega arith | inr high ↦ omega arith ]
