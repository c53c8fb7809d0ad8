-- Lemmas on the numbers that digits write.
use Rattle.std.proofs.Common.{◌≡◌, ℕ, ◌+◌, ◌-◌, ◌*◌, ◌≤◌, ◌<◌, List, [], ◌∷◌, drop, length, get_or, sym, ◌∙◌, arith}
use Rattle.std.proofs.lemmas.List.{at_drop_more}
use Rattle.command_words.proofs.Names.{number_after}

-- further digits make a number no less
pub number_after-le : (n : ℕ) (digits : List ℕ) → n ≤ number_after n digits
number_after-le n [] = omega arith
number_after-le n (d ∷ digits) = omega (arith, number_after-le (10 * n + (d - 48)) digits)

-- A number that one more digit takes past a bound, all digits take past it.
pub number_after-past : (digits : List ℕ) (i n bound all : ℕ) → i < length digits → number_after n (drop i digits) ≡ all → bound ≤ 10 * n + (get_or digits i 0 - 48) → bound ≤ all
number_after-past digits i n bound all h e past =
    let least : 10 * n + (get_or digits i 0 - 48) ≤ number_after (10 * n + (get_or digits i 0 - 48)) (drop (i + 1) digits) = number_after-le (10 * n + (get_or digits i 0 - 48)) (drop (i + 1) digits) in
    omega (arith, sym e ∙ at_drop_more (number_after n) digits i 0 h)
