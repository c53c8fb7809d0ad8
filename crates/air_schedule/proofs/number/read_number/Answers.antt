-- The decimal text of a number is read as that number, and it is one word.
use Rattle.std.proofs.Common.{◌≡◌, ℕ, ◌<◌, ◌^◌, Ok, true, decimal, bytes_eq, sym, ◌∙◌, ap, arith}
use Rattle.air_schedule.proofs.Names.{not, false≢true, parse-decimal, bytes_eq-Decides}
use Rattle.air_schedule.proofs.WordLemmas.{IsWord-decimal, same_words, sole_word, words_of-word}
use Rattle.air_schedule.proofs.number.read_number.Goals.{In_default, Then-ne}
use Rattle.air_schedule.proofs.number.read_number.Goals as goal

none : (c : In_default) (number : ℕ) → number < 2 ^ 64 → c.args.word.now ≡ decimal number → ⊥
none c number h e = c.in_default.not-Ok number (parse-decimal 64 number c.args.word.now c.parse.result h h e c.parse.ensures.value.0)

pub returns-in_default-clause-number : goal.returns-in_default-clause-number
returns-in_default-clause-number c = none c

pub returns-in_default-clause-one_word : goal.returns-in_default-clause-one_word
returns-in_default-clause-one_word c = λ number h e. none c number h (sole_word c.args.word.now (decimal number) e)

other : (c : Then-ne) (number : ℕ) → number < 2 ^ 64 → c.args.word.now ≡ decimal number → ⊥
other c number h e =
    let parsed : c.parse.result ≡ Ok number = parse-decimal 64 number c.args.word.now c.parse.result h h e c.parse.ensures.value.0 in
    let same : number ≡ c.in-Ok.number = cc (parsed, c.in-Ok.is) in
    let written : c.format.result.now ≡ c.args.word.now = c.format.ensures.text ∙ sym (e ∙ ap decimal same) in
    let yes : bytes_eq c.format.result.now c.args.word.now ≡ true = (bytes_eq-Decides c.format.result.now c.args.word.now).1 written in
    false≢true (sym (ap not yes) ∙ sym c.ne.ensures ∙ c.if-ne.true)

pub returns-then-ne-clause-number : goal.returns-then-ne-clause-number
returns-then-ne-clause-number c = other c

pub returns-then-ne-clause-one_word : goal.returns-then-ne-clause-one_word
returns-then-ne-clause-one_word c = λ number h e. other c number h (sole_word c.args.word.now (decimal number) e)

pub returns-clause-one_word : goal.returns-clause-one_word
returns-clause-one_word c =
    let written : c.args.word.now ≡ decimal c.in-Ok.number = sym (same_words _ _ (sym c.ne.ensures ∙ c.if-ne.false)) ∙ c.format.ensures.text in
    rw written (words_of-word (decimal c.in-Ok.number) (IsWord-decimal c.in-Ok.number (omega arith)))
