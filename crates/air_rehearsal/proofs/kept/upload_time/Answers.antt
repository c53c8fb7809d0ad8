-- The items of the file are those that are found in it.
use Rattle.std.proofs.Common.{◌≡◌, ◌≢◌, ℕ, List, length, None, Some, ap, sym, ◌∙◌, arith, rules}
use Rattle.air_rehearsal.proofs.Names.{option_copied, nat_tests, le32, field_of, ItemValue, one_header, number_in}
use Rattle.air_rehearsal.proofs.kept.upload_time.Goals as goal

number-other : (octets : List ℕ) → length octets ≢ 4 → number_in (Some octets) ≡ None
number-other octets other = grind (arith, nat_tests)

number-four : (octets : List ℕ) → length octets ≡ 4 → number_in (Some octets) ≡ Some (le32 octets 0)
number-four octets four = grind (arith, nat_tests)

pub returns-in_err-moment : goal.returns-in_err-moment
returns-in_err-moment c items body text fine =
    let same = one_header c.args.file.now c.in-Ok.header.items items _ body c.in-Ok.ensures.ok.file_text text in
    let field = ap option_copied (sym c.in_err-moment.was) ∙ c.field.ensures in
    let none : c.from_residual.result ≡ None = search rules in
    none ∙ ap number_in field ∙ ap (λ (them : List ItemValue). number_in (field_of 0x12 them)) same.0

pub returns-then-moment-ne4 : goal.returns-then-moment-ne4
returns-then-moment-ne4 c items body text fine =
    let same = one_header c.args.file.now c.in-Ok.header.items items _ body c.in-Ok.ensures.ok.file_text text in
    let field = ap option_copied (sym c.in_ok-moment.was) ∙ c.field.ensures in
    sym (number-other c.in_ok-moment.moment.now (search rules)) ∙ ap number_in field
    ∙ ap (λ (them : List ItemValue). number_in (field_of 0x12 them)) same.0

pub returns : goal.returns
returns c items body text fine =
    let same = one_header c.args.file.now c.in-Ok.header.items items _ body c.in-Ok.ensures.ok.file_text text in
    let field = ap option_copied (sym c.in_ok-moment.was) ∙ c.field.ensures in
    ap Some (c.new.ensures ∙ c.le32.ensures) ∙ sym (number-four c.in_ok-moment.moment.now (search rules)) ∙ ap number_in field
    ∙ ap (λ (them : List ItemValue). number_in (field_of 0x12 them)) same.0
