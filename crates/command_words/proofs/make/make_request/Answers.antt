-- AIR has one of its forms, and the line gives a file that may be made.
use Rattle.std.proofs.Common.{◌≡◌, ◌∙◌, None, Some, ap, not, refl, sym}
use Rattle.command_words.proofs.Names.{err_from_is_err_and, make_value, spec_refusal}
use Rattle.command_words.proofs.LineLemmas.{handed_on}
use Rattle.command_words.proofs.Meanings.{air_read, air_unread, make_agrees, make_from, neither_from, neither_text, says_one}
use Rattle.command_words.proofs.make.make_request.Goals as goal

pub returns-then-is_none-clause-refused : goal.returns-then-is_none-clause-refused
returns-then-is_none-clause-refused c = λ usage disk body kept spec asks.
    air_unread c.args.air.now c.read_air.result c.read_air.ensures.none (c.is_none.ensures ∙ ap not c.if-is_none.true) (neither_text asks).1

pub returns-in_err-texts-clause-refused : goal.returns-in_err-texts-clause-refused
returns-in_err-texts-clause-refused c =
    let p = err_from_is_err_and c.from_residual.result c.from_residual.ensures.1 in
    rw (p.1, p.2) (λ usage disk body kept spec asks. c.in_err-texts.ensures.refused (handed_on usage) (neither_text asks).0.line)

pub returns-in_default-clause-refused : goal.returns-in_default-clause-refused
returns-in_default-clause-refused c = λ usage disk body kept spec asks.
    c.in_default.ensures.none spec (make_agrees c.in_ok-texts.ensures.texts (neither_text asks).0)

pub returns-in-Some-refusal-clause-refused : goal.returns-in-Some-refusal-clause-refused
returns-in-Some-refusal-clause-refused c = λ usage disk body kept spec asks.
    let text = (neither_text asks).0 in
    let same : spec ≡ make_value c.in-Some.header = says_one _ spec (make_value c.in-Some.header) (make_agrees c.in_ok-texts.ensures.texts text) c.in-Some.ensures.says in
    let none : Some c.in-Some-refusal.field-0 ≡ None = c.in-Some-refusal.ensures ∙ sym (ap spec_refusal same) ∙ text.possible in
    absurd cc

pub returns-in-None-clause-asks : goal.returns-in-None-clause-asks
returns-in-None-clause-asks c = λ disk.
    neither_from disk _ _ (air_read c.args.air.now c.read_air.result c.read_air.ensures.some (c.is_none.ensures ∙ ap not c.if-is_none.false))
    (make_from _ _ _ c.in_ok-texts.ensures.texts refl refl c.in-Some.ensures.says (sym c.in-None.ensures))
