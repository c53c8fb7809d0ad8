-- What the line gives are the terms that its texts give, and a name.
use Rattle.std.proofs.Common.{◌≡◌, ◌==◌, ◌≤◌, ℕ, zero, suc, length, false, refl, sym, ap, ◌∙◌, arith, eqb-true, true≢false}
use Rattle.command_words.proofs.Names.{err_from_is_err_and, client_places}
use Rattle.command_words.proofs.LineLemmas.{handed_on}
use Rattle.command_words.proofs.Meanings.{air_from}
use Rattle.command_words.proofs.ClientTexts.{client_agrees, client_from, subject_of}
use Rattle.command_words.proofs.client.send_request.Goals as goal
use Rattle.command_words.proofs.client.send_request.Goals.{then-is_empty-via-then-is_empty, then-is_empty-via-else-is_empty+then-texts-gt-MOST_NAME}

filled : (n : ℕ) → (n == 0) ≡ false → 1 ≤ n
filled zero e = absurd (true≢false e)
filled (suc n) e = omega arith

pub returns-in_err-texts-clause-refused : goal.returns-in_err-texts-clause-refused
returns-in_err-texts-clause-refused c =
    let p = err_from_is_err_and c.from_residual.result c.from_residual.ensures.1 in
    rw (p.1, p.2) (λ usage terms name text. c.in_err-texts.ensures.refused (handed_on usage) text.text.line)

pub returns-in_default-clause-refused : goal.returns-in_default-clause-refused
returns-in_default-clause-refused c = λ usage terms name text.
    c.in_default.ensures.none terms (client_agrees client_places refl refl c.in_ok-texts.ensures.texts text.text).1

pub returns-then-is_empty-clause-refused : goal.returns-then-is_empty-clause-refused
returns-then-is_empty-clause-refused c = λ usage terms name text.
    let same : name ≡ c.in_ok-texts.texts.subject.now = subject_of c.in_ok-texts.ensures.texts text.text in
    let some = text.some in
    let few = text.few in
    elim c.then-is_empty.branch [
      | then-is_empty-via-then-is_empty w ↦ omega (arith, ap length same, eqb-true (length c.in_ok-texts.texts.subject.now) 0 (sym c.is_empty.ensures ∙ w.if-is_empty.true))
      | then-is_empty-via-else-is_empty+then-texts-gt-MOST_NAME w ↦ omega (arith, ap length same, w.if-texts-gt-MOST_NAME.true)
    ]

pub returns-clause-asks : goal.returns-clause-asks
returns-clause-asks c = λ disk air named form.
    air_from disk air _ named form
    (record {
      text = client_from _ c.in_ok-texts.ensures.texts c.in-Some.ensures.some;
      some = filled (length c.in_ok-texts.texts.subject.now) (sym c.is_empty.ensures ∙ c.if-is_empty.false);
      few = c.if-texts-gt-MOST_NAME.false;
    })
