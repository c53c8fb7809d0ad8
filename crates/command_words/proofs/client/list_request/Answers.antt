-- What the line gives are the terms that its texts give, and tokens in hexadecimal.
use Rattle.std.proofs.Common.{ℕ, List, refl, subst}
use Rattle.command_words.proofs.Names.{err_from_is_err_and, HexText, client_places}
use Rattle.command_words.proofs.LineLemmas.{handed_on}
use Rattle.command_words.proofs.Meanings.{air_from}
use Rattle.command_words.proofs.ClientTexts.{client_agrees, client_from, subject_of}
use Rattle.command_words.proofs.client.list_request.Goals as goal

pub returns-in_err-texts-clause-refused : goal.returns-in_err-texts-clause-refused
returns-in_err-texts-clause-refused c =
    let p = err_from_is_err_and c.from_residual.result c.from_residual.ensures.1 in
    rw (p.1, p.2) (λ usage terms tokens text. c.in_err-texts.ensures.refused (handed_on usage) text.text.line)

pub returns-in_default-clause-refused : goal.returns-in_default-clause-refused
returns-in_default-clause-refused c = λ usage terms tokens text.
    c.in_default.ensures.none terms (client_agrees client_places refl refl c.in_ok-texts.ensures.texts text.text).1

pub returns-then-not-is_hex-clause-refused : goal.returns-then-not-is_hex-clause-refused
returns-then-not-is_hex-clause-refused c = λ usage terms tokens text.
    c.is_hex.ensures.none c.if-not-is_hex.true tokens
    (subst (λ (t : List ℕ). HexText t tokens) (subject_of c.in_ok-texts.ensures.texts text.text) text.hexed)

pub returns-clause-asks : goal.returns-clause-asks
returns-clause-asks c = λ disk air named form.
    let (tokens, hexed) = c.is_hex.ensures.some c.if-not-is_hex.false in (
      tokens,
      hexed,
      air_from disk air _ named form
          (record {
            hex = c.in_ok-texts.texts.subject.now;
            text = client_from _ c.in_ok-texts.ensures.texts c.in-Some.ensures.some;
            hexed = hexed;
          }),
    )
