-- What the line gives are the terms that its texts give, a number and a name.
use Rattle.std.proofs.Common.{ℕ, List, refl, subst}
use Rattle.command_words.proofs.Names.{err_from_is_err_and, fetch_places, NumberText}
use Rattle.command_words.proofs.LineLemmas.{handed_on}
use Rattle.command_words.proofs.Meanings.{air_from}
use Rattle.command_words.proofs.ClientTexts.{client_agrees, client_from, number_of}
use Rattle.command_words.proofs.client.fetch_request.Goals as goal

pub returns-in_err-texts-clause-refused : goal.returns-in_err-texts-clause-refused
returns-in_err-texts-clause-refused c =
    let p = err_from_is_err_and c.from_residual.result c.from_residual.ensures.1 in
    rw (p.1, p.2) (λ usage terms number name text. c.in_err-texts.ensures.refused (handed_on usage) text.text.line)

pub returns-in_default-clause-refused : goal.returns-in_default-clause-refused
returns-in_default-clause-refused c = λ usage terms number name text.
    c.in_default.ensures.none terms (client_agrees fetch_places refl refl c.in_ok-texts.ensures.texts text.text).1

pub returns-in_default-read_number-clause-refused :
    goal.returns-in_default-read_number-clause-refused
returns-in_default-read_number-clause-refused c = λ usage terms number name text.
    c.in_default-read_number.ensures.none number
    (subst (λ (t : List ℕ). NumberText 1 4294967295 t number) (number_of c.in_ok-texts.ensures.texts text.text) text.in_range)

pub returns-clause-asks : goal.returns-clause-asks
returns-clause-asks c = λ disk air named form.
    air_from disk air _ named form
    (record {
      number_text = c.in_ok-texts.texts.number.now;
      text = client_from _ c.in_ok-texts.ensures.texts c.in-Some.ensures.some;
      in_range = c.in-Some-read_number.ensures.some;
    })
