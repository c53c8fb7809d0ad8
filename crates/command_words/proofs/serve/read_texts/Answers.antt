-- What the line gives are the numbers and the call that its texts write.
use Rattle.command_words.proofs.Names.{err_from_is_err_and}
use Rattle.command_words.proofs.LineLemmas.{handed_on}
use Rattle.command_words.proofs.Meanings.{serve_agrees, serve_from}
use Rattle.command_words.proofs.serve.read_texts.Goals as goal

pub returns-in_err-texts-clause-refused : goal.returns-in_err-texts-clause-refused
returns-in_err-texts-clause-refused c =
    let p = err_from_is_err_and c.from_residual.result c.from_residual.ensures.1 in
    rw (p.1, p.2) (λ usage me k blocks polls text. c.in_err-texts.ensures.refused (handed_on usage) text.line)

pub returns-in_default-clause-refused : goal.returns-in_default-clause-refused
returns-in_default-clause-refused c = λ usage me k blocks polls text.
    c.in_default.ensures.bad.none me (serve_agrees c.in_ok-texts.ensures.texts text).0.called

pub returns-in_default-number_or-clause-refused :
    goal.returns-in_default-number_or-clause-refused
returns-in_default-number_or-clause-refused c = λ usage me k blocks polls text.
    c.in_default-number_or.ensures.none k (rw c.from.ensures (serve_agrees c.in_ok-texts.ensures.texts text).1)

pub returns-in_default-number_or-2-clause-refused :
    goal.returns-in_default-number_or-2-clause-refused
returns-in_default-number_or-2-clause-refused c = λ usage me k blocks polls text.
    c.in_default-number_or-2.ensures.none blocks (rw c.from-2.ensures (serve_agrees c.in_ok-texts.ensures.texts text).0.blocks_given)

pub returns-in_default-number_or-3-clause-refused :
    goal.returns-in_default-number_or-3-clause-refused
returns-in_default-number_or-3-clause-refused c = λ usage me k blocks polls text.
    c.in_default-number_or-3.ensures.none polls (serve_agrees c.in_ok-texts.ensures.texts text).0.polls_given

pub returns-clause-text : goal.returns-clause-text
returns-clause-text c =
    serve_from c.in-Ok.me c.in-Some.most_outstanding c.in-Some-number_or.block_count c.in-Some-number_or-2.poll_count c.in_ok-texts.ensures.texts
    (record {
      called = c.in-Ok.ensures.call;
      blocks_given = rw c.from-2.ensures at c.in-Some-number_or.ensures.some;
      polls_given = c.in-Some-number_or-2.ensures.some;
    })
    (rw c.from.ensures at c.in-Some.ensures.some)
