-- What the line gives are the numbers and the call that its texts write.
use Rattle.command_words.proofs.Names.{err_from_is_err_and}
use Rattle.command_words.proofs.LineLemmas.{handed_on}
use Rattle.command_words.proofs.Meanings.{session_agrees, session_from}
use Rattle.command_words.proofs.request.read_texts.Goals as goal

pub returns-in_err-texts-clause-refused : goal.returns-in_err-texts-clause-refused
returns-in_err-texts-clause-refused c =
    let p = err_from_is_err_and c.from_residual.result c.from_residual.ensures.1 in
    rw (p.1, p.2) (λ usage caller moment blocks polls text. c.in_err-texts.ensures.refused (handed_on usage) text.line)

pub returns-in_default-clause-refused : goal.returns-in_default-clause-refused
returns-in_default-clause-refused c = λ usage caller moment blocks polls text.
    c.in_default.ensures.bad.none caller (session_agrees c.in_ok-texts.ensures.texts text).0.called

pub returns-in_default-optional_moment-clause-refused :
    goal.returns-in_default-optional_moment-clause-refused
returns-in_default-optional_moment-clause-refused c = λ usage caller moment blocks polls text.
    c.in_default-optional_moment.ensures.none moment (session_agrees c.in_ok-texts.ensures.texts text).1

pub returns-in_default-number_or-clause-refused :
    goal.returns-in_default-number_or-clause-refused
returns-in_default-number_or-clause-refused c = λ usage caller moment blocks polls text.
    c.in_default-number_or.ensures.none blocks (rw c.from.ensures (session_agrees c.in_ok-texts.ensures.texts text).0.blocks_given)

pub returns-in_default-number_or-2-clause-refused :
    goal.returns-in_default-number_or-2-clause-refused
returns-in_default-number_or-2-clause-refused c = λ usage caller moment blocks polls text.
    c.in_default-number_or-2.ensures.none polls (session_agrees c.in_ok-texts.ensures.texts text).0.polls_given

pub returns-clause-text : goal.returns-clause-text
returns-clause-text c =
    session_from c.in-Ok.caller c.in-Some.moment c.in-Some-number_or.block_count c.in-Some-number_or-2.poll_count c.in_ok-texts.ensures.texts
    (record {
      called = c.in-Ok.ensures.call;
      blocks_given = rw c.from.ensures at c.in-Some-number_or.ensures.some;
      polls_given = c.in-Some-number_or-2.ensures.some;
    })
    c.in-Some.ensures.some
