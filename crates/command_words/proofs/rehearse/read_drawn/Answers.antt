-- What the line gives are the numbers that its options write.
use Rattle.command_words.proofs.RehearseTexts.{drawn_agrees, drawn_from}
use Rattle.command_words.proofs.rehearse.read_drawn.Goals as goal

pub returns-in_default-clause-refused : goal.returns-in_default-clause-refused
returns-in_default-clause-refused c = λ usage seed count text.
    c.in_default.ensures.none seed (drawn_agrees c.in_ok-texts.ensures.texts text).0

pub returns-in_default-given_number-clause-refused :
    goal.returns-in_default-given_number-clause-refused
returns-in_default-given_number-clause-refused c = λ usage seed count text.
    c.in_default-given_number.ensures.none count (drawn_agrees c.in_ok-texts.ensures.texts text).1

pub returns-clause-text : goal.returns-clause-text
returns-clause-text c = drawn_from _ _ c.in_ok-texts.ensures.texts c.in-Some.ensures.some c.in-Some-given_number.ensures.some
