-- A text that isn't read spells no call.
use Rattle.command_words.proofs.terms.read_terms.Goals as goal

pub returns-in_default-clause-none : goal.returns-in_default-clause-none
returns-in_default-clause-none c = λ terms given. c.in_default.ensures.bad.none terms.server given.server_called

pub returns-in_default-read-clause-none : goal.returns-in_default-read-clause-none
returns-in_default-read-clause-none c = λ terms given. c.in_default-read.ensures.bad.none terms.me given.me_called
