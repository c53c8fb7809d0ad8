use Rattle.command_words.proofs.OneMeaning.{determined, has_meaning, only_one}
use Rattle.command_words.proofs.laws.one_meaning.Goals as goal

pub returns-clause-some : goal.returns-clause-some
returns-clause-some c = has_meaning

pub returns-clause-only_one : goal.returns-clause-only_one
returns-clause-only_one c = only_one

pub returns-clause-determined : goal.returns-clause-determined
returns-clause-determined c = determined
