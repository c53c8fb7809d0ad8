-- The first blank is the end of the first word.
use Rattle.air_schedule.proofs.SplitLemmas.{first_word}
use Rattle.air_schedule.proofs.split.split_word.Goals as goal

pub returns : goal.returns
returns c = first_word c.args.line.now c.split_once.result c.split_once.ensures.cases
