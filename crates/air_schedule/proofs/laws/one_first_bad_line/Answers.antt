use Rattle.air_schedule.proofs.ReadLemmas.{one_first_bad_line}
use Rattle.air_schedule.proofs.laws.one_first_bad_line.Goals as goal

pub returns-clause-one : goal.returns-clause-one
returns-clause-one c = one_first_bad_line
