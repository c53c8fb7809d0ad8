use Rattle.air_schedule.proofs.ReadLemmas.{one_schedule}
use Rattle.air_schedule.proofs.laws.one_schedule.Goals as goal

pub returns : goal.returns
returns c = one_schedule
