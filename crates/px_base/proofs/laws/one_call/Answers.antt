use Rattle.px_base.proofs.Calls.{one_call}
use Rattle.px_base.proofs.laws.one_call.Goals as goal

pub returns : goal.returns
returns c = one_call
