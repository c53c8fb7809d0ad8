use Rattle.real_outside.proofs.tcp.Runs.{one_connection}
use Rattle.real_outside.proofs.tcp.laws.one_connection_law.Goals as goal

pub returns : goal.returns
returns c = one_connection
