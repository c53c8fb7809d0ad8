use Rattle.real_outside.proofs.tcp.Sending.{cut_send}
use Rattle.real_outside.proofs.tcp.laws.cut_send_law.Goals as goal

pub returns : goal.returns
returns c = cut_send
