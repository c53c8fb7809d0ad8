use Rattle.real_outside.proofs.tcp.Sending.{whole_send}
use Rattle.real_outside.proofs.tcp.laws.whole_send_law.Goals as goal

pub returns : goal.returns
returns c = whole_send
