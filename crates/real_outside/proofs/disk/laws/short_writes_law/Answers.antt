use Rattle.real_outside.proofs.Short.{one_write}
use Rattle.real_outside.proofs.disk.laws.short_writes_law.Goals as goal

pub returns : goal.returns
returns c octets written at calls some run = one_write octets written at calls some run
