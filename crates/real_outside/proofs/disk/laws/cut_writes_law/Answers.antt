use Rattle.real_outside.proofs.Short.{torn_write}
use Rattle.real_outside.proofs.disk.laws.cut_writes_law.Goals as goal

pub returns : goal.returns
returns c octets written at calls done run = torn_write octets written at calls done run
