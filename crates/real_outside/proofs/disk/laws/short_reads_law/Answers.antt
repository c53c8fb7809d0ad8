use Rattle.real_outside.proofs.Short.{one_read}
use Rattle.real_outside.proofs.disk.laws.short_reads_law.Goals as goal

pub returns : goal.returns
returns c octets at count calls true_reads run = one_read octets at count calls true_reads run
