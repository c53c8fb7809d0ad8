use Rattle.std.proofs.Common.{length, arith}
use Rattle.ftl0_session.proofs.Names.{octets_due}
use Rattle.ftl0_session.proofs.downloads.SentLemmas.{sent-all}
use Rattle.ftl0_session.proofs.downloads.laws.sent_law.Goals as goal

pub returns : goal.returns
returns c store state is due = sent-all (length (octets_due store state)) store state is due (omega arith)
